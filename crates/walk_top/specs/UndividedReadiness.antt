-- When a graph may be walked on one part.
use Rattle.std.specs.Prelude.{ℕ, ◌≡◌, List, length}
use Rattle.walk_model.specs.declared.graph.Edge.{Edge}
use Rattle.walk_model.specs.Settings.{Settings}
use Rattle.walk_model.specs.Graph.{vertices_of}
use Rattle.vertex_partition.specs.PartViews.{IsPartOf}
use Rattle.traveller.specs.Standing.{Suits}
use Rattle.shard_core.specs.Abreast.{OwnsAll}
use Rattle.walk_top.specs.declared.undivided.Undivided.{Undivided}
use Rattle.walk_top.specs.Readiness.{ranked_graph}

-- a graph is ready to be walked by a plan with a seed on one part: the names are those of the graph, the run is the plan's
-- over them, and suits the part, which has all rows of the graph in ranks
pub record IsUndividedFor (edges : List Edge) (plan : Settings) (seed : ℕ) (u : Undivided) : Type 0 where
  pub names : u.names ≡ vertices_of edges
  pub plan_is : u.run.plan ≡ plan
  pub seed_is : u.run.seed ≡ seed
  pub vertices : u.run.vertices ≡ length (vertices_of edges)
  pub part : IsPartOf (ranked_graph (vertices_of edges) edges) u.part
  pub suits : Suits u.run u.part
  pub all : OwnsAll u.part
