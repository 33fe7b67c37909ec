-- When walks may begin.
use Rattle.std.specs.Prelude.{ℕ, ◌≡◌, ◌<◌, List, length, map, All}
use Rattle.walk_model.specs.declared.graph.Edge.{Edge}
use Rattle.walk_model.specs.Cuts.{costs_of, cuts_of}
use Rattle.walk_model.specs.Numbers.{below}
use Rattle.walk_model.specs.Settings.{Settings}
use Rattle.walk_model.specs.Graph.{vertices_of}
use Rattle.walk_model.specs.Walk.{walker_count}
use Rattle.vertex_names.specs.Ranks.{ranked}
use Rattle.csr_store.specs.RowGraph.{RowGraph}
use Rattle.vertex_partition.specs.PartViews.{PartView}
use Rattle.traveller.specs.declared.runs.Run.{Run}
use Rattle.traveller.specs.Standing.{Suits, parted}
use Rattle.shard_core.specs.SoundWorlds.{ArePartsOf}
use Rattle.shard_core.specs.Walks.{walks_in}
use Rattle.walk_top.specs.declared.readying.Ready.{Ready}
use Rattle.walk_top.specs.Starts.{IsRankOf}

-- a graph in ranks
abbrev pub ranked_graph : List ℕ → List Edge → RowGraph
ranked_graph names edges = record { edges = map (ranked names) edges; vertices = length names }

-- a run can be walked: it suits its parts, which are all parts of a graph, in order, and where there are walkers there is a vertex
pub record IsWalkable (run : Run) (parts : List PartView) : Type 0 where
  pub suits : All (Suits run) parts
  pub graph : RowGraph
  pub cuts : List ℕ
  pub of_graph : ArePartsOf graph run.plan.weighted cuts parts
  pub some : 0 < walker_count run.plan.start run.vertices → 0 < run.vertices

-- where the vertices of a graph in ranks are cut into so many parts of like cost
abbrev pub cuts_in : RowGraph → ℕ → List ℕ
cuts_in g parts = cuts_of (costs_of g.edges (below g.vertices)) parts

-- a graph is ready to be walked by a plan with a seed in so many parts: the names are those of the graph, the run is
-- the plan's over them, its start has its rank, and the parts are, in order, all parts of the graph in ranks between
-- the cuts
pub record IsReadyFor (edges : List Edge) (plan : Settings) (seed parts : ℕ) (r : Ready) : Type 0 where
  pub names : r.names ≡ vertices_of edges
  pub plan_is : r.run.plan ≡ plan
  pub seed_is : r.run.seed ≡ seed
  pub vertices : r.run.vertices ≡ length (vertices_of edges)
  pub rank : IsRankOf plan.start (vertices_of edges) r.run.start
  pub cuts_are : r.cuts.cuts ≡ cuts_in (ranked_graph (vertices_of edges) edges) parts
  pub parts_are : (let g = ranked_graph (vertices_of edges) edges in ArePartsOf g r.run.plan.weighted (cuts_in g parts) r.parts.items)
  pub walkable : IsWalkable r.run r.parts.items

-- the walks of a graph that is ready, in ranks, on a graph of which it has the parts
abbrev pub ready_walks : RowGraph → List ℕ → Ready → List (List ℕ)
ready_walks g cuts r = walks_in (parted g r.run cuts)
