-- What walks go by.
use Rattle.std.specs.Prelude.{ℕ, List}
use Rattle.walk_model.specs.declared.graph.Edge.{Edge}
use Rattle.walk_model.specs.Settings.{Settings}
use Rattle.walk_model.specs.Graph.{vertices_of}

-- a run on a graph: its edges, its vertices in rising order, what the walkers do, and the seed
pub record GraphRun : Type 0 where
  pub edges : List Edge
  pub vertices : List ℕ
  pub plan : Settings
  pub seed : ℕ

-- the run on the graph of a list of edges
abbrev pub run_on : List Edge → Settings → ℕ → GraphRun
run_on edges plan seed = record { edges = edges; vertices = vertices_of edges; plan = plan; seed = seed }

-- what one walk goes by: the edges of the graph, what the walker does, its own random words, and
-- where it starts
pub record Course : Type 0 where
  pub edges : List Edge
  pub plan : Settings
  pub words : ℕ → ℕ
  pub start : ℕ

-- a course by its four parts
abbrev pub course : List Edge → Settings → (ℕ → ℕ) → ℕ → Course
course edges plan words start = record { edges = edges; plan = plan; words = words; start = start }
