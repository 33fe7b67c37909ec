-- When a walker can be advanced in a part.
use Rattle.std.specs.Prelude.{◌≡◌, ℕ, ◌^◌, ◌≤◌, ◌<◌, List, length, Some, IfSome, ⊤}
use Rattle.walk_model.specs.Graph.{row}
use Rattle.walk_model.specs.Cuts.{owner}
use Rattle.walk_model.specs.Fits.{reach_of}
use Rattle.walk_model.specs.Walk.{walker_count}
use Rattle.walk_model.specs.Letters.{Journey}
use Rattle.csr_store.specs.RowGraph.{RowGraph}
use Rattle.vertex_partition.specs.PartViews.{PartView, Owns}
use Rattle.traveller.specs.declared.modes.Mode.{Mode}
use Rattle.traveller.specs.declared.modes.Mode.TheVariants.{Fresh, Darts, Asked, AskedRow, Chosen, Over}
use Rattle.traveller.specs.declared.runs.Run.{Run}
use Rattle.traveller.specs.Runs.{start_rank}
use Rattle.traveller.specs.PartedRuns.{PartedRun, journey_from}
use Rattle.traveller.specs.Turns.{asker_at, board_at, edge_question, row_question}
use Rattle.traveller.specs.Walkers.{Walker}
use Rattle.traveller.specs.Locals.{IsLocal}

-- the run on a graph that is cut into parts
abbrev pub parted : RowGraph → Run → List ℕ → PartedRun
parted g run cuts = record {
  edges = g.edges;
  plan = run.plan;
  seed = run.seed;
  owner = owner cuts;
  walkers = walker_count run.plan.start run.vertices;
  start = start_rank run.plan.start run.vertices run.start;
}

-- the journey of a walker on a graph
abbrev pub journey_on : RowGraph → Run → List ℕ → Walker → Journey
journey_on g run cuts w = journey_from (parted g run cuts) w.number w.start

-- a part seen as the graph of its own edges
abbrev pub own_graph : PartView → RowGraph
own_graph p = record { edges = p.edges; vertices = p.vertices }

-- a run suits a part: it is one over as many vertices, the tables are by its weights, and no vertex of
-- the part overflows
pub record Suits (run : Run) (p : PartView) : Type 0 where
  pub vertices : run.vertices ≡ p.vertices
  pub weighted : p.weighted ≡ run.plan.weighted
  pub fits : (v : ℕ) → Owns p v → reach_of p.edges run.plan v ≤ 2 ^ 62

-- a walker starts and stands at vertices, and the vertex before, if there is one, is one too
pub record IsWithin (vertices : ℕ) (w : Walker) : Type 0 where
  pub start : w.start < vertices
  pub at : w.state.at < vertices
  pub previous : IfSome w.state.previous (λ t. t < vertices)

-- a mode that is possible where a walker stands
abbrev pub IsPossible : Run → PartView → Walker → Mode → Type 0
IsPossible run p w Fresh = ⊤
IsPossible run p w (Darts left place) = (0 < length (row p.edges w.state.at)) × (left ≤ run.plan.retries)
IsPossible run p w (Asked left place question) =
    (0 < length (row p.edges w.state.at)) × (left < run.plan.retries)
    × (let j = journey_on (own_graph p) run p.cuts w in
    edge_question (asker_at j w.state) (board_at j w.state) (j.course.words place) ≡ Some question)
IsPossible run p w (AskedRow place question) =
    (0 < length (row p.edges w.state.at))
    × (row_question (asker_at (journey_on (own_graph p) run p.cuts w) w.state) ≡ Some question)
IsPossible run p w (Chosen edge place) = edge < length (row p.edges w.state.at)
IsPossible run p w Over = ⊤

-- a walker stands in a run and a part
pub record StandsIn (run : Run) (p : PartView) (w : Walker) : Type 0 where
  pub suits : Suits run p
  pub within : IsWithin p.vertices w
  pub owned : owner p.cuts w.state.at ≡ p.part
  pub possible : IsPossible run p w w.mode

-- its step asks no other part
abbrev pub StepsLocally : Run → PartView → Walker → Type 0
StepsLocally run p w = IsLocal p run.plan.rule w.state.previous

-- a walker that has chosen an edge stands at a vertex of the part, and the edge is in its row
abbrev pub CanGo : PartView → Walker → Mode → Type 0
CanGo p w (Chosen edge place) = (owner p.cuts w.state.at ≡ p.part) × (edge < length (row p.edges w.state.at))
CanGo p w _ = ⊤
