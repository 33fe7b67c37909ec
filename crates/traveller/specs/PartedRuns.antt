-- A run on a graph whose vertices have owners, and what each of its walkers goes by.
use Rattle.std.specs.Prelude.{ℕ, zero, suc, List, Option, Some, option_and_then}
use Rattle.walk_model.specs.declared.graph.Edge.{Edge}
use Rattle.walk_model.specs.declared.messages.Letter.{Letter}
use Rattle.walk_model.specs.declared.states.State.{State}
use Rattle.walk_model.specs.Settings.{Settings}
use Rattle.walk_model.specs.Words.{word}
use Rattle.walk_model.specs.Course.{Course, course}
use Rattle.walk_model.specs.Walk.{first_state, next_state, walk}
use Rattle.walk_model.specs.Letters.{Journey, letters_after}

-- a run among parts: the edges of the graph, what the walkers do, the seed, the part that owns each
-- vertex, how many walkers there are, and where each of them starts
pub record PartedRun : Type 0 where
  pub edges : List Edge
  pub plan : Settings
  pub seed : ℕ
  pub owner : ℕ → ℕ
  pub walkers : ℕ
  pub start : ℕ → ℕ

-- the journey of a walker's number from a vertex: its own random words, among the owners
abbrev pub journey_from : PartedRun → ℕ → ℕ → Journey
journey_from g number start = record {
  course = course g.edges g.plan (word g.seed number) start;
  owner = g.owner;
  walker = number;
}

-- the journey of a walker of the run, from its own start
abbrev pub journey_in : PartedRun → ℕ → Journey
journey_in g number = journey_from g number (g.start number)

-- the plain walk of a walker of the run
abbrev pub walk_in : PartedRun → ℕ → List ℕ
walk_in g number = walk (journey_in g number).course g.plan.length

-- the letters of that walk
abbrev pub letters_in : PartedRun → ℕ → List Letter
letters_in g number = letters_after g.plan.length (journey_in g number) (first_state (g.start number))

-- the state of a walk after so many steps, or none where it has ended before
unfoldable pub state_after : ℕ → Course → Option State
state_after zero c = Some (first_state c.start)
state_after (suc n) c = option_and_then (next_state c) (state_after n c)
