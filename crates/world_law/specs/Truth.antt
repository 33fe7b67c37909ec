-- When a walker's data are those of its plain walk.
use Rattle.std.specs.Prelude.{◌≡◌, ℕ, suc, ◌+◌, ◌<◌, ◌≤◌, nat_lt, ◌==◌, if◌then◌else◌, length, true, false, Option, Some, None}
use Rattle.walk_model.specs.declared.messages.Question.{Question}
use Rattle.walk_model.specs.declared.states.State.{State}
use Rattle.walk_model.specs.Dart.{hit, darts}
use Rattle.walk_model.specs.Walk.{next_state}
use Rattle.walk_model.specs.Letters.{Journey}
use Rattle.traveller.specs.declared.modes.Mode.{Mode}
use Rattle.traveller.specs.declared.modes.Mode.TheVariants.{Fresh, Darts, Asked, AskedRow, Chosen, Over}
use Rattle.traveller.specs.PartedRuns.{PartedRun, journey_from, state_after}
use Rattle.traveller.specs.Walkers.{Walker}
use Rattle.traveller.specs.Turns.{stop_coin, restart_coin, row_at, board_at, asker_at, edge_question, row_question}

-- the next state of a walk that may make at most so many steps, or none at its end
abbrev pub next_within : Journey → ℕ → State → Option State
next_within j most s = if nat_lt s.steps most then next_state j.course s else None

-- a step has come to the choice of an edge: the walk goes on, no coin fell, and there is an edge
pub record Chooses (j : Journey) (most : ℕ) (s : State) : Type 0 where
  pub going : nat_lt s.steps most ≡ true
  pub stays : (stop_coin j s).0 ≡ false
  pub onward : (restart_coin j s).0 ≡ false
  pub some : (length (row_at j s) == 0) ≡ false

-- a step has come to a dart at a place, with so many left: all before it were in vain
pub record Came (j : Journey) (most : ℕ) (s : State) (left next : ℕ) : Type 0 where
  pub chooses : Chooses j most s
  pub thrown : ℕ
  pub all : thrown + left ≡ j.course.plan.retries
  pub place : next ≡ (restart_coin j s).1 + thrown
  pub vain : (i : ℕ) → i < thrown → hit (board_at j s) (j.course.words ((restart_coin j s).1 + i)) ≡ None

-- a step has chosen an edge, the next word being at a place
pub record Decided (j : Journey) (most : ℕ) (s : State) (edge place : ℕ) : Type 0 where
  pub chooses : Chooses j most s
  pub taken : darts j.course.plan.retries (board_at j s) j.course.words (restart_coin j s).1 ≡ Some (edge, place)

-- a step has come to a question
pub record Needs (j : Journey) (most : ℕ) (s : State) (left place : ℕ) (wanted : Option Question) (q : Question) : Type 0 where
  pub came : Came j most s left place
  pub needed : wanted ≡ Some q

-- the mode is one that the walk passes within the step from a state
abbrev pub Passes : Journey → ℕ → State → Mode → Type 0
Passes j most s Fresh = Unit {0}
Passes j most s (Darts left place) = Came j most s left place
Passes j most s (Asked left place q) =
    Needs j most s (suc left) place (edge_question (asker_at j s) (board_at j s) (j.course.words place)) q
Passes j most s (AskedRow place q) = Needs j most s 0 place (row_question (asker_at j s)) q
Passes j most s (Chosen edge place) = Decided j most s edge place
Passes j most s Over = next_within j most s ≡ None

-- a walker is true to a run: it is one of the run's walkers, its state is that of its plain walk after as
-- many steps, and its mode is one that the walk passes within the step
pub record IsTrueTo (g : PartedRun) (v : Walker) : Type 0 where
  pub number : v.number < g.walkers
  pub start : v.start ≡ g.start v.number
  pub length : v.length ≡ g.plan.length
  pub within : v.state.steps ≤ v.length
  pub state : state_after v.state.steps (journey_from g v.number v.start).course ≡ Some v.state
  pub mode : Passes (journey_from g v.number v.start) v.length v.state v.mode
