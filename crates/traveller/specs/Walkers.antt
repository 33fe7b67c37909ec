-- A walker between two turns: the plain data of a traveller.
use Rattle.std.specs.Prelude.{ℕ, ◌+◌, Bool, true, false, Option, Some, None, option_map}
use Rattle.walk_model.specs.declared.messages.Ask.{Ask}
use Rattle.walk_model.specs.declared.messages.Question.{Question}
use Rattle.walk_model.specs.declared.messages.Question.TheVariants as question
use Rattle.walk_model.specs.declared.states.State.{State}
use Rattle.walk_model.specs.Walk.{first_state}
use Rattle.traveller.specs.declared.modes.Mode.{Mode}
use Rattle.traveller.specs.declared.modes.Mode.TheVariants.{Fresh, Darts, Asked, AskedRow, Chosen, Over}

-- a walker: its number, where it starts, how many steps it may take, the state of its walk, and how far
-- it has come within its step
pub record Walker : Type 0 where
  pub number : ℕ
  pub start : ℕ
  pub length : ℕ
  pub state : State
  pub mode : Mode

-- a walker that has made no step
abbrev pub first_walker : ℕ → ℕ → ℕ → Walker
first_walker number start length = record {
  number = number;
  start = start;
  length = length;
  state = first_state start;
  mode = Fresh;
}

-- a walker at the beginning of a step
abbrev pub fresh_at : ℕ → ℕ → ℕ → State → Walker
fresh_at number start length s = record { number = number; start = start; length = length; state = s; mode = Fresh }

-- the question that a walker waits for
abbrev pub question_of : Mode → Option Question
question_of (Asked left place question) = Some question
question_of (AskedRow place question) = Some question
question_of _ = None

-- whether a walker can go on by itself
abbrev pub is_ready : Mode → Bool
is_ready Fresh = true
is_ready (Darts left place) = true
is_ready (Chosen edge place) = true
is_ready _ = false

-- whether a walker stands at the beginning of a step
abbrev pub is_fresh : Mode → Bool
is_fresh Fresh = true
is_fresh _ = false

-- whether its walk has ended
abbrev pub is_over : Mode → Bool
is_over Over = true
is_over _ = false

-- the vertex whose owner is asked
abbrev pub asked_vertex : Question → ℕ
asked_vertex (question.Edge t x) = t
asked_vertex (question.Row t) = t

-- the ask of a walker's question about the step that it is in, from the part where it stands
abbrev pub ask_with : (ℕ → ℕ) → Walker → Question → Ask
ask_with owner v q = record {
  walker = v.number;
  step = v.state.steps + 1;
  home = owner v.state.at;
  question = q;
}

-- the ask that a walker waits for
abbrev pub ask_of : (ℕ → ℕ) → Walker → Option Ask
ask_of owner v = option_map (ask_with owner v) (question_of v.mode)
