-- What is still to come of a walk from a walker's data on.
use Rattle.std.specs.Prelude.{ℕ, suc, ◌+◌, ◌-◌, nat_lt, if◌then◌else◌, List, [], ◌++◌, Option, Some, None, option_and_then}
use Rattle.walk_model.specs.declared.messages.Letter.{Letter}
use Rattle.walk_model.specs.declared.states.State.{State}
use Rattle.walk_model.specs.Course.{Course}
use Rattle.walk_model.specs.Dart.{Board, hit, darts, scanned}
use Rattle.walk_model.specs.Walk.{moved_along}
use Rattle.walk_model.specs.Letters.{Journey, Asker, dart_letters, unless_hit, ask_letters, letters_then, letters_after}
use Rattle.traveller.specs.declared.modes.Mode.{Mode}
use Rattle.traveller.specs.declared.modes.Mode.TheVariants.{Fresh, Darts, Asked, AskedRow, Chosen, Over}
use Rattle.traveller.specs.PartedRuns.{PartedRun, journey_from}
use Rattle.traveller.specs.Walkers.{Walker}
use Rattle.traveller.specs.Turns.{row_at, board_at, asker_at}
use Rattle.world_law.specs.Truth.{next_within}

-- the letters of at most so many darts from a place on, and of the scan after them
abbrev pub throw_letters : ℕ → Course → Option Asker → Board → ℕ → List Letter
throw_letters left c None b place = []
throw_letters left c (Some a) b place = dart_letters left c a b place

-- the letters that are still to come before the step is decided; where the walker waits, those after the
-- reply
abbrev pub asks_left : Journey → ℕ → State → Mode → List Letter
asks_left j most s Fresh = if nat_lt s.steps most then ask_letters j s else []
asks_left j most s (Darts left place) = throw_letters left j.course (asker_at j s) (board_at j s) place
asks_left j most s (Asked left place q) =
    unless_hit (hit (board_at j s) (j.course.words place))
    (throw_letters left j.course (asker_at j s) (board_at j s) (place + 1))
asks_left j most s _ = []

-- the state that the step leads to, or none where the walk ends
abbrev pub leads_to : Journey → ℕ → State → Mode → Option State
leads_to j most s Fresh = next_within j most s
leads_to j most s (Darts left place) =
    option_and_then (moved_along s (row_at j s)) (darts left (board_at j s) j.course.words place)
leads_to j most s (Asked left place q) =
    option_and_then (moved_along s (row_at j s)) (darts (suc left) (board_at j s) j.course.words place)
leads_to j most s (AskedRow place q) =
    option_and_then (moved_along s (row_at j s)) (scanned (board_at j s) j.course.words place)
leads_to j most s (Chosen edge place) = moved_along s (row_at j s) (edge, place)
leads_to j most s Over = None

-- the letters that are still to come from a mode within the step from a state
abbrev pub letters_within : Journey → ℕ → State → Mode → List Letter
letters_within j most s m =
    asks_left j most s m ++ letters_then j s (leads_to j most s m) (letters_after (most - suc s.steps) j)

-- the letters that are still to come of a walker's walk; where it waits, those after the reply
unfoldable pub letters_from : PartedRun → Walker → List Letter
letters_from g v = letters_within (journey_from g v.number v.start) v.length v.state v.mode
