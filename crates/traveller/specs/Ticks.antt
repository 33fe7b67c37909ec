-- How many columns a walker reads in one turn: what a counter of steps grows by.
use Rattle.std.specs.Prelude.{ℕ, zero, suc, ◌+◌, nat_lt, ◌==◌, if◌then◌else◌, List, length, Option, Some, None}
use Rattle.walk_model.specs.declared.graph.Edge.{Edge}
use Rattle.walk_model.specs.declared.messages.Question.{Question}
use Rattle.walk_model.specs.declared.states.State.{State}
use Rattle.walk_model.specs.Words.{fold_word}
use Rattle.walk_model.specs.Dart.{Board, main_area, area, hit}
use Rattle.walk_model.specs.Letters.{Journey, Asker}
use Rattle.traveller.specs.declared.modes.Mode.{Mode}
use Rattle.traveller.specs.declared.modes.Mode.TheVariants.{Fresh, Darts}
use Rattle.traveller.specs.PartedRuns.{PartedRun, journey_from}
use Rattle.traveller.specs.Turns.{stop_coin, restart_coin, row_at, board_at, asker_at, edge_question}
use Rattle.traveller.specs.Walkers.{Walker}

-- the columns that are read for a place of a board: one in the main part, none in the strip
abbrev pub column_at : Board → Option ℕ → ℕ
column_at b None = 0
column_at b (Some x) = if nat_lt x (main_area b) then 1 else 0

-- the columns that the dart with this word reads
unfoldable pub dart_column : Board → ℕ → ℕ
dart_column b w = column_at b (fold_word (area b) w)

-- the columns that are read after a dart, by the question that it needs and the edge that it takes:
-- none, or else those of the darts that are left
abbrev pub later_columns : Option Question → Option ℕ → ℕ → ℕ
later_columns (Some q) taken later = 0
later_columns None (Some edge) later = 0
later_columns None None later = later

-- the columns that at most so many darts from a place on read
unfoldable pub columns : ℕ → Option Asker → Board → (ℕ → ℕ) → ℕ → ℕ
columns zero r b words place = 0
columns (suc left) r b words place =
    dart_column b (words place) + later_columns (edge_question r b (words place)) (hit b (words place)) (columns left r b words (place + 1))

-- those of so many darts on a board of a row: none where it is empty
abbrev pub row_columns : ℕ → Option Asker → Board → List Edge → (ℕ → ℕ) → ℕ → ℕ
row_columns left r b out words place = if length out == 0 then 0 else columns left r b words place

-- those of the choice among the edges where a walker stands
abbrev pub choice_columns : Journey → State → ℕ → ℕ
choice_columns j s place = row_columns j.course.plan.retries (asker_at j s) (board_at j s) (row_at j s) j.course.words place

-- those of a step from its beginning: none where a coin falls
unfoldable pub coins_columns : Journey → State → ℕ
coins_columns j s =
    let stop = stop_coin j s in
    let restart = restart_coin j s in
    if stop.0 then 0 else (if restart.0 then 0 else choice_columns j s restart.1)

-- and none where the walk is at its length
abbrev pub step_columns : Journey → Walker → ℕ
step_columns j v = if nat_lt v.state.steps v.length then coins_columns j v.state else 0

-- the columns that are read in a turn from a mode: none where no darts are thrown
abbrev pub turn_columns : Journey → Walker → Mode → ℕ
turn_columns j v Fresh = step_columns j v
turn_columns j v (Darts left place) = columns left (asker_at j v.state) (board_at j v.state) j.course.words place
turn_columns j v _ = 0

-- the columns that a walker reads in one turn
abbrev pub columns_in : PartedRun → Walker → ℕ
columns_in g v = turn_columns (journey_from g v.number v.start) v v.mode
