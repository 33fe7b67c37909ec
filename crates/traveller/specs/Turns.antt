-- One turn of a walker: what it comes to by itself.
use Rattle.std.specs.Prelude.{ℕ, zero, suc, ◌+◌, nat_lt, ◌==◌, if◌then◌else◌, List, length, Bool, Option, Some, None, option_map, option_and_then}
use Rattle.walk_model.specs.declared.graph.Edge.{Edge}
use Rattle.walk_model.specs.declared.programme.Rule.{Rule}
use Rattle.walk_model.specs.declared.programme.Rule.TheVariants.{Plain, Scheme, Node2vec}
use Rattle.walk_model.specs.declared.messages.Question.{Question}
use Rattle.walk_model.specs.declared.messages.Question.TheVariants as question
use Rattle.walk_model.specs.declared.states.State.{State}
use Rattle.walk_model.specs.Words.{coin, fold_word}
use Rattle.walk_model.specs.Graph.{row}
use Rattle.walk_model.specs.Factor.{common_factor, far_factor}
use Rattle.walk_model.specs.Dart.{Board, area, hit, scanned, board_of}
use Rattle.walk_model.specs.Walk.{restarted, moved_along}
use Rattle.walk_model.specs.Letters.{Journey, Asker, asker, needed_at}
use Rattle.traveller.specs.declared.modes.Mode.{Mode}
use Rattle.traveller.specs.declared.modes.Mode.TheVariants.{Fresh, Darts, Asked, AskedRow, Chosen, Over}
use Rattle.traveller.specs.PartedRuns.{PartedRun, journey_from}
use Rattle.traveller.specs.Walkers.{Walker}

-- the coins of a step, each with the place of the word after it
abbrev pub stop_coin : Journey → State → Bool × ℕ
stop_coin j s = coin j.course.plan.stop j.course.words s.place

abbrev pub restart_coin : Journey → State → Bool × ℕ
restart_coin j s = coin j.course.plan.restart j.course.words (stop_coin j s).1

-- the row where a walker stands, and its board
abbrev pub row_at : Journey → State → List Edge
row_at j s = row j.course.edges s.at

abbrev pub board_at : Journey → State → Board
board_at j s = board_of j.course.edges j.course.plan s (row_at j s)

-- the walker as one that must ask another part: under node2vec, after a vertex of another part
abbrev pub asker_by : Journey → State → Rule → Option ℕ → Option Asker
asker_by j s Plain previous = None
asker_by j s (Scheme kinds) previous = None
asker_by j s (Node2vec p q) None = None
asker_by j s (Node2vec p q) (Some t) = if j.owner t == j.owner s.at then None else Some (asker j s t p q)

abbrev pub asker_at : Journey → State → Option Asker
asker_at j s = asker_by j s j.course.plan.rule s.previous

-- the question that a dart with this word needs, if it needs one
abbrev pub edge_question : Option Asker → Board → ℕ → Option Question
edge_question None b w = None
edge_question (Some a) b w =
    option_map (question.Edge a.before) (option_and_then (needed_at a b) (fold_word (area b) w))

-- the question that a scan needs, if it needs one
abbrev pub row_question : Option Asker → Option Question
row_question None = None
row_question (Some a) = if common_factor a.p a.q == far_factor a.p a.q then None else Some (question.Row a.before)

-- an edge is chosen, the next word being at a place, or the walk ends
abbrev pub chosen_or_over : Option (ℕ × ℕ) → Mode
chosen_or_over None = Over
chosen_or_over (Some taken) = Chosen taken.0 taken.1

-- what a scan comes to
abbrev pub scan_mode : Option Question → Option (ℕ × ℕ) → ℕ → Mode
scan_mode None taken place = chosen_or_over taken
scan_mode (Some q) taken place = AskedRow place q

-- what a dart comes to, by the question that it needs and the edge that it takes, where so many darts
-- are left after it: a question, an edge, or else what comes of those darts
abbrev pub dart_mode : Option Question → Option ℕ → ℕ → ℕ → Mode → Mode
dart_mode (Some q) taken left place later = Asked left place q
dart_mode None (Some edge) left place later = Chosen edge (place + 1)
dart_mode None None left place later = later

-- what at most so many darts from a place on come to, and the scan after them
unfoldable pub throws : ℕ → Option Asker → Board → (ℕ → ℕ) → ℕ → Mode
throws zero r b words place = scan_mode (row_question r) (scanned b words place) place
throws (suc left) r b words place =
    dart_mode (edge_question r b (words place)) (hit b (words place)) left place (throws left r b words (place + 1))

-- what the choice among the edges of a row comes to
abbrev pub choice_mode : Journey → State → ℕ → Mode
choice_mode j s place =
    if length (row_at j s) == 0 then Over
    else throws j.course.plan.retries (asker_at j s) (board_at j s) j.course.words place

-- the walker in its next state, at the beginning of a step, or at the end of its walk
abbrev pub stepped : Walker → Option State → Walker
stepped v None = record v { mode = Over }
stepped v (Some t) = record v { state = t; mode = Fresh }

-- the walker goes along the edge that is chosen, or stays in the mode that it came to
abbrev pub goes : Journey → Walker → Mode → Walker
goes j v (Chosen edge place) = stepped v (moved_along v.state (row_at j v.state) (edge, place))
goes j v m = record v { mode = m }

-- the first turn of a step: the coin of `stop`, the coin of `restart`, and the choice of an edge
unfoldable pub begun : Journey → Walker → Walker
begun j v =
    let stop = stop_coin j v.state in
    let restart = restart_coin j v.state in
    if nat_lt v.state.steps v.length then (
    if stop.0 then record v { mode = Over }
    else (if restart.0 then stepped v (Some (restarted j.course.start v.state restart.1))
    else goes j v (choice_mode j v.state restart.1)))
    else record v { mode = Over }

-- a turn from a mode: until a step is made, a question must be asked, or the walk ends
abbrev pub turned : Journey → Walker → Mode → Walker
turned j v Fresh = begun j v
turned j v (Darts left place) =
    goes j v (throws left (asker_at j v.state) (board_at j v.state) j.course.words place)
turned j v (Chosen edge place) = goes j v (Chosen edge place)
turned j v _ = v

-- the walker after one turn
abbrev pub advance : PartedRun → Walker → Walker
advance g v = turned (journey_from g v.number v.start) v v.mode
