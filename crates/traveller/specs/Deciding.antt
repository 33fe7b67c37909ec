-- A turn in two halves: a walker decides, and then goes along the edge that it has chosen.
use Rattle.std.specs.Prelude.{ℕ, nat_lt, if◌then◌else◌, Some}
use Rattle.walk_model.specs.declared.messages.Question.TheVariants as question
use Rattle.walk_model.specs.Walk.{restarted, moved_along}
use Rattle.walk_model.specs.Letters.{Journey}
use Rattle.traveller.specs.declared.modes.Mode.{Mode}
use Rattle.traveller.specs.declared.modes.Mode.TheVariants.{Fresh, Darts, Asked, AskedRow, Chosen, Over}
use Rattle.traveller.specs.declared.modes.Turn.{Turn}
use Rattle.traveller.specs.declared.modes.Turn.TheVariants as turn
use Rattle.traveller.specs.declared.deciding.Decision.{Decision}
use Rattle.traveller.specs.declared.deciding.Decision.TheVariants as decision
use Rattle.traveller.specs.Walkers.{Walker}
use Rattle.traveller.specs.Turns.{stop_coin, restart_coin, board_at, row_at, asker_at, throws, choice_mode, stepped}

-- what the coins of a step and the choice after them come to
unfoldable pub coins_decided : Journey → Walker → Walker
coins_decided j v =
    let stop = stop_coin j v.state in
    let restart = restart_coin j v.state in
    if stop.0 then record v { mode = Over }
    else (if restart.0 then stepped v (Some (restarted j.course.start v.state restart.1))
    else record v { mode = choice_mode j v.state restart.1 })

-- the first half of a step from its beginning
abbrev pub step_decided : Journey → Walker → Walker
step_decided j v = if nat_lt v.state.steps v.length then coins_decided j v else record v { mode = Over }

-- the first half of a turn: until an edge is chosen or the walker is back at its start, a question must
-- be asked, or the walk ends
abbrev pub decided_from : Journey → Walker → Mode → Walker
decided_from j v Fresh = step_decided j v
decided_from j v (Darts left place) =
    record v { mode = throws left (asker_at j v.state) (board_at j v.state) j.course.words place }
decided_from j v _ = v

abbrev pub decided : Journey → Walker → Walker
decided j v = decided_from j v v.mode

-- the second half: the walker goes along the edge that is chosen
abbrev pub gone_from : Journey → Walker → Mode → Walker
gone_from j v (Chosen edge place) = stepped v (moved_along v.state (row_at j v.state) (edge, place))
gone_from j v _ = v

abbrev pub gone : Journey → Walker → Walker
gone j v = gone_from j v v.mode

-- what a turn came to, by the mode and the vertex after it
abbrev pub turn_of : Mode → ℕ → Turn
turn_of Fresh at = turn.Moved at
turn_of (Asked left place (question.Edge t x)) at = turn.AskEdge t x
turn_of (AskedRow place (question.Row t)) at = turn.AskRow t
turn_of _ at = turn.Ended

-- the walker that a decision at the beginning of a step leads to
abbrev pub led_to : Walker → Decision → Walker
led_to v (decision.Back place) = stepped v (Some (restarted v.start v.state place))
led_to v (decision.Comes m) = record v { mode = m }
