-- What the step that a walker is in comes to, where it asks nobody.
use Rattle.std.specs.Prelude.{nat_lt, if◌then◌else◌, Option, None, option_and_then}
use Rattle.walk_model.specs.declared.states.State.{State}
use Rattle.walk_model.specs.Dart.{darts}
use Rattle.walk_model.specs.Walk.{moved_along, next_state}
use Rattle.walk_model.specs.Letters.{Journey}
use Rattle.traveller.specs.declared.modes.Mode.{Mode}
use Rattle.traveller.specs.declared.modes.Mode.TheVariants.{Fresh, Darts, Chosen}
use Rattle.traveller.specs.Walkers.{Walker}
use Rattle.traveller.specs.Turns.{board_at, row_at}

-- the next state of its plain walk, or none where that ends: the whole step from its beginning, the darts
-- that are left and the scan after them, or the edge that is chosen
abbrev pub step_from : Journey → Walker → Mode → Option State
step_from j v Fresh = if nat_lt v.state.steps v.length then next_state j.course v.state else None
step_from j v (Darts left place) =
    option_and_then (moved_along v.state (row_at j v.state)) (darts left (board_at j v.state) j.course.words place)
step_from j v (Chosen edge place) = moved_along v.state (row_at j v.state) (edge, place)
step_from j v _ = None
