-- The prints that a walker leaves.
use Rattle.std.specs.Prelude.{◌+◌, ◌-◌, if◌then◌else◌, List, [], ◌∷◌}
use Rattle.walk_model.specs.declared.results.Print.{Print}
use Rattle.walk_model.specs.Course.{Course}
use Rattle.walk_model.specs.Prints.{prints_from}
use Rattle.walk_model.specs.Walk.{entries_after}
use Rattle.traveller.specs.declared.modes.Mode.{Mode}
use Rattle.traveller.specs.declared.modes.Mode.TheVariants.{Fresh}
use Rattle.traveller.specs.Walkers.{Walker, is_fresh}

-- the print of a walker where it stands
abbrev pub print_of : Walker → Print
print_of v = record { walker = v.number; step = v.state.steps; at = v.state.at }

-- the print that a turn left: one where it made a step
abbrev pub left_print : Walker → List Print
left_print v = if is_fresh v.mode then print_of v ∷ [] else []

-- the prints that a walker between two steps will still leave
abbrev pub ahead_from : Course → Walker → Mode → List Print
ahead_from c v Fresh = prints_from v.number (v.state.steps + 1) (entries_after (v.length - v.state.steps) c v.state)
ahead_from c v _ = []

abbrev pub prints_ahead : Course → Walker → List Print
prints_ahead c v = ahead_from c v v.mode
