use Rattle.std.proofs.Common.{◌≡◌, ◌++◌, map, take, drop}
use Rattle.std.specs.Prelude.{reverse}
use Rattle.walker_mail.specs.Posts.{items_of}
use Rattle.walker_mail.proofs.reversed.turn_round.Given as goal

abbrev pub invariant-loop-parcel : goal.invariant-loop-parcel
invariant-loop-parcel g l =
    map items_of l.parcels ≡ map reverse (take l.parcel-index (map items_of l.initial.parcels)) ++ drop l.parcel-index (map items_of l.initial.parcels)
