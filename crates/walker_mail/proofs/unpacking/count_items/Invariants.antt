use Rattle.std.proofs.Common.{◌≡◌, ◌+◌, drop, length}
use Rattle.walker_mail.specs.Posts.{all_items}
use Rattle.walker_mail.proofs.unpacking.count_items.Given as goal

abbrev pub invariant-loop-parcel : goal.invariant-loop-parcel
invariant-loop-parcel g l = l.count + length (all_items (drop l.parcel-index l.parcels)) ≡ length (all_items l.parcels)
