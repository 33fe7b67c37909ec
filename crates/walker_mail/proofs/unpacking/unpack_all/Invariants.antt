use Rattle.std.proofs.Common.{◌≡◌, ◌++◌}
use Rattle.walker_mail.specs.Posts.{all_items}
use Rattle.walker_mail.proofs.unpacking.unpack_all.Given as goal

abbrev pub invariant-loop-parcel : goal.invariant-loop-parcel
invariant-loop-parcel g l = l.kept.items ≡ l.initial.kept.items ++ all_items l.yielded
