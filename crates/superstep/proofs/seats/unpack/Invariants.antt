use Rattle.std.proofs.Common.{◌≡◌}
use Rattle.walker_mail.specs.Posts.{all_items}
use Rattle.superstep.specs.Boxes.{items_in}
use Rattle.superstep.proofs.seats.unpack.Given as goal

abbrev pub invariant-unpacking : goal.invariant-unpacking
invariant-unpacking l = l.items.items ≡ items_in (all_items l.yielded)
