use Rattle.std.proofs.Common.{◌≡◌, ◌++◌, map}
use Rattle.walker_mail.specs.Posts.{posted_item}
use Rattle.superstep.specs.Boxes.{addressed_of}
use Rattle.superstep.proofs.going_tests.unpack.Given as goal

abbrev pub invariant-unpacking : goal.invariant-unpacking
invariant-unpacking l = l.flight.items ≡ l.fn.flight.items ++ map addressed_of (map (posted_item l.fn.parcel.from l.fn.parcel.to) l.yielded)
