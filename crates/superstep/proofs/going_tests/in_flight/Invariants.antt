use Rattle.std.proofs.Common.{◌≡◌, map}
use Rattle.walker_mail.specs.Posts.{all_items}
use Rattle.superstep.specs.Boxes.{addressed_of}
use Rattle.superstep.proofs.going_tests.in_flight.Given as goal

abbrev pub invariant-flying : goal.invariant-flying
invariant-flying l = l.flight.items ≡ map addressed_of (all_items l.yielded)
