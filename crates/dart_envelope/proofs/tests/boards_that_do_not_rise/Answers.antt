use Rattle.std.proofs.Common.{refl, arith}
use Rattle.dart_envelope.proofs.tests.boards_that_do_not_rise.Goals as goal

pub expect_flat-requires-clause-other : goal.expect_flat-requires-clause-other
expect_flat-requires-clause-other g c = rw c.new-factors.ensures (0, 4, omega arith, refl, omega arith)

pub expect_flat-requires-2-clause-other : goal.expect_flat-requires-2-clause-other
expect_flat-requires-2-clause-other g c = rw c.new-factors.ensures (0, 4, omega arith, refl, omega arith)
