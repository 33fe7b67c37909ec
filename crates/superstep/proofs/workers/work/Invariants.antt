use Rattle.std.specs.List.{AllZip}
use Rattle.superstep.specs.Rounding.{HasTurned}
use Rattle.superstep.proofs.workers.work.Given as goal

abbrev pub invariant-working : goal.invariant-working
invariant-working g l = AllZip HasTurned l.yielded l.done.items
