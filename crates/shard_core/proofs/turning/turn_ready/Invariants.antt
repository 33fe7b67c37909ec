use Rattle.std.proofs.Common.{◌+◌}
use Rattle.std.specs.Prelude.{sum_by}
use Rattle.shard_core.specs.Leaving.{turns_ahead}
use Rattle.shard_core.proofs.SettleLemmas.{IsTurning}
use Rattle.shard_core.proofs.turning.turn_ready.Given as goal

abbrev pub invariant-turning : goal.invariant-turning
invariant-turning g l =
    IsTurning l.here.run l.here.part l.fn.ready.items l.fn.left l.fn.prints.prints l.lanes.items l.ready.items l.left l.prints.prints

abbrev pub decreases-turning : goal.decreases-turning
decreases-turning g l = sum_by turns_ahead l.lanes.items + sum_by turns_ahead l.ready.items
