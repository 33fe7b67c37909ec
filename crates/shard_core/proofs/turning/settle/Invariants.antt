use Rattle.std.proofs.Common.{◌-◌, length}
use Rattle.shard_core.proofs.SettleLemmas.{IsSettling}
use Rattle.shard_core.proofs.turning.settle.Given as goal

abbrev pub invariant-settling : goal.invariant-settling
invariant-settling l =
    IsSettling l.here.run l.here.part l.initial.lanes.items l.initial.ready.items l.initial.left l.k l.lanes.items l.ready.items l.left

abbrev pub decreases-settling : goal.decreases-settling
decreases-settling l = length l.lanes.items - l.k
