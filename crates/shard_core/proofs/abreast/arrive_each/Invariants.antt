use Rattle.std.proofs.Common.{◌≡◌}
use Rattle.shard_core.proofs.abreast.arrive_each.Given as goal

abbrev pub invariant-loop-lane : goal.invariant-loop-lane
invariant-loop-lane l = l.lanes ≡ l.initial.lanes
