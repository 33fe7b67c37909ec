use Rattle.std.proofs.Common.{◌≡◌, take}
use Rattle.shard_core.specs.Counted.{count_walks}
use Rattle.shard_core.proofs.counting.count_walkers.Given as goal

abbrev pub invariant-loop-walker : goal.invariant-loop-walker
invariant-loop-walker l = l.counts ≡ count_walks l.initial.counts (take l.walker-index l.walkers)
