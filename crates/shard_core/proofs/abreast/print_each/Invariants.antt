use Rattle.std.proofs.Common.{◌≡◌, ◌≤◌, ◌+◌, ◌++◌, take}
use Rattle.shard_core.specs.Abreast.{turn_prints}
use Rattle.shard_core.proofs.abreast.print_each.Given as goal

abbrev pub invariant-loop-lane : goal.invariant-loop-lane
invariant-loop-lane l = record {
  prints : l.prints.prints ≡ l.initial.prints.prints ++ turn_prints (take l.lane-index l.lanes);
  room : l.initial.prints.room ≤ l.prints.room + l.lane-index;
}
