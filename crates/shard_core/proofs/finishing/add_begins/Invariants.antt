use Rattle.std.proofs.Common.{◌≡◌, ◌+◌, ◌++◌, sum, take}
use Rattle.walk_model.specs.Beginnings.{begins_from}
use Rattle.shard_core.proofs.finishing.add_begins.Given as goal

abbrev pub invariant-loop-count : goal.invariant-loop-count
invariant-loop-count l = record {
  begins : l.begins.items ≡ l.fn.begins.items ++ begins_from l.fn.place (take l.count-index l.counts);
  next : l.next ≡ l.fn.place + sum (take l.count-index l.counts);
}
