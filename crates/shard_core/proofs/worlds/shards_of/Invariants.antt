use Rattle.std.specs.Prelude.{All}
use Rattle.shard_core.specs.FirstShards.{AreShardsWith, IsEmpty}
use Rattle.shard_core.proofs.worlds.shards_of.Given as goal

abbrev pub invariant-loop-part : goal.invariant-loop-part
invariant-loop-part l = record {
  shards : AreShardsWith l.run l.yielded l.shards.items;
  empty : All IsEmpty l.shards.items;
}
