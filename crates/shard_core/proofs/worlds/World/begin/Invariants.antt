use Rattle.std.proofs.Common.{◌≡◌, ℕ, List, map}
use Rattle.csr_store.specs.RowGraph.{RowGraph}
use Rattle.traveller.specs.Standing.{parted}
use Rattle.world_law.specs.Histories.{starters}
use Rattle.world_law.specs.Worlds.{Same, all_pieces}
use Rattle.shard_core.specs.FirstShards.{AreShardsWith}
use Rattle.shard_core.specs.Shards.{shard_of}
use Rattle.shard_core.specs.SoundWorlds.{ArePartsOf}
use Rattle.shard_core.proofs.worlds.World.begin.Given as goal

abbrev pub invariant-loop-number : goal.invariant-loop-number
invariant-loop-number l = record {
  shards : AreShardsWith l.run l.fn.parts.items l.shards.items;
  starts : (g : RowGraph) (cuts : List ℕ) → ArePartsOf g l.run.plan.weighted cuts l.fn.parts.items
      → Same (all_pieces (map shard_of l.shards.items)) (starters (parted g l.run cuts) l.number);
}
