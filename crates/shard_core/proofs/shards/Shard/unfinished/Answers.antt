use Rattle.std.proofs.Common.{arith}
use Rattle.shard_core.proofs.ShardLemmas.{three-unfinished}
use Rattle.std.proofs.Common.{rules, ◌≡◌, ◌<◌, [], true, IsTrue, Some, length, slice_get, sum_by, ℕ, ◌+◌, ◌-◌, ◌*◌, ◌≤◌, ◌/◌, ◌%◌, Bool, false, nat_eq, nat_lt, List, ◌∷◌, ◌++◌, slice_index_or, slice_set, bit_and, bit_or, Fits, w8, w32, w64, Bor, MutBor}
use Rattle.query_batch.specs.Numbers.{IsWithin as IsAskedWithin}
use Rattle.traveller.specs.declared.modes.Mode.TheVariants.{Fresh}
use Rattle.traveller.specs.Replies.{Answers}
use Rattle.traveller.specs.Standing.{IsWithin, Suits}
use Rattle.vertex_partition.specs.PartViews.{Owns}
use Rattle.world_law.specs.Finishing.{unfinished}
use Rattle.shard_core.specs.Items.{item_of}
use Rattle.shard_core.specs.Taking.{Takes}
use Rattle.shard_core.proofs.shards.Shard.unfinished.Goals as goal

-- src/shards.rt:116:5
pub returns : goal.returns
returns c = rw (← c.self.view_is) (let three = three-unfinished _ _ _ _ _ c.self.invariant.ready c.self.invariant.waiting c.self.invariant.ended in
    omega (arith, three, c.len.ensures, c.len-2.ensures, c.self.inside.ready.ok.0, c.self.inside.waiting.ok.0))
