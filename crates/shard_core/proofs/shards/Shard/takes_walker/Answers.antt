use Rattle.std.proofs.Common.{subst, sym}
use Rattle.walk_model.specs.Cuts.{owner}
use Rattle.shard_core.proofs.ShardLemmas.{same-yes}
use Rattle.std.proofs.Common.{rules, ◌≡◌, ◌<◌, [], true, IsTrue, Some, length, slice_get, sum_by, ℕ, ◌+◌, ◌-◌, ◌*◌, ◌≤◌, ◌/◌, ◌%◌, Bool, false, nat_eq, nat_lt, List, ◌∷◌, ◌++◌, slice_index_or, slice_set, bit_and, bit_or, Fits, w8, w32, w64, Bor, MutBor}
use Rattle.query_batch.specs.Numbers.{IsWithin as IsAskedWithin}
use Rattle.traveller.specs.declared.modes.Mode.TheVariants.{Fresh}
use Rattle.traveller.specs.Replies.{Answers}
use Rattle.traveller.specs.Standing.{IsWithin, Suits}
use Rattle.vertex_partition.specs.PartViews.{Owns}
use Rattle.world_law.specs.Finishing.{unfinished}
use Rattle.shard_core.specs.Items.{item_of}
use Rattle.shard_core.specs.Taking.{Takes}
use Rattle.shard_core.proofs.shards.Shard.takes_walker.Goals as goal

-- src/shards.rt:138:5
pub returns-then-is_fresh-clause-no : goal.returns-then-is_fresh-clause-no
returns-then-is_fresh-clause-no c = λ h. same-yes _ _ _ c.owns.ensures (rw c.at.ensures (subst (λ s. owner s.part.cuts c.args.traveller.now.state.at ≡ s.part.part) (sym c.self.view_is) h.2.owner_is))
