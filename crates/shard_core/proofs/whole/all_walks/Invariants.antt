use Rattle.std.proofs.Common.{◌-◌, ◌≡◌, ◌≤◌, ◌<◌, ℕ, length, get_or}
use Rattle.csr_store.specs.RowGraph.{RowGraph}
use Rattle.vertex_partition.specs.PartViews.{IsPartOf}
use Rattle.traveller.specs.Standing.{parted}
use Rattle.shard_core.proofs.BatchLemmas.{AreFirst}
use Rattle.shard_core.proofs.whole.all_walks.Given as goal

abbrev pub invariant-batches : goal.invariant-batches
invariant-batches g l = record {
  within : l.first ≤ l.count;
  long : length l.counts.items ≡ l.count;
  rest : (i : ℕ) → l.first ≤ i → i < length l.counts.items → get_or l.counts.items i 0 ≡ 0;
  walks : (q : RowGraph) → IsPartOf q l.here.part → AreFirst (parted q l.here.run l.here.part.cuts) l.first l.entries.items l.begins.items;
}

abbrev pub decreases-batches : goal.decreases-batches
decreases-batches g l = l.count - l.first
