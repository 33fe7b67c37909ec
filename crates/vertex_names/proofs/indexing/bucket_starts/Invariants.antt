use Rattle.std.proofs.Common.{◌-◌, ◌+◌, length, vec_len}
use Rattle.vertex_names.proofs.IndexLemmas.{IsIndexed}
use Rattle.vertex_names.proofs.indexing.bucket_starts.Given as goal

abbrev pub invariant-ids : goal.invariant-ids
invariant-ids l = IsIndexed l.first l.shift l.ids l.starts.items l.i

abbrev pub decreases-ids : goal.decreases-ids
decreases-ids l = length l.ids - l.i

abbrev pub invariant-buckets : goal.invariant-buckets
invariant-buckets l = IsIndexed l.first l.shift l.ids l.starts.items l.i

abbrev pub decreases-buckets : goal.decreases-buckets
decreases-buckets l = l.bucket + 1 - vec_len l.starts
