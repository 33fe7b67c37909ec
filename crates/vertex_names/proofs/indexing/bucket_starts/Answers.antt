use Rattle.std.proofs.Common.{arith}
use Rattle.vertex_names.proofs.IndexLemmas.{IsIndexed-push}
use Rattle.vertex_names.proofs.indexing.bucket_starts.Goals as goal

pub buckets-preserved : goal.buckets-preserved
buckets-preserved c =
    let test = c.buckets-test.true in
    let size = c.len.ensures in
    rw c.in_ok-push.ensures.items
    (IsIndexed-push c.args.first c.args.shift c.args.ids.now c.buckets.starts.items c.ids.i c.requires.rising (omega arith) (omega arith) c.buckets.invariant)
