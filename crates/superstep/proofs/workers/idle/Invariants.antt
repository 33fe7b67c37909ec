use Rattle.std.proofs.Common.{◌≡◌, ℕ, ◌<◌, [], vec_len, slice_index_or}
use Rattle.superstep.proofs.workers.idle.Given as goal

abbrev pub invariant-numbering : goal.invariant-numbering
invariant-numbering l = record {
  long : vec_len l.jobs ≡ l.worker;
  empty : (w : ℕ) (d : _) → w < l.worker → (slice_index_or l.jobs.items w d).seats.items ≡ [];
}
