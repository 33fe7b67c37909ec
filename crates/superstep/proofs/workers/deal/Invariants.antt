use Rattle.std.proofs.Common.{◌≡◌, ℕ, ◌<◌, length, vec_len, slice_index_or}
use Rattle.superstep.specs.Share.{share}
use Rattle.superstep.proofs.workers.deal.Given as goal

abbrev pub invariant-dealing : goal.invariant-dealing
invariant-dealing l = record {
  long : vec_len l.jobs ≡ l.workers;
  count : l.number ≡ length l.yielded;
  each : (w : ℕ) (d : _) → w < l.workers → (slice_index_or l.jobs.items w d).seats.items ≡ share w l.workers 0 l.yielded;
}
