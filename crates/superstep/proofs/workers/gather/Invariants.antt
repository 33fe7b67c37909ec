use Rattle.std.proofs.Common.{◌≡◌, ℕ, ◌<◌, take, drop, vec_len, slice_index_or}
use Rattle.std.specs.List.{AllZip}
use Rattle.superstep.specs.Share.{share}
use Rattle.superstep.specs.Rounding.{HasTurned}
use Rattle.superstep.proofs.workers.gather.Given as goal

abbrev pub invariant-gathering : goal.invariant-gathering
invariant-gathering l = record {
  long : vec_len l.done ≡ l.workers;
  rest : (w : ℕ) (d : _) → w < l.workers → AllZip HasTurned (share w l.workers l.k (drop l.k l.fn.was.value.items)) (slice_index_or l.done.items w d).items;
  front : AllZip HasTurned (take l.k l.fn.was.value.items) l.ordered.items;
}
