use Rattle.std.proofs.Common.{◌<◌, ℕ, get_or}
use Rattle.path_writer.proofs.tests.is_below.Given as goal

abbrev pub invariant-loop-rank : goal.invariant-loop-rank
invariant-loop-rank l = (k d : ℕ) → k < l.rank-index → get_or l.walk k d < l.count
