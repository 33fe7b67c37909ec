use Rattle.std.proofs.Common.{◌<◌, ℕ, List, get_or}
use Rattle.std.specs.Prelude.{All}
use Rattle.path_writer.proofs.tests.are_named.Given as goal

abbrev pub invariant-loop-i : goal.invariant-loop-i
invariant-loop-i l = (k : ℕ) (d : List ℕ) → k < l.i → All (λ r. r < l.count) (get_or l.finished k d)
