use Rattle.std.proofs.Common.{◌≡◌, ◌+◌, drop}
use Rattle.walk_model.specs.Lists.{first_above}
use Rattle.outlier_strip.proofs.strip.place_above_wide.Given as goal

abbrev pub invariant-loop-i : goal.invariant-loop-i
invariant-loop-i l = l.i + first_above l.left (drop l.i l.weights) ≡ first_above l.z l.weights
