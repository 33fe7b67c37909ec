use Rattle.std.proofs.Common.{◌≡◌, ◌-◌, ℕ, List, length, take}
use Rattle.std.specs.Prelude.{sum_by}
use Rattle.walk_top.proofs.reporting.all_steps.Given as goal

abbrev pub invariant-loop-i : goal.invariant-loop-i
invariant-loop-i l = l.count ≡ sum_by (λ (walk : List ℕ). length walk - 1) (take l.i l.walks)
