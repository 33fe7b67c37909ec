use Rattle.std.proofs.Common.{◌≡◌, ℕ, ◌<◌, ◌≤◌, ◌-◌, length, get_or}
use Rattle.walk_model.specs.Alias.{spares}
use Rattle.alias_table.proofs.filling.next_heavy.Given as goal

abbrev pub invariant-loop-at : goal.invariant-loop-at
invariant-loop-at g l = record {
  onward : l.from ≤ l.at;
  within : l.at ≤ length l.weights;
  passed : (k : ℕ) → l.from ≤ k → k < l.at → get_or (spares l.weights) k 0 ≡ 0;
}

abbrev pub decreases-loop-at : goal.decreases-loop-at
decreases-loop-at g l = length l.weights - l.at
