use Rattle.std.proofs.Common.{◌≡◌, ◌+◌, ◌-◌, ◌<◌, ◌≤◌, length, sum, take, get_or}
use Rattle.walk_model.specs.Alias.{lacks, spares}
use Rattle.walk_model.specs.Lists.{front_reaching}
use Rattle.alias_table.specs.Filled.{Filled, own_part, other_item}
use Rattle.alias_table.proofs.filling.fill.Given as goal

abbrev pub invariant-loop-heavy : goal.invariant-loop-heavy
invariant-loop-heavy g l = record {
  within : l.heavy ≤ length l.weights;
  light : l.light ≤ length l.weights;
  heavy : l.heavy < length l.weights → 0 < get_or (spares l.weights) l.heavy 0;
  owing : g.N.Width.value l.debt ≤ g.N.Width.value l.whole;
  reached : l.light ≡ front_reaching (sum (take l.heavy (spares l.weights))) (lacks l.weights);
  balance : sum (take l.light (lacks l.weights)) ≡ sum (take l.heavy (spares l.weights)) + g.N.Width.value l.debt;
  filled : Filled (own_part g.N.Width.value) other_item l.weights l.light l.heavy l.columns;
}

abbrev pub decreases-loop-heavy : goal.decreases-loop-heavy
decreases-loop-heavy g l = length l.weights - l.heavy
