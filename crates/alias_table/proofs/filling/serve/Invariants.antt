use Rattle.std.proofs.Common.{◌≡◌, ◌+◌, ◌-◌, ◌<◌, ◌≤◌, length, sum, take, suc}
use Rattle.walk_model.specs.Alias.{lacks, spares}
use Rattle.alias_table.specs.Filled.{Filled, own_part, other_item}
use Rattle.alias_table.proofs.filling.serve.Given as goal

abbrev pub invariant-loop-light : goal.invariant-loop-light
invariant-loop-light g l = record {
  within : l.light ≤ length l.weights;
  left : 0 < g.N.Width.value l.left;
  balance : sum (take l.light (lacks l.weights)) + g.N.Width.value l.left ≡ sum (take (suc l.heavy) (spares l.weights));
  behind : sum (take l.heavy (spares l.weights)) ≤ sum (take l.light (lacks l.weights));
  filled : Filled (own_part g.N.Width.value) other_item l.weights l.light l.heavy l.columns;
}

abbrev pub decreases-loop-light : goal.decreases-loop-light
decreases-loop-light g l = length l.weights - l.light
