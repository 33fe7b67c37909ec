use Rattle.std.proofs.Common.{◌≡◌, ◌≤◌, ◌*◌, ◌-◌, map}
use Rattle.walk_model.specs.Cuts.{up_to, cut}
use Rattle.vertex_partition.specs.Fronts.{IsFront}
use Rattle.vertex_partition.proofs.cuts.Cuts.balanced.Given as goal

abbrev pub invariant-loop-k : goal.invariant-loop-k
invariant-loop-k l = record {
  some : 1 ≤ l.k;
  cuts : l.cuts.items ≡ map (cut l.costs l.parts) (up_to (l.k - 1));
  front : IsFront l.costs l.parts ((l.k - 1) * l.all) l.front;
}
