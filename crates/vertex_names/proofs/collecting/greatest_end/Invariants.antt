use Rattle.std.proofs.Common.{◌≤◌}
use Rattle.std.specs.List.{AllWithin}
use Rattle.vertex_names.proofs.collecting.greatest_end.Given as goal

abbrev pub invariant-loop-e : goal.invariant-loop-e
invariant-loop-e l = AllWithin (λ e. (e.src ≤ l.most) × (e.dst ≤ l.most)) l.edges 0 l.e-index
