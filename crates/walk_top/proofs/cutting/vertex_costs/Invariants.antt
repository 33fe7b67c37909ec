use Rattle.std.proofs.Common.{◌≡◌}
use Rattle.walk_model.specs.Cuts.{costs_of}
use Rattle.walk_model.specs.Numbers.{below}
use Rattle.walk_top.proofs.cutting.vertex_costs.Given as goal

abbrev pub invariant-loop-v : goal.invariant-loop-v
invariant-loop-v l = l.costs.items ≡ costs_of l.rows.edges (below l.v)
