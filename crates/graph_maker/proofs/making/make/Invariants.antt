use Rattle.std.proofs.Common.{◌≡◌}
use Rattle.std.specs.List.{flat_map}
use Rattle.walk_model.specs.Numbers.{below}
use Rattle.graph_maker.specs.Made.{made_row}
use Rattle.graph_maker.proofs.making.make.Given as goal

abbrev pub invariant-loop-v : goal.invariant-loop-v
invariant-loop-v l = record {
  so_far : l.edges.items ≡ flat_map (made_row l.fn.vertices l.fn.degree l.fn.seed) (below l.v);
}
