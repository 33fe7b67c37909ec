use Rattle.std.proofs.Common.{◌≡◌, ◌++◌, map}
use Rattle.walk_model.specs.Numbers.{below}
use Rattle.graph_maker.specs.Made.{made_edge}
use Rattle.graph_maker.proofs.making.add_row.Given as goal

abbrev pub invariant-loop-j : goal.invariant-loop-j
invariant-loop-j l = record {
  so_far : l.edges.items ≡ l.fn.edges.items ++ map (made_edge l.fn.vertices l.fn.seed l.fn.v) (below l.j);
}
