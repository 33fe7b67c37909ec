use Rattle.std.proofs.Common.{◌≡◌, ◌≤◌, ◌*◌, ◌^◌, sum, map, take}
use Rattle.vertex_partition.proofs.reaching.weight_sum.Given as goal

abbrev pub invariant-loop-edge : goal.invariant-loop-edge
invariant-loop-edge l = record {
  sum : l.sum ≡ sum (map (λ e. e.weight) (take l.edge-index l.row));
  low : l.sum ≤ l.edge-index * 2 ^ 64;
}
