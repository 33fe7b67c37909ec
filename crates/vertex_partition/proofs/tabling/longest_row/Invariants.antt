use Rattle.std.proofs.Common.{◌<◌, ◌≤◌, ◌^◌, ℕ, length}
use Rattle.walk_model.specs.Graph.{row}
use Rattle.vertex_partition.proofs.tabling.longest_row.Given as goal

abbrev pub invariant-loop-v : goal.invariant-loop-v
invariant-loop-v l = record {
  rows : (u : ℕ) → l.rows.first ≤ u → u < l.v → length (row l.rows.edges u) ≤ l.most;
  few : l.most < 2 ^ 31;
}
