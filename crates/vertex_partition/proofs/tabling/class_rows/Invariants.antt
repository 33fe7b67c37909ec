use Rattle.std.proofs.Common.{◌+◌, ◌<◌, ◌≤◌, ◌-◌, ◌⊎◌, ℕ, length}
use Rattle.std.specs.Prelude.{All}
use Rattle.walk_model.specs.Graph.{row}
use Rattle.csr_store.specs.RowGraph.{IsIn, HasSameRows, mark_of}
use Rattle.vertex_partition.specs.Tabled.{HasTable, HasEdges, AreShared, IsAmong, row_weights}
use Rattle.vertex_partition.proofs.tabling.class_rows.Given as goal

abbrev pub invariant-loop-v : goal.invariant-loop-v
invariant-loop-v l = record {
  above : l.initial.rows.first ≤ l.v;
  same : HasSameRows l.initial.rows l.rows;
  few : length l.made.items + length l.lone.items ≤ l.v - l.initial.rows.first;
  wide : (u : ℕ) → IsIn l.initial.rows u → length (row l.initial.rows.edges u) < length l.shared.items;
  shared : AreShared l.made.items l.shared.items;
  lone : All (HasEdges l.initial.rows) l.lone.items;
  each : (u : ℕ) → l.initial.rows.first ≤ u → u < l.v → 0 < length (row l.initial.rows.edges u)
      → HasTable l.made.items (mark_of l.rows u) (row_weights l.weighted l.initial.rows u) ⊎ IsAmong 0 l.lone.items u;
}
