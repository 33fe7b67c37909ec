use Rattle.std.proofs.Common.{ℕ, Bool, List}
use Rattle.csr_store.specs.RowGraph.{HasSameRows}
use Rattle.vertex_partition.specs.Tabled.{AreOwn, AreTablesBut}
use Rattle.vertex_partition.proofs.tabling.mark_lone.Given as goal

abbrev pub invariant-loop-place : goal.invariant-loop-place
invariant-loop-place l = record {
  same : HasSameRows l.initial.rows l.rows;
  each : (weighted : Bool) (tables : List (List ℕ)) → AreTablesBut weighted l.initial.rows tables 0 l.lone
      → AreOwn weighted l.initial.rows tables l.first l.lone → AreTablesBut weighted l.rows tables l.place l.lone;
}
