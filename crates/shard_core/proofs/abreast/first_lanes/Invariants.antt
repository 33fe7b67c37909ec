use Rattle.std.proofs.Common.{◌≡◌, ◌≤◌, ◌+◌, ℕ, length}
use Rattle.std.specs.Prelude.{All, sum_by}
use Rattle.walk_model.specs.declared.results.Print.{Print}
use Rattle.csr_store.specs.RowGraph.{RowGraph}
use Rattle.vertex_partition.specs.PartViews.{IsPartOf}
use Rattle.shard_core.specs.Abreast.{IsOnWay, heft, first_heft}
use Rattle.shard_core.proofs.abreast.first_lanes.Given as goal

abbrev pub invariant-loop-number : goal.invariant-loop-number
invariant-loop-number l = record {
  on_way : All (IsOnWay l.here.run l.here.part) l.lanes.items;
  since : l.fn.first ≤ l.number;
  count : length l.lanes.items + l.fn.first ≡ l.number;
  room : l.fn.next ≤ l.prints.room + l.number;
  hefts : (h : Print → ℕ) (g : RowGraph) → IsPartOf g l.here.part
      → sum_by h l.prints.prints + sum_by (heft h g l.here.run l.here.part) l.lanes.items + first_heft h g l.here.run l.here.part l.fn.first
      ≡ sum_by h l.initial.prints.prints + first_heft h g l.here.run l.here.part l.number;
}
