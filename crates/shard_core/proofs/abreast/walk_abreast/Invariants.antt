use Rattle.std.proofs.Common.{◌≡◌, ◌≤◌, ◌<◌, ◌+◌, ◌*◌, ℕ, length}
use Rattle.std.specs.Prelude.{◌-◌, All, sum_by}
use Rattle.walk_model.specs.declared.results.Print.{Print}
use Rattle.csr_store.specs.RowGraph.{RowGraph}
use Rattle.vertex_partition.specs.PartViews.{IsPartOf}
use Rattle.shard_core.specs.Abreast.{IsOnWay, heft, first_heft, turns_left}
use Rattle.shard_core.proofs.abreast.walk_abreast.Given as goal

abbrev pub invariant-walking : goal.invariant-walking
invariant-walking g l = record {
  on_way : All (IsOnWay l.here.run l.here.part) l.lanes.items;
  few : length l.lanes.items ≤ 16;
  next : l.next ≤ l.fn.end;
  since : l.fn.first ≤ l.next;
  full : l.next < l.fn.end → 0 < length l.lanes.items;
  hefts : (h : Print → ℕ) (q : RowGraph) → IsPartOf q l.here.part
      → sum_by h l.prints.prints + sum_by (heft h q l.here.run l.here.part) l.lanes.items + first_heft h q l.here.run l.here.part l.fn.first
      ≡ sum_by h l.fn.prints.prints + first_heft h q l.here.run l.here.part l.next;
}

abbrev pub decreases-walking : goal.decreases-walking
decreases-walking g l = sum_by turns_left l.lanes.items + (l.fn.end - l.next) * (l.here.run.plan.length + 2)
