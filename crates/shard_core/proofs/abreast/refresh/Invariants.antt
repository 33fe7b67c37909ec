use Rattle.std.proofs.Common.{◌≡◌, ◌≤◌, ◌<◌, ◌+◌, ◌*◌, ℕ, length, get_or}
use Rattle.std.specs.Prelude.{◌-◌, All, sum_by}
use Rattle.walk_model.specs.declared.results.Print.{Print}
use Rattle.csr_store.specs.RowGraph.{RowGraph}
use Rattle.vertex_partition.specs.PartViews.{IsPartOf}
use Rattle.traveller.specs.Walkers.{Walker}
use Rattle.shard_core.specs.Abreast.{IsOnWay, IsBetween, heft, first_heft, turns_left}
use Rattle.shard_core.proofs.abreast.refresh.Given as goal

abbrev pub invariant-refreshing : goal.invariant-refreshing
invariant-refreshing l = record {
  within : l.k ≤ length l.lanes.items;
  done : (j : ℕ) (d : Walker) → j < l.k → IsOnWay l.here.run l.here.part (get_or l.lanes.items j d);
  between : All (IsBetween l.here.run l.here.part) l.lanes.items;
  few : length l.lanes.items ≤ length l.initial.lanes.items;
  room : length l.lanes.items ≤ l.prints.room + l.k;
  next : l.next ≤ l.fn.end;
  later : l.initial.next ≤ l.next;
  full : l.next < l.fn.end → length l.lanes.items ≡ length l.initial.lanes.items;
  hefts : (h : Print → ℕ) (g : RowGraph) → IsPartOf g l.here.part
      → sum_by h l.prints.prints + sum_by (heft h g l.here.run l.here.part) l.lanes.items + first_heft h g l.here.run l.here.part l.initial.next
      ≡ sum_by h l.initial.prints.prints + sum_by (heft h g l.here.run l.here.part) l.initial.lanes.items + first_heft h g l.here.run l.here.part l.next;
  left : sum_by turns_left l.lanes.items + (l.fn.end - l.next) * (l.here.run.plan.length + 2)
      ≤ sum_by turns_left l.initial.lanes.items + (l.fn.end - l.initial.next) * (l.here.run.plan.length + 2);
}

abbrev pub decreases-refreshing : goal.decreases-refreshing
decreases-refreshing l = length l.lanes.items - l.k
