use Rattle.std.proofs.Common.{◌≡◌, ◌≤◌, ◌+◌, ◌-◌, ℕ, length}
use Rattle.std.specs.Prelude.{All}
use Rattle.world_law.specs.Worlds.{Piece}
use Rattle.shard_core.specs.Abreast.{IsReadyIn}
use Rattle.shard_core.specs.Leaving.{resident_weight}
use Rattle.shard_core.proofs.turning.first_lanes.Given as goal

abbrev pub invariant-filling : goal.invariant-filling
invariant-filling l = record {
  lanes : All (IsReadyIn l.here.run l.here.part) l.lanes.items;
  rest : All (IsReadyIn l.here.run l.here.part) l.ready.items;
  few : length l.lanes.items ≤ 16;
  same : (h : Piece → ℕ) → resident_weight h l.here.part l.lanes.items + resident_weight h l.here.part l.ready.items
      ≡ resident_weight h l.here.part l.initial.ready.items;
}

abbrev pub decreases-filling : goal.decreases-filling
decreases-filling l = 16 - length l.lanes.items
