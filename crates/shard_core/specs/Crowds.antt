-- A shard's walkers and replies, taken out for a round.
use Rattle.std.specs.Prelude.{List, ◌++◌, map, All}
use Rattle.walk_model.specs.declared.results.Print.{Print}
use Rattle.vertex_partition.specs.PartViews.{PartView}
use Rattle.traveller.specs.declared.runs.Run.{Run}
use Rattle.world_law.specs.Worlds.{ShardData}
use Rattle.shard_core.specs.declared.rounds.Crowd.{Crowd}
use Rattle.shard_core.specs.Abreast.{IsReadyIn}
use Rattle.shard_core.specs.KeptShards.{WaitsIn, HasEndedIn, HasForm, told_item}

-- each walker stands in the run and the part, where it goes on, waits or rests, and each reply has its form
pub record IsCrowd (run : Run) (p : PartView) (c : Crowd) : Type 0 where
  pub ready : All (IsReadyIn run p) c.ready.items
  pub waiting : All (WaitsIn run p) c.waiting.items
  pub ended : All (HasEndedIn run p) c.ended.items
  pub aside : All HasForm c.aside.items

-- a shard with these walkers and replies, and some prints
abbrev pub crowd_data : PartView → Crowd → List Print → ShardData
crowd_data p c prints = record {
  part = p.part;
  residents = c.ready.items ++ (c.waiting.items ++ c.ended.items);
  aside = map told_item c.aside.items;
  prints = prints;
}
