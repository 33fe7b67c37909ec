-- What contracts see of a shard.
use Rattle.std.specs.Prelude.{Bool, List}
use Rattle.walk_model.specs.declared.results.Print.{Print}
use Rattle.traveller.specs.declared.runs.Run.{Run}
use Rattle.traveller.specs.Walkers.{Walker}
use Rattle.vertex_partition.specs.PartViews.{PartView}
use Rattle.world_law.specs.Items.{Item}
use Rattle.world_law.specs.Worlds.{ShardData}

-- what its walkers do, the part where they do it, the walkers that reside there, the items that were set aside, the
-- prints of the steps that were made there, and whether no round was broken off
pub record ShardView : Type 0 where
  pub run : Run
  pub part : PartView
  pub residents : List Walker
  pub aside : List Item
  pub prints : List Print
  pub whole : Bool

-- the shard as the laws of worlds see it
abbrev pub shard_of : ShardView → ShardData
shard_of s = record { part = s.part.part; residents = s.residents; aside = s.aside; prints = s.prints }
