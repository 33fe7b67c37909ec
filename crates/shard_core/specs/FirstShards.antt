-- Shards before any walker has made a step.
use Rattle.std.specs.Prelude.{◌≡◌, List, [], map, true, All}
use Rattle.traveller.specs.declared.runs.Run.{Run}
use Rattle.vertex_partition.specs.PartViews.{PartView}
use Rattle.shard_core.specs.Shards.{ShardView}
use Rattle.shard_core.specs.SoundWorlds.{IsSameRun}

-- the shards of some parts, in order, each with the same run; they are whole and have set nothing aside
pub record AreShardsWith (run : Run) (ps : List PartView) (ss : List ShardView) : Type 0 where
  pub parts : map (λ s. s.part) ss ≡ ps
  pub runs : All (λ s. IsSameRun s.run run) ss
  pub whole : All (λ s. s.whole ≡ true) ss
  pub aside : All (λ s. s.aside ≡ []) ss

-- a shard with no walker and no print, which has set nothing aside
abbrev pub IsEmpty : ShardView → Type 0
IsEmpty s = (s.residents ≡ []) × (s.aside ≡ []) × (s.prints ≡ [])
