-- A run on a part, as contracts see it.
use Rattle.vertex_partition.specs.PartViews.{PartView}
use Rattle.traveller.specs.declared.runs.Run.{Run}

-- what walkers do, and the part where they do it
pub record Here : Type 0 where
  pub run : Run
  pub part : PartView
