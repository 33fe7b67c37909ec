-- What a part keeps.
use Rattle.std.specs.Prelude.{◌≡◌, ◌≤◌, ℕ, Bool, List, length}
use Rattle.csr_store.specs.RowGraph.{RangeGraph}
use Rattle.vertex_partition.specs.CutViews.{CutView, AreCuts, begin_of, end_of}
use Rattle.vertex_partition.specs.Tabled.{AreTables}

-- the rows of a part are those of the range of vertices between its cuts, with their tables
pub record HoldsPart (part : ℕ) (weighted : Bool) (cuts : CutView) (rows : RangeGraph) (tables : List (List ℕ)) : Type 0 where
  pub cuts_are : AreCuts cuts.vertices cuts.cuts
  pub low : part ≤ length cuts.cuts
  pub vertices : rows.vertices ≡ cuts.vertices
  pub first_is : rows.first ≡ begin_of cuts.cuts part
  pub end_is : rows.end ≡ end_of cuts.vertices cuts.cuts part
  pub tables_are : AreTables weighted rows tables
