-- What rows say: a graph, whose edges stand row by row.
use Rattle.std.specs.Prelude.{◌≡◌, ◌≤◌, ◌<◌, ◌-◌, ℕ, List, length, slice_index, All}
use Rattle.walk_model.specs.declared.graph.Edge.{Edge}
use Rattle.walk_model.specs.Graph.{row, has_edge}

-- the edges of a graph, and the number of its vertices
pub record RowGraph : Type 0 where
  pub edges : List Edge
  pub vertices : ℕ

-- the edges from the vertices of a range, the number of all vertices, the first vertex of the range,
-- the one behind its last, and the marks of its vertices
pub record RangeGraph : Type 0 where
  pub edges : List Edge
  pub vertices : ℕ
  pub first : ℕ
  pub end : ℕ
  pub marks : List ℕ

-- a vertex lies in a range
abbrev pub IsIn : RangeGraph → ℕ → Type 0
IsIn g v = (g.first ≤ v) × (v < g.end)

-- the mark of a vertex of a range
abbrev pub mark_of : RangeGraph → ℕ → ℕ
mark_of g v = slice_index g.marks (v - g.first)

-- two ranges are alike but for their marks
pub record HasSameRows (g h : RangeGraph) : Type 0 where
  pub edges : h.edges ≡ g.edges
  pub vertices : h.vertices ≡ g.vertices
  pub first_is : h.first ≡ g.first
  pub end_is : h.end ≡ g.end

-- a range has the rows of its vertices in some edges, and no others
pub record HoldsRange (given : List Edge) (n first end : ℕ) (g : RangeGraph) : Type 0 where
  pub vertices : g.vertices ≡ n
  pub first_is : g.first ≡ first
  pub end_is : g.end ≡ end
  pub rows : (v : ℕ) → first ≤ v → v < end → row g.edges v ≡ row given v
  pub has : (t x : ℕ) → first ≤ t → t < end → has_edge g.edges t x ≡ has_edge given t x
  pub only : All (λ e. (first ≤ e.src) × (e.src < end)) g.edges

-- the range of all vertices has the rows of a list of edges
pub record HoldsAll (given : List Edge) (n : ℕ) (g : RangeGraph) : Type 0 where
  pub vertices : g.vertices ≡ n
  pub first_is : g.first ≡ 0
  pub end_is : g.end ≡ n
  pub edges : length g.edges ≡ length given
  pub rows : (v : ℕ) → row g.edges v ≡ row given v
  pub has : (t x : ℕ) → has_edge g.edges t x ≡ has_edge given t x

-- a range is that of all vertices of a graph, with all its edges
pub record IsWhole (g : RowGraph) (r : RangeGraph) : Type 0 where
  pub edges : r.edges ≡ g.edges
  pub vertices : r.vertices ≡ g.vertices
  pub first_is : r.first ≡ 0
  pub end_is : r.end ≡ g.vertices
