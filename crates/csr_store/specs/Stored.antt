-- Rows of a range as they are stored, and what is true of them.
use Rattle.std.specs.Prelude.{◌≡◌, ◌≤◌, ◌<◌, ◌+◌, ◌^◌, ℕ, length, map, slice_index, All}
use Rattle.walk_model.specs.Graph.{row}
use Rattle.csr_store.specs.declared.ranges.RowRange.TheInside.{Inside}
use Rattle.csr_store.specs.OutEdges.{out_edge}
use Rattle.csr_store.specs.RowGraph.{RangeGraph}
use Rattle.csr_store.specs.Shelves.{stored_row, edges_of_rows, IsOutEdge}

-- the graph of stored rows
abbrev pub graph_of : Inside → RangeGraph
graph_of a = record {
  edges = edges_of_rows a.first a.heads.starts a.out.items a.count;
  vertices = a.vertices;
  first = a.first;
  end = a.end;
  marks = a.heads.marks;
}

-- each row has a head, the rows follow each other to the end, each is the row of its vertex, and the
-- destinations and the types are those of the edges
pub record IsStored (a : Inside) : Type 0 where
  pub end_is : a.end ≡ a.first + a.count
  pub bound : a.end ≤ a.vertices
  pub starts : length a.heads.starts ≡ a.count + 1
  pub marks : length a.heads.marks ≡ a.count + 1
  pub begin : slice_index a.heads.starts 0 ≤ length a.out.items
  pub rising : (n : ℕ) → n < a.count → slice_index a.heads.starts n ≤ slice_index a.heads.starts (n + 1)
  pub within : (n : ℕ) → n < a.count → slice_index a.heads.starts (n + 1) ≤ length a.out.items
  pub rows : (n : ℕ) → n < a.count
      → stored_row a.heads.starts a.out.items n
      ≡ map out_edge (row (edges_of_rows a.first a.heads.starts a.out.items a.count) (a.first + n))
  pub whole : length (edges_of_rows a.first a.heads.starts a.out.items a.count) ≡ length a.out.items
  pub few : length a.out.items < 2 ^ 31
  pub edges : (n : ℕ) → n < a.count → All (IsOutEdge a.vertices) (stored_row a.heads.starts a.out.items n)
  pub dsts : a.dsts.items ≡ map (λ e. e.dst) a.out.items
  pub kinds : a.kinds.items ≡ map (λ e. e.kind) a.out.items
