-- Rows as they are stored: where each starts, and all their edges one after another.
use Rattle.std.specs.Prelude.{◌≤◌, ◌<◌, ◌+◌, ◌^◌, ℕ, zero, suc, nat_lt, List, [], ◌++◌, map, count_by, slice_index, slice_range}
use Rattle.walk_model.specs.declared.graph.Edge.{Edge}
use Rattle.csr_store.specs.declared.out_edge.OutEdge.{OutEdge}
use Rattle.csr_store.specs.OutEdges.{edge_from}

-- a stored row
abbrev pub stored_row : List ℕ → List OutEdge → ℕ → List OutEdge
stored_row starts out n = slice_range out (slice_index starts n) (slice_index starts (n + 1))

-- the edges of the first rows, row after row, where the first one is that of a vertex
unfoldable pub edges_of_rows : ℕ → List ℕ → List OutEdge → ℕ → List Edge
edges_of_rows first starts out zero = []
edges_of_rows first starts out (suc n) =
    edges_of_rows first starts out n ++ map (edge_from (first + n)) (stored_row starts out n)

-- how many edges leave vertices below a vertex
abbrev pub edges_below : List Edge → ℕ → ℕ
edges_below edges v = count_by (λ e. nat_lt e.src v) edges

-- an edge of a row has a weight and an end in range
abbrev pub IsOutEdge : ℕ → OutEdge → Type 0
IsOutEdge vertices o = (1 ≤ o.weight) × (o.weight < 2 ^ 62) × (o.dst < vertices)
