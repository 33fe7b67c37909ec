-- A graph in ranks.
use Rattle.std.specs.Prelude.{◌≡◌, ℕ, List, length, map}
use Rattle.walk_model.specs.declared.graph.Edge.{Edge}
use Rattle.walk_model.specs.Graph.{row, has_edge}
use Rattle.vertex_names.specs.Ranks.{ranked}
use Rattle.csr_store.specs.RowGraph.{RowGraph}

-- rows have the edges of a graph, with ranks in place of names
pub record IsRankedBy (names : List ℕ) (edges : List Edge) (g : RowGraph) : Type 0 where
  pub vertices : g.vertices ≡ length names
  pub count : length g.edges ≡ length edges
  pub rows : (v : ℕ) → row g.edges v ≡ row (map (ranked names) edges) v
  pub has : (t x : ℕ) → has_edge g.edges t x ≡ has_edge (map (ranked names) edges) t x
