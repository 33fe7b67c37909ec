-- What contracts see of a part.
use Rattle.std.specs.Prelude.{◌≡◌, ℕ, ◌<◌, Bool, List, All}
use Rattle.walk_model.specs.declared.graph.Edge.{Edge}
use Rattle.walk_model.specs.Graph.{row, has_edge}
use Rattle.walk_model.specs.Cuts.{owner}
use Rattle.csr_store.specs.RowGraph.{RowGraph}

-- a part: its number, the cuts between all parts, whether the weights of its edges count, the number of
-- all vertices, and the edges from the vertices that it owns
pub record PartView : Type 0 where
  pub part : ℕ
  pub cuts : List ℕ
  pub weighted : Bool
  pub vertices : ℕ
  pub edges : List Edge

-- a part owns a vertex
pub record Owns (p : PartView) (v : ℕ) : Type 0 where
  pub below : v < p.vertices
  pub owner_is : owner p.cuts v ≡ p.part

-- a part has the rows of its vertices in a graph
pub record IsPartOf (g : RowGraph) (p : PartView) : Type 0 where
  pub vertices : p.vertices ≡ g.vertices
  pub rows : (v : ℕ) → Owns p v → row p.edges v ≡ row g.edges v
  pub has : (t x : ℕ) → Owns p t → has_edge p.edges t x ≡ has_edge g.edges t x

-- a part is the one of a number, with the rows of its vertices in a graph, and no others
pub record IsPart (g : RowGraph) (weighted : Bool) (cuts : List ℕ) (number : ℕ) (p : PartView) : Type 0 where
  pub part : p.part ≡ number
  pub cuts_are : p.cuts ≡ cuts
  pub weights : p.weighted ≡ weighted
  pub of_graph : IsPartOf g p
  pub only : All (λ e. owner cuts e.src ≡ number) p.edges
