-- The ends and the types of stored rows are those of the rows.
use Rattle.std.proofs.Common.{◌≡◌, ℕ, ◌+◌, ◌-◌, ◌<◌, List, length, map, take, drop, ap, ◌∙◌}
use Rattle.std.specs.Prelude.{slice_index, All}
use Rattle.std.proofs.lemmas.List.{drop-map, take-map, length-map}
use Rattle.std.proofs.lemmas.List.Elements.{All-map, All-same}
use Rattle.walk_model.specs.declared.graph.Edge.{Edge}
use Rattle.walk_model.specs.Graph.{row, ends_of}
use Rattle.csr_store.specs.declared.out_edge.OutEdge.{OutEdge}
use Rattle.csr_store.specs.declared.ranges.RowRange.TheInside.{Inside}
use Rattle.csr_store.specs.OutEdges.{out_edge, kinds_of}
use Rattle.csr_store.specs.Shelves.{stored_row}
use Rattle.csr_store.specs.Stored.{graph_of, IsStored}
use Rattle.csr_store.proofs.ListLemmas.{map-map}

-- the ends of what is kept of a row are those of the row
ends-kept : (out : List Edge) → map (λ e. e.dst) (map out_edge out) ≡ ends_of out
unfolding ends_of
ends-kept out = map-map (λ (e : OutEdge). e.dst) out_edge out

-- a row has as many ends as edges
pub length-ends_of : (out : List Edge) → length (ends_of out) ≡ length out
unfolding ends_of
length-ends_of out = length-map out (λ (e : Edge). e.dst)

-- what a list has of each edge is, between the places of a row, what it has of the row's stored edges
kept-between : (a : Inside) (f : OutEdge → ℕ) (v from to : ℕ) (kept : List ℕ)
    → from ≡ slice_index a.heads.starts v → to ≡ slice_index a.heads.starts (v + 1) → kept ≡ map f a.out.items
    → take (to - from) (drop from kept) ≡ map f (stored_row a.heads.starts a.out.items v)
kept-between a f v from to kept first last is =
    let low : ℕ = slice_index a.heads.starts v in
    let high : ℕ = slice_index a.heads.starts (v + 1) in
    ap (λ n. take (to - n) (drop n kept)) first ∙ ap (λ n. take (n - low) (drop low kept)) last
    ∙ ap (λ l. take (high - low) (drop low l)) is
    ∙ ap (take (high - low)) (drop-map f low a.out.items)
    ∙ take-map f (high - low) (drop low a.out.items)

-- so the destinations there are those of the row
pub ends-stored : (a : Inside) → IsStored a → (v from to : ℕ) (dsts : List ℕ) → v < a.count
    → from ≡ slice_index a.heads.starts v → to ≡ slice_index a.heads.starts (v + 1) → dsts ≡ a.dsts.items
    → take (to - from) (drop from dsts) ≡ ends_of (row (graph_of a).edges (a.first + v))
ends-stored a s v from to dsts inside first last is =
    kept-between a (λ (e : OutEdge). e.dst) v from to dsts first last (is ∙ s.dsts)
    ∙ ap (map (λ (e : OutEdge). e.dst)) (s.rows v inside) ∙ ends-kept (row (graph_of a).edges (a.first + v))

-- and they are vertices
pub ends-vertices : (a : Inside) → IsStored a → (v from to : ℕ) (dsts : List ℕ) → v < a.count
    → from ≡ slice_index a.heads.starts v → to ≡ slice_index a.heads.starts (v + 1) → dsts ≡ a.dsts.items
    → All (λ t. t < a.vertices) (take (to - from) (drop from dsts))
ends-vertices a s v from to dsts inside first last is =
    let edges = s.edges v inside in
    All-same (λ t. t < a.vertices) _ _ (kept-between a (λ (e : OutEdge). e.dst) v from to dsts first last (is ∙ s.dsts))
    (All-map (λ t. t < a.vertices) (λ (e : OutEdge). e.dst) (stored_row a.heads.starts a.out.items v) (λ k d h. (edges k d h).2))

-- and the types there are those of the row
pub kinds-stored : (a : Inside) → IsStored a → (v from to : ℕ) (kinds : List ℕ) → v < a.count
    → from ≡ slice_index a.heads.starts v → to ≡ slice_index a.heads.starts (v + 1) → kinds ≡ a.kinds.items
    → take (to - from) (drop from kinds) ≡ kinds_of (row (graph_of a).edges (a.first + v))
kinds-stored a s v from to kinds inside first last is =
    kept-between a (λ (e : OutEdge). e.kind) v from to kinds first last (is ∙ s.kinds)
    ∙ ap (map (λ (e : OutEdge). e.kind)) (s.rows v inside)
    ∙ map-map (λ (e : OutEdge). e.kind) out_edge (row (graph_of a).edges (a.first + v))
