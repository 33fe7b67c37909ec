-- The weights of stored rows are those of the rows.
use Rattle.std.proofs.Common.{◌≡◌, ◌<◌, ◌≤◌, ◌+◌, ◌^◌, ℕ, suc, Bool, true, false, List, [], ◌∷◌, length, map, sum, take, get_or, refl, ap, sym, ◌∙◌, arith}
use Rattle.std.specs.Prelude.{All}
use Rattle.std.proofs.lemmas.List.Elements.{All-map}
use Rattle.walk_model.specs.declared.graph.Edge.{Edge}
use Rattle.walk_model.specs.Graph.{weights_of, static_weight}
use Rattle.walk_model.proofs.BoardLemmas.{length-weights_of}
use Rattle.std.proofs.lemmas.Grind.{common_steps}
use Rattle.std.proofs.lemmas.List.Sums.{sum_by-cons, sum_by-append}
use Rattle.std.proofs.Math.Seq.{take-suc}
use Rattle.std.proofs.lemmas.List.{length-map, map-append}
use Rattle.alias_table.specs.Columns.{IsRow}
use Rattle.csr_store.specs.declared.out_edge.OutEdge.{OutEdge}
use Rattle.csr_store.specs.OutEdges.{out_edge}
use Rattle.csr_store.specs.Shelves.{IsOutEdge}
use Rattle.vertex_partition.specs.OutWeights.{out_weight}

-- the weights of a stored row are those of the row
pub out-weights : (weighted : Bool) (row : List Edge) → map (out_weight weighted) (map out_edge row) ≡ weights_of weighted row
unfolding weights_of
out-weights weighted [] = refl
out-weights weighted (e ∷ es) = ap (λ l. static_weight weighted e ∷ l) (out-weights weighted es)

-- without weights a row weighs its number of edges
pub unweighted-sum : (row : List OutEdge) → length row ≡ sum (map (out_weight false) row)
unweighted-sum [] = refl
unweighted-sum (e ∷ es) =
    let rest = unweighted-sum es in
    grind (arith, common_steps, sum_by-cons)

-- the weights of one edge more of a row
pub weight-more : (row : List OutEdge) (i : ℕ) (d : OutEdge) → i < length row
    → sum (map (λ e. e.weight) (take (suc i) row)) ≡ sum (map (λ e. e.weight) (take i row)) + (get_or row i d).weight
weight-more row i d low =
    let one : sum (map (λ (e : OutEdge). e.weight) (get_or row i d ∷ [])) ≡ (get_or row i d).weight = sum_by-cons (λ n. n) (get_or row i d).weight [] ∙ omega arith in
    ap (λ (es : List OutEdge). sum (map (λ e. e.weight) es)) (take-suc row i d low)
    ∙ ap (λ (ws : List ℕ). sum ws) (map-append (λ (e : OutEdge). e.weight) (take i row) (get_or row i d ∷ []))
    ∙ sum_by-append (λ n. n) (map (λ (e : OutEdge). e.weight) (take i row)) (map (λ (e : OutEdge). e.weight) (get_or row i d ∷ []))
    ∙ ap (λ n. sum (map (λ (e : OutEdge). e.weight) (take i row)) + n) one

weight-range : (weighted : Bool) (n : ℕ) (o : OutEdge) → IsOutEdge n o
    → (1 ≤ out_weight weighted o) × (out_weight weighted o < 2 ^ 62)
weight-range true n o h = (h.0, h.1)
weight-range false n o h = (omega arith, omega arith)

-- and in range
pub out-range : (weighted : Bool) (n : ℕ) (row : List OutEdge) → All (IsOutEdge n) row
    → All (λ w. (1 ≤ w) × (w < 2 ^ 62)) (map (out_weight weighted) row)
out-range weighted n row h =
    All-map (λ w. (1 ≤ w) × (w < 2 ^ 62)) (out_weight weighted) row (λ k d low. weight-range weighted n (get_or row k d) (h k d low))

-- those of a row with edges are a row that a table is built for
pub row-is : (weighted : Bool) (n : ℕ) (row : List OutEdge) → All (IsOutEdge n) row → 0 < length row → length row < 2 ^ 31
    → IsRow (map (out_weight weighted) row)
row-is weighted n row edges some few =
    let long : length (map (out_weight weighted) row) ≡ length row = length-map row (out_weight weighted) in
    record {
      some = omega (arith, long, some);
      short = omega (arith, long, few);
      weights = out-range weighted n row edges;
    }

-- a table is as long as the stored row
pub taken-long : (weighted : Bool) (row : List Edge) (t : List ℕ) (out : List OutEdge) → weights_of weighted row ≡ t
    → out ≡ map out_edge row → length t ≡ length out
taken-long weighted row t out is stored =
    ap (λ (l : List ℕ). length l) (sym is) ∙ length-weights_of weighted row ∙ sym (length-map row out_edge)
    ∙ ap (λ (l : List OutEdge). length l) (sym stored)
