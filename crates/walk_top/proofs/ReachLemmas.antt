-- Where a step could overflow, in ranks and in names.
use Rattle.std.proofs.Common.{◌≡◌, ◌<◌, ◌≤◌, ◌^◌, ◌*◌, ℕ, zero, suc, Bool, true, false, List, [], ◌∷◌, ◌++◌, length, map, sum, take, Some, None, refl, ap, sym, ◌∙◌, arith}
use Rattle.std.specs.Prelude.{if◌then◌else◌, nat_lt, slice_index, find, option_map}
use Rattle.std.specs.Option.{option_or}
use Rattle.std.specs.List.Sorted.{IsStrictlyIncreasing}
use Rattle.std.proofs.Math.Seq.{take-suc}
use Rattle.std.proofs.lemmas.List.{map-append}
use Rattle.std.proofs.lemmas.List.Folds.{find-append}
use Rattle.walk_model.specs.declared.graph.Edge.{Edge}
use Rattle.walk_model.specs.Settings.{Settings}
use Rattle.walk_model.specs.Graph.{row, weights_of, vertices_of}
use Rattle.walk_model.specs.Factor.{greatest_factor}
use Rattle.walk_model.specs.Fits.{reach_of}
use Rattle.walk_model.proofs.RenameLemmas.{row-renamed, weights_of-renamed}
use Rattle.vertex_names.specs.Ranks.{ranked, AreNamed}
use Rattle.vertex_names.proofs.NameLaws.{ranked-ends}
use Rattle.csr_store.specs.RowGraph.{RowGraph}
use Rattle.walk_top.specs.Limits.{overflowing}
use Rattle.walk_model.specs.Numbers.{below}
use Rattle.vertex_partition.specs.Reaches.{row_reach}
use Rattle.walk_top.specs.Ranked.{IsRankedBy}
use Rattle.walk_top.proofs.RankLemmas.{names-keep, edges-back, ranks-in}

find-map : (p : ℕ → Bool) (f : ℕ → ℕ) (xs : List ℕ) → find p (map f xs) ≡ option_map f (find (λ x. p (f x)) xs)
find-map p f [] = refl
find-map p f (x ∷ xs) =
    elim (p (f x)) as (λ b. (if b then Some (f x) else find p (map f xs)) ≡ option_map f (if b then Some x else find (λ y. p (f y)) xs)) [
      | true ↦ refl
      | false ↦ find-map p f xs
    ]

find-same : (p q : ℕ → Bool) (n : ℕ) → ((v : ℕ) → v < n → p v ≡ q v) → find p (below n) ≡ find q (below n)
unfolding below
find-same p q zero same = refl
find-same p q (suc n) same =
    find-append p (below n) (n ∷ [])
    ∙ ap (λ o. option_or o (find p (n ∷ []))) (find-same p q n (λ v low. same v (omega (arith, low))))
    ∙ ap (λ b. option_or (find q (below n)) (if b then Some n else None)) (same n (omega arith))
    ∙ sym (find-append q (below n) (n ∷ []))

-- the first elements of a list, by their places
first-by_places : (xs : List ℕ) (n : ℕ) → n ≤ length xs → take n xs ≡ map (slice_index xs) (below n)
unfolding below
first-by_places xs zero low = refl
first-by_places xs (suc n) low =
    take-suc xs n 0 low ∙ ap (λ l. l ++ slice_index xs n ∷ []) (first-by_places xs n (omega (arith, low)))
    ∙ sym (map-append (slice_index xs) (below n) (n ∷ []))

take-whole : (xs : List ℕ) → take (length xs) xs ≡ xs
take-whole [] = refl
take-whole (x ∷ xs) = ap (λ l. x ∷ l) (take-whole xs)

-- a row in ranks costs what the row of its name costs
reach-named : (edges : List Edge) (plan : Settings) (g : RowGraph) (v : ℕ) → IsStrictlyIncreasing (vertices_of edges)
    → AreNamed (vertices_of edges) edges → IsRankedBy (vertices_of edges) edges g → v < length (vertices_of edges)
    → reach_of edges plan (slice_index (vertices_of edges) v) ≡ row_reach g plan.weighted (greatest_factor plan.rule) v
reach-named edges plan g v up named by low =
    let names : List ℕ = vertices_of edges in
    let f : ℕ → ℕ = slice_index names in
    let ranks : List Edge = map (ranked names) edges in
    let weights : weights_of plan.weighted (row edges (f v)) ≡ weights_of plan.weighted (row g.edges v) =
    ap (λ es. weights_of plan.weighted (row es (f v))) (sym (edges-back names edges up named))
    ∙ ap (weights_of plan.weighted) (row-renamed f (λ r. r < length names) (names-keep names up) ranks v (ranks-in (length names) ranks (ranked-ends names edges named)) low)
    ∙ weights_of-renamed f plan.weighted (row ranks v)
    ∙ ap (weights_of plan.weighted) (sym (by.rows v)) in
    ap (λ ws. length ws * sum ws * greatest_factor plan.rule) weights

-- the least vertex that overflows is the name of the least rank that does
pub overflow-named : (edges : List Edge) (plan : Settings) (g : RowGraph) → IsStrictlyIncreasing (vertices_of edges)
    → AreNamed (vertices_of edges) edges → IsRankedBy (vertices_of edges) edges g
    → overflowing edges plan (vertices_of edges)
    ≡ option_map (slice_index (vertices_of edges))
    (find (λ v. nat_lt (2 ^ 62) (row_reach g plan.weighted (greatest_factor plan.rule) v)) (below g.vertices))
unfolding overflowing
overflow-named edges plan g up named by =
    let names : List ℕ = vertices_of edges in
    let p : ℕ → Bool = λ v. nat_lt (2 ^ 62) (reach_of edges plan v) in
    let q : ℕ → Bool = λ v. nat_lt (2 ^ 62) (row_reach g plan.weighted (greatest_factor plan.rule) v) in
    ap (find p) (sym (take-whole names) ∙ first-by_places names (length names) (omega arith))
    ∙ find-map p (slice_index names) (below (length names))
    ∙ ap (option_map (slice_index names)) (find-same (λ v. p (slice_index names v)) q (length names)
    (λ v low. ap (nat_lt (2 ^ 62)) (reach-named edges plan g v up named by low)))
    ∙ ap (λ n. option_map (slice_index names) (find q (below n))) (sym by.vertices)
