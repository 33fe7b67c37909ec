-- What the vertices of a graph cost.
use Rattle.std.proofs.Common.{◌≡◌, ◌≤◌, ◌+◌, ◌∷◌, [], ◌++◌, ℕ, zero, suc, List, length, map, sum, refl, ap, sym, ◌∙◌, arith}
use Rattle.std.specs.Prelude.{nat_lt}
use Rattle.std.proofs.lemmas.List.{length-map, map-append}
use Rattle.std.proofs.lemmas.List.Sums.{count_by-le-length, sum_by-append, sum_by-cons}
use Rattle.walk_model.specs.declared.graph.Edge.{Edge}
use Rattle.walk_model.specs.Cuts.{costs_of, cuts_of, up_to}
use Rattle.walk_model.specs.Graph.{row}
use Rattle.walk_model.specs.Numbers.{below}
use Rattle.csr_store.specs.Shelves.{edges_below}
use Rattle.csr_store.proofs.RowLaws.{edges_below-more, edges_below-none, length-row}
use Rattle.shard_core.proofs.WholeLemmas.{length-below}

-- no vertex yet
pub costs-none : (edges : List Edge) → [] ≡ costs_of edges (below 0)
unfolding costs_of below
costs-none edges = refl

-- one vertex more
pub costs-more : (edges : List Edge) (v cost : ℕ) (costs : List ℕ) → costs ≡ costs_of edges (below v) → cost ≡ 1 + length (row edges v)
    → costs ++ cost ∷ [] ≡ costs_of edges (below (v + 1))
unfolding costs_of below
costs-more edges v cost costs so_far is =
    let next : v + 1 ≡ suc v = omega arith in
    ap (λ (l : List ℕ). l ++ cost ∷ []) so_far
    ∙ ap (λ c. map (λ u. 1 + length (row edges u)) (below v) ++ c ∷ []) is
    ∙ sym (map-append (λ u. 1 + length (row edges u)) (below v) (v ∷ []))
    ∙ ap (λ n. map (λ u. 1 + length (row edges u)) (below n)) (sym next)

pub many-costs : (edges : List Edge) (n : ℕ) → length (costs_of edges (below n)) ≡ n
unfolding costs_of
many-costs edges n = length-map (below n) (λ u. 1 + length (row edges u)) ∙ length-below n

costs-sum : (edges : List Edge) (n : ℕ) → sum (costs_of edges (below n)) ≡ n + edges_below edges n
unfolding costs_of below
costs-sum edges zero = (let none = edges_below-none edges in omega (arith, none))
costs-sum edges (suc n) =
    let next : n + 1 ≡ suc n = omega arith in
    let more : edges_below edges (suc n) ≡ edges_below edges n + length (row edges n) =
    ap (edges_below edges) (sym next) ∙ edges_below-more edges n ∙ ap (λ k. edges_below edges n + k) (sym (length-row edges n)) in
    let split : sum (map (λ u. 1 + length (row edges u)) (below n ++ n ∷ []))
    ≡ sum (map (λ u. 1 + length (row edges u)) (below n)) + sum ((1 + length (row edges n)) ∷ []) =
    ap sum (map-append (λ u. 1 + length (row edges u)) (below n) (n ∷ []))
    ∙ sum_by-append (λ x. x) (map (λ u. 1 + length (row edges u)) (below n)) ((1 + length (row edges n)) ∷ []) in
    let one = sum_by-cons (λ x. x) (1 + length (row edges n)) [] in
    let rest = costs-sum edges n in
    omega (arith, split, one, rest, more)

-- all together cost no more than vertices and edges
pub costs-most : (edges : List Edge) (n : ℕ) → sum (costs_of edges (below n)) ≤ n + length edges
costs-most edges n =
    let all = costs-sum edges n in
    let most = count_by-le-length (λ (e : Edge). nat_lt e.src n) edges in
    omega (arith, all, most)

-- one part has no cut
pub cuts-one : (costs : List ℕ) (parts : ℕ) → parts ≡ 1 → [] ≡ cuts_of costs parts
unfolding cuts_of up_to
cuts-one costs parts one = ap (cuts_of costs) (sym one)
