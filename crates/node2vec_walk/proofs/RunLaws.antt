-- The edges of a row that are known to go back are those of the previous vertex's run.
use Rattle.std.proofs.Common.{◌≡◌, ℕ, zero, suc, ◌+◌, ◌<◌, ◌≤◌, ◌↔◌, Bool, true, false, List, [], ◌∷◌, length, map, get_or, Some, None, refl, arith, ap, sym, ◌∙◌}
use Rattle.std.specs.Prelude.{◌==◌, nat_lt, count_by}
use Rattle.std.proofs.lemmas.Bool.Decides.{nat_tests}
use Rattle.walk_model.specs.declared.graph.Edge.{Edge}
use Rattle.walk_model.specs.Graph.{row, ends_of}
use Rattle.walk_model.specs.Dart.{ends_below, ends_at}
use Rattle.std.proofs.lemmas.List.{length-map}
use Rattle.csr_store.specs.OutEdges.{out_edge}
use Rattle.csr_store.proofs.ListLemmas.{count_by-cons}
use Rattle.csr_store.proofs.SearchLemmas.{Rises, Rises-from_row, row-rises, below-run, at-run}
use Rattle.node2vec_walk.specs.Nearness.{known_to, known_class}

-- how many edges end below a vertex, and how many at it
abbrev pub below : ℕ → List ℕ → ℕ
below t xs = count_by (λ e. nat_lt e t) xs

abbrev pub at : ℕ → List ℕ → ℕ
at t xs = count_by (λ e. e == t) xs

-- edge k is known to be of class 0 where its place lies in the run, and nowhere else
abbrev pub IsKnownInRun : ℕ → List ℕ → ℕ → ℕ → ℕ → Type 0
IsKnownInRun t xs k from count =
    (get_or (map (λ x. known_to x t) xs) k None ≡ Some 0) ↔ ((from ≤ k) × (k < from + count))

-- where the ends rise from a number on, none lies below a lesser one
none-below : (least t : ℕ) (xs : List ℕ) → t ≤ least → Rises least xs → below t xs ≡ 0
none-below least t [] h up = refl
none-below least t (x ∷ xs) h up =
    let low = up.0 in
    let no : nat_lt x t ≡ false = grind (arith, nat_tests) in
    rw (count_by-cons (λ e. nat_lt e t) x xs, no, none-below x t xs (omega arith) up.1) refl

-- nor at it
none-at : (least t : ℕ) (xs : List ℕ) → t < least → Rises least xs → at t xs ≡ 0
none-at least t [] h up = refl
none-at least t (x ∷ xs) h up =
    let low = up.0 in
    let no : (x == t) ≡ false = grind (arith, nat_tests) in
    rw (count_by-cons (λ e. e == t) x xs, no, none-at x t xs (omega arith) up.1) refl

-- what is known of the edges of a row by their ends, whose run begins behind those that end below the vertex
abbrev pub AreKnown : ℕ → List ℕ → Type 0
AreKnown t xs = (k : ℕ) → k < length xs → IsKnownInRun t xs k (below t xs) (at t xs)

-- an edge that ends below the vertex stands in front of the run
ahead : (t : ℕ) (x : ℕ) (xs : List ℕ) → nat_lt x t ≡ true → AreKnown t xs → AreKnown t (x ∷ xs)
ahead t x xs e later zero h =
    let no : (x == t) ≡ false = grind (arith, nat_tests) in
    rw (count_by-cons (λ e. nat_lt e t) x xs, count_by-cons (λ e. e == t) x xs, e, no)
    (λ is. cc, λ r. (let low = r.0 in absurd (omega arith)))
ahead t x xs e later (suc k) h =
    let no : (x == t) ≡ false = grind (arith, nat_tests) in
    let rest = later k (omega arith) in
    rw (count_by-cons (λ e. nat_lt e t) x xs, count_by-cons (λ e. e == t) x xs, e, no) (
      λ is. (let r = rest.0 is in let low = r.0 in let high = r.1 in (omega arith, omega arith)),
      λ r. (let low = r.0 in let high = r.1 in rest.1 (omega arith, omega arith)),
    )

-- an edge that ends at the vertex is the first of the run
first : (t : ℕ) (x : ℕ) (xs : List ℕ) → (x == t) ≡ true → Rises x xs → AreKnown t xs → AreKnown t (x ∷ xs)
first t x xs e up later zero h =
    let no : nat_lt x t ≡ false = grind (arith, nat_tests) in
    let none = none-below x t xs (grind (arith, nat_tests)) up in
    rw (count_by-cons (λ e. nat_lt e t) x xs, count_by-cons (λ e. e == t) x xs, e, no)
    (λ is. (omega arith, omega arith), λ r. refl)
first t x xs e up later (suc k) h =
    let no : nat_lt x t ≡ false = grind (arith, nat_tests) in
    let none = none-below x t xs (grind (arith, nat_tests)) up in
    let rest = later k (omega arith) in
    rw (count_by-cons (λ e. nat_lt e t) x xs, count_by-cons (λ e. e == t) x xs, e, no) (
      λ is. (let r = rest.0 is in let low = r.0 in let high = r.1 in (omega arith, omega arith)),
      λ r. (let low = r.0 in let high = r.1 in rest.1 (omega arith, omega arith)),
    )

-- behind an edge that ends above the vertex there is no run
behind : (t : ℕ) (x : ℕ) (xs : List ℕ) → nat_lt t x ≡ true → Rises x xs → AreKnown t xs → AreKnown t (x ∷ xs)
behind t x xs e up later zero h =
    let no : (x == t) ≡ false = grind (arith, nat_tests) in
    let not_below : nat_lt x t ≡ false = grind (arith, nat_tests) in
    let none = none-at x t xs (grind (arith, nat_tests)) up in
    let none_below = none-below x t xs (grind (arith, nat_tests)) up in
    rw (count_by-cons (λ e. nat_lt e t) x xs, count_by-cons (λ e. e == t) x xs, not_below, no)
    (λ is. cc, λ r. (let high = r.1 in absurd (omega arith)))
behind t x xs e up later (suc k) h =
    let no : (x == t) ≡ false = grind (arith, nat_tests) in
    let not_below : nat_lt x t ≡ false = grind (arith, nat_tests) in
    let none = none-at x t xs (grind (arith, nat_tests)) up in
    let none_below = none-below x t xs (grind (arith, nat_tests)) up in
    let rest = later k (omega arith) in
    rw (count_by-cons (λ e. nat_lt e t) x xs, count_by-cons (λ e. e == t) x xs, not_below, no) (
      λ is. (let r = rest.0 is in let low = r.0 in let high = r.1 in absurd (omega arith)),
      λ r. (let high = r.1 in absurd (omega arith)),
    )

-- the edges that are known to be of class 0, by destinations that rise, are those of the run
pub known-in_rising : (least t : ℕ) (xs : List ℕ) → Rises least xs → AreKnown t xs
known-in_rising least t [] up = λ k h. absurd (omega arith)
known-in_rising least t (x ∷ xs) up =
    let later = known-in_rising x t xs up.1 in
    let at_or_above : (b : Bool) → (x == t) ≡ b → nat_lt x t ≡ false → AreKnown t (x ∷ xs) = λ b.
    elim b as (λ b. (x == t) ≡ b → nat_lt x t ≡ false → AreKnown t (x ∷ xs)) [
      | true ↦ λ e n. first t x xs e up.1 later
      | false ↦ λ e n. behind t x xs (grind (arith, nat_tests)) up.1 later
    ] in
    let cases : (b : Bool) → nat_lt x t ≡ b → AreKnown t (x ∷ xs) = λ b.
    elim b as (λ b. nat_lt x t ≡ b → AreKnown t (x ∷ xs)) [
      | true ↦ λ e. ahead t x xs e later
      | false ↦ λ e. at_or_above (x == t) refl e
    ] in
    cases (nat_lt x t) refl

-- what a row knows of its edges goes by their ends
pub known-ends : (t : ℕ) (out : List Edge) → map (known_class t) (map out_edge out) ≡ map (λ x. known_to x t) (ends_of out)
unfolding ends_of
known-ends t [] = refl
known-ends t (e ∷ es) = ap (λ l. known_to e.dst t ∷ l) (known-ends t es)

-- the edges of a vertex's row that are known to be of class 0 are those of the run back
pub known-in_run : (edges : List Edge) (v t k : ℕ) → k < length (map out_edge (row edges v))
    → (get_or (map (known_class t) (map out_edge (row edges v))) k None ≡ Some 0)
    ↔ ((ends_below (Some t) (ends_of (row edges v)) ≤ k) × (k < ends_below (Some t) (ends_of (row edges v)) + ends_at (Some t) (ends_of (row edges v))))
unfolding ends_of
known-in_run edges v t k h =
    let ends : List ℕ = ends_of (row edges v) in
    let size : length (map out_edge (row edges v)) ≡ length ends =
    length-map (row edges v) out_edge ∙ sym (length-map (row edges v) (λ (e : Edge). e.dst)) in
    rw (known-ends t (row edges v), ← below-run ends t, ← at-run ends t)
    (known-in_rising 0 t ends (Rises-from_row ends (row-rises edges v)) k (omega (arith, h, size)))
