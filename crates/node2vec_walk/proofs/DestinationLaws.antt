-- The classes by destinations are those of the edges of rows.
use Rattle.std.proofs.Common.{◌≡◌, ℕ, zero, suc, ◌+◌, ◌-◌, ◌<◌, ◌≤◌, ◌↔◌, ◌⊎◌, inl, inr, Bool, true, false, List, [], ◌∷◌, length, map, get_or, Some, None, refl, arith, ap, sym, ◌∙◌}
use Rattle.std.specs.Prelude.{◌==◌, nat_lt, if◌then◌else◌, count_by, drop, slice_index, Option, IfSome}
use Rattle.std.specs.List.Sorted.{IsNonDecreasing}
use Rattle.std.proofs.lemmas.Bool.Decides.{nat_tests}
use Rattle.std.proofs.lemmas.List.{length-map}
use Rattle.walk_model.specs.declared.graph.Edge.{Edge}
use Rattle.walk_model.specs.declared.programme.Fraction.{Fraction}
use Rattle.walk_model.specs.declared.programme.Rule.TheVariants.{Node2vec}
use Rattle.walk_model.specs.declared.states.State.{State}
use Rattle.walk_model.specs.Settings.{Settings}
use Rattle.walk_model.specs.Graph.{row, has_edge, weights_of, ends_of}
use Rattle.walk_model.specs.Dart.{Board, ends_below, ends_at, board_of, darts}
use Rattle.csr_store.specs.OutEdges.{out_edge}
use Rattle.csr_store.proofs.ListLemmas.{list_any-map}
use Rattle.csr_store.proofs.RowLaws.{has_edge-row}
use Rattle.csr_store.proofs.SearchLemmas.{Rises-from_row, any-at, stands_at, below-run, at-run}
use Rattle.factor_table.specs.Factors.{greatest_of}
use Rattle.factor_table.proofs.FlatBoardLaws.{flat_board, darts-flat}
use Rattle.node2vec_walk.specs.Destinations.{is_among, classes_to, known_of, run_to, strip_run, rises}
use Rattle.node2vec_walk.specs.Nearness.{class_to, classes_after, class_factors, known_to, known_class}
use Rattle.node2vec_walk.proofs.NodeLaws.{node_board, board-after}
use Rattle.node2vec_walk.proofs.RunLaws.{known-in_rising, known-ends}

-- a vertex is among the destinations of a row where there is an edge to it
pub among-edge : (edges : List Edge) (t x : ℕ) → is_among (ends_of (row edges t)) x ≡ has_edge edges t x
unfolding ends_of
among-edge edges t x =
    list_any-map (λ d. d == x) (λ (e : Edge). e.dst) (row edges t) ∙ sym (has_edge-row edges t x)

-- the classes by the destinations of two rows are those of the edges
pub classes-edges : (edges : List Edge) (t : ℕ) (out : List Edge)
    → classes_to (ends_of (row edges t)) t (ends_of out) ≡ classes_after edges t (map out_edge out)
unfolding ends_of
classes-edges edges t [] = refl
classes-edges edges t (e ∷ es) =
    rw (among-edge edges t e.dst)
    (ap (λ l. class_to e.dst t (has_edge edges t e.dst) ∷ l) (classes-edges edges t es))

-- and so is what is known of them
pub known-edges : (t : ℕ) (out : List Edge) → known_of t (ends_of out) ≡ map (known_class t) (map out_edge out)
known-edges t out = sym (known-ends t out)

-- a vertex is among destinations that rise where it stands behind those below it
pub near-at : (x place : ℕ) (ys : List ℕ) (d : ℕ) → IsNonDecreasing ys → place ≡ count_by (λ e. nat_lt e x) ys
    → stands_at x place ys d ≡ is_among ys x
near-at x place ys d up at =
    ap (λ p. stands_at x p ys d) at ∙ sym (any-at 0 x ys d (Rises-from_row ys up))

-- where the return factor rises, the edges that are known to go back are those of the run
pub known-in_strip : (fs : List ℕ) (t : ℕ) (dsts : List ℕ) → IsNonDecreasing dsts → rises fs ≡ true
    → (k : ℕ) → k < length (known_of t dsts)
    → (get_or (known_of t dsts) k None ≡ Some 0) ↔ (((strip_run fs dsts t).0 ≤ k) × (k < (strip_run fs dsts t).1))
known-in_strip fs t dsts up rise k there =
    let low : k < length dsts = let long = length-map dsts (λ x. known_to x t) in omega (arith, there, long) in
    rw (rise, ← below-run dsts t, ← at-run dsts t) (known-in_rising 0 t dsts (Rises-from_row dsts up) k low)

-- there are three classes
pub class_to-below : (x t : ℕ) (near : Bool) → class_to x t near < 3
class_to-below x t near = by_tests (x == t) near
  where
    by_tests : (back near : Bool) → (if back then 0 else (if near then 1 else 2)) < 3
    by_tests true near = omega arith
    by_tests false true = omega arith
    by_tests false false = omega arith

pub classes-below : (before : List ℕ) (t : ℕ) (dsts : List ℕ) (k : ℕ) → k < length dsts
    → slice_index (classes_to before t dsts) k < 3
classes-below before t [] k h = absurd (omega arith)
classes-below before t (x ∷ xs) zero h = class_to-below x t (is_among before x)
classes-below before t (x ∷ xs) (suc k) h = classes-below before t xs k (omega arith)

-- a class that is known is the edge's; where none is known, it isn't class 0
pub classes-known : (before : List ℕ) (t : ℕ) (dsts : List ℕ) (k : ℕ) → k < length dsts
    → (get_or (known_of t dsts) k None ≡ Some (slice_index (classes_to before t dsts) k))
    ⊎ ((get_or (known_of t dsts) k None ≡ None) × (1 ≤ slice_index (classes_to before t dsts) k))
classes-known before t [] k h = absurd (omega arith)
classes-known before t (x ∷ xs) zero h = by_tests (x == t) (is_among before x)
  where
    by_tests : (back near : Bool)
        → (◌≡◌ {A = Option ℕ} (if back then Some 0 else None) (Some (if back then 0 else (if near then 1 else 2))))
        ⊎ ((◌≡◌ {A = Option ℕ} (if back then Some 0 else None) None) × (1 ≤ (if back then 0 else (if near then 1 else 2))))
    by_tests true near = inl refl
    by_tests false true = inr (refl, omega arith)
    by_tests false false = inr (refl, omega arith)
classes-known before t (x ∷ xs) (suc k) h = classes-known before t xs k (omega arith)

-- class 0 is the only one that is known
pub known-first : (t : ℕ) (dsts : List ℕ) (k : ℕ) → IfSome (get_or (known_of t dsts) k None) (λ class. class < 3)
known-first t [] k = tt
known-first t (x ∷ xs) zero = by_test (x == t)
  where
    by_test : (back : Bool) → IfSome (if◌then◌else◌ {A = Option ℕ} back (Some 0) None) (λ class. class < 3)
    by_test true = omega arith
    by_test false = tt
known-first t (x ∷ xs) (suc k) = known-first t xs k

-- what doesn't depend on which edges go back where nothing rises is the same on the board after a step from
-- t and on that of the classes by destinations, over the run that it has a strip for
pub strip-same : {X : Type 0} (F : Board → X)
    → ((ws fs : List ℕ) (h from count : ℕ) → F (flat_board ws fs h from count) ≡ F (flat_board ws fs h 0 0))
    → (edges : List Edge) (plan : Settings) (s : State) (p q : Fraction) (t : ℕ) (out : List Edge)
    → plan.rule ≡ Node2vec p q → s.previous ≡ Some t
    → (let run = strip_run (class_factors p q) (ends_of out) t in
    F (node_board (weights_of plan.weighted out) (class_factors p q) (classes_to (ends_of (row edges t)) t (ends_of out)) run.0 (run.1 - run.0)))
    ≡ F (board_of edges plan s out)
strip-same F flat edges plan s p q t out is before =
    let fs : List ℕ = class_factors p q in
    let ws : List ℕ = weights_of plan.weighted out in
    let each : List ℕ = classes_after edges t (map out_edge out) in
    let from : ℕ = ends_below (Some t) (ends_of out) in
    let count : ℕ = ends_at (Some t) (ends_of out) in
    let whole : board_of edges plan s out ≡ node_board ws fs each from count = board-after edges plan s p q t out is before in
    let cases : (b : Bool) → rises fs ≡ b
    → (let run = if◌then◌else◌ {A = ℕ × ℕ} b (run_to t (ends_of out)) (0, 0) in F (node_board ws fs each run.0 (run.1 - run.0)))
    ≡ F (node_board ws fs each from count) = λ b.
    elim b as (λ b. rises fs ≡ b
    → (let run = if◌then◌else◌ {A = ℕ × ℕ} b (run_to t (ends_of out)) (0, 0) in F (node_board ws fs each run.0 (run.1 - run.0)))
    ≡ F (node_board ws fs each from count)) [
      | true ↦ λ e. (let few : from + count - from ≡ count = omega arith in ap (λ m. F (node_board ws fs each from m)) few)
      | false ↦ λ e.
          (let level : slice_index fs 0 - greatest_of (drop 1 fs) ≡ 0 = grind (arith, nat_tests) in
          let h : ℕ = greatest_of (drop 1 fs) in
          let by : List ℕ = map (slice_index fs) each in
          ap (λ l. F (record { weights = ws; factors = by; height = h; lift = l; back_from = 0; back_count = 0 })) level
          ∙ sym (flat ws by h from count)
          ∙ ap (λ l. F (record { weights = ws; factors = by; height = h; lift = l; back_from = from; back_count = count })) (sym level))
    ] in
    rw (whole, classes-edges edges t out) (cases (rises fs) refl)

-- so are the darts after a step from t
pub darts-after : (n : ℕ) (edges : List Edge) (plan : Settings) (s : State) (p q : Fraction) (t : ℕ) (out : List Edge) (words : ℕ → ℕ) (place : ℕ)
    → plan.rule ≡ Node2vec p q → s.previous ≡ Some t
    → (let run = strip_run (class_factors p q) (ends_of out) t in
    darts n (node_board (weights_of plan.weighted out) (class_factors p q) (classes_to (ends_of (row edges t)) t (ends_of out)) run.0 (run.1 - run.0)) words place)
    ≡ darts n (board_of edges plan s out) words place
darts-after n edges plan s p q t out words place is before =
    strip-same (λ (b : Board). darts n b words place) (λ ws fs h from count. darts-flat n ws fs h from count words place)
    edges plan s p q t out is before

-- where the return factor rises, the run is that of the destinations below a vertex and at it
pub run-risen : (fs : List ℕ) (t : ℕ) (dsts : List ℕ) (from count : ℕ) → rises fs ≡ true
    → from ≡ count_by (λ e. nat_lt e t) dsts → count ≡ count_by (λ e. e == t) dsts
    → ◌≡◌ {A = ℕ × ℕ} (from, from + count) (strip_run fs dsts t)
run-risen fs t dsts from count rise first many =
    rw (rise, ← below-run dsts t, ← at-run dsts t, first, many) refl
