-- The board as a reply tells it is that of the classes that it tells.
use Rattle.std.proofs.Common.{◌≡◌, ℕ, zero, suc, ◌*◌, ◌<◌, ◌≤◌, Bool, true, false, List, [], ◌∷◌, length, map, sum, get_or, Some, None, refl, ap, sym, ◌∙◌, arith}
use Rattle.std.specs.Prelude.{◌==◌, nat_lt, All, Option, if◌then◌else◌, slice_index}
use Rattle.std.proofs.lemmas.Bool.Decides.{nat_tests}
use Rattle.std.specs.List.Sorted.{IsNonDecreasing, IsStrictlyIncreasing}
use Rattle.std.proofs.lemmas.List.{length-map}
use Rattle.std.proofs.lemmas.List.Kept.{AllPairs-from_increasing}
use Rattle.std.proofs.lemmas.List.Sums.{sum_by-cons}
use Rattle.std.proofs.Math.Nat.{one-le-mul}
use Rattle.walk_model.specs.declared.programme.Fraction.{Fraction}
use Rattle.walk_model.specs.declared.states.State.{State}
use Rattle.walk_model.specs.declared.graph.Edge.{Edge}
use Rattle.walk_model.specs.Settings.{Settings}
use Rattle.walk_model.specs.Graph.{row, weights_of, ends_of}
use Rattle.walk_model.specs.Factor.{return_factor, common_factor, far_factor}
use Rattle.walk_model.specs.Lists.{products}
use Rattle.walk_model.specs.Dart.{Board, board_of, hit, scan_total, scanned}
use Rattle.walk_model.specs.Letters.{Asker}
use Rattle.alias_table.specs.Columns.{IsRow}
use Rattle.factor_table.proofs.FlatBoardLaws.{flat_board, hit-flat}
use Rattle.dart_envelope.specs.ClassBoards.{ClassBoard, MayHave, Suits, board_by}
use Rattle.dart_envelope.specs.Verdicts.{settled}
use Rattle.dart_envelope.specs.declared.verdict.Verdict.TheVariants.{Need}
use Rattle.node2vec_walk.specs.Destinations.{known_of, strip_run}
use Rattle.node2vec_walk.specs.Nearness.{class_to, class_factors}
use Rattle.node2vec_walk.proofs.DestinationLaws.{strip-same, class_to-below}
use Rattle.traveller.specs.Replies.{told_factor, told_board}
use Rattle.traveller.specs.Told.{told_classes}
use Rattle.traveller.proofs.FarChoice.{IsFar, far_board}

-- each class that is told is one of three
told-below : (near : ℕ → Bool) (t : ℕ) (dsts : List ℕ) (k : ℕ) → k < length dsts → slice_index (told_classes near t dsts) k < 3
told-below near t [] k low = absurd (omega arith)
told-below near t (x ∷ xs) zero low = class_to-below x t (near x)
told-below near t (x ∷ xs) (suc k) low = told-below near t xs k (omega arith)

-- and the known one where one is known
told-may : (near : ℕ → Bool) (t : ℕ) (dsts : List ℕ) (k : ℕ) → k < length dsts
    → MayHave (get_or (known_of t dsts) k None) 1 (slice_index (told_classes near t dsts) k)
told-may near t [] k low = absurd (omega arith)
told-may near t (x ∷ xs) zero low = by (x == t) (near x)
  where
    by : (back n : Bool) → MayHave (if◌then◌else◌ {A = Option ℕ} back (Some 0) None) 1 (if back then 0 else (if n then 1 else 2))
    by true n = refl
    by false true = omega arith
    by false false = omega arith
told-may near t (x ∷ xs) (suc k) low = told-may near t xs k (omega arith)

pub told-suits : (ws fs dsts : List ℕ) (t : ℕ) (run : ℕ × ℕ) (near : ℕ → Bool) → length fs ≡ 3 → length dsts ≡ length ws
    → Suits (far_board ws fs t dsts run) (told_classes near t dsts)
told-suits ws fs dsts t run near three long = record {
  long = length-map dsts (λ x. class_to x t (near x)) ∙ long;
  below = λ edge low. (let class = told-below near t dsts edge (omega (arith, low, long)) in omega (arith, class, three));
  may = λ edge low. told-may near t dsts edge (omega (arith, low, long));
}

-- the class of an edge, as it is told
pub told-at : (near : ℕ → Bool) (t : ℕ) (dsts : List ℕ) (k : ℕ) → k < length dsts
    → slice_index (told_classes near t dsts) k ≡ class_to (slice_index dsts k) t (near (slice_index dsts k))
told-at near t [] k low = absurd (omega arith)
told-at near t (x ∷ xs) zero low = refl
told-at near t (x ∷ xs) (suc k) low = told-at near t xs k (omega arith)

-- what a dart settles to by it
pub settled-told : (b : ClassBoard) (classes : List ℕ) (edge height class : ℕ) (under : Bool) → slice_index classes edge ≡ class
    → under ≡ nat_lt height (slice_index b.factors class) → (if under then Some edge else None) ≡ settled b classes (Need edge height)
unfolding settled
settled-told b classes edge height class under told is = rw (told, ← is) refl

-- its factor is the one that is told
told-factor : (a : Asker) (near : ℕ → Bool) (x : ℕ) → slice_index (class_factors a.p a.q) (class_to x a.before (near x)) ≡ told_factor a near x
told-factor a near x = by (x == a.before) (near x)
  where
    by : (back n : Bool) → slice_index (class_factors a.p a.q) (if back then 0 else (if n then 1 else 2))
        ≡ (if back then return_factor a.p a.q else (if n then common_factor a.p a.q else far_factor a.p a.q))
    by true n = refl
    by false true = refl
    by false false = refl

told-factors : (a : Asker) (near : ℕ → Bool) (dsts : List ℕ)
    → map (slice_index (class_factors a.p a.q)) (told_classes near a.before dsts) ≡ map (told_factor a near) dsts
told-factors a near [] = refl
told-factors a near (x ∷ xs) = rw (told-factor a near x, told-factors a near xs) refl

-- what doesn't depend on which edges go back where nothing rises is the same on both boards
told-same : {X : Type 0} (F : Board → X)
    → ((ws fs : List ℕ) (h from count : ℕ) → F (flat_board ws fs h from count) ≡ F (flat_board ws fs h 0 0))
    → (edges : List Edge) (plan : Settings) (s : State) (back : ℕ) (a : Asker) (ws fs dsts : List ℕ) (run : ℕ × ℕ) (near : ℕ → Bool)
    → IsFar edges plan s back a ws fs dsts run
    → F (board_by (far_board ws fs back dsts run) (told_classes near back dsts)) ≡ F (told_board a (board_of edges plan s (row edges s.at)) near)
told-same F flat edges plan s back a ws fs dsts run near f =
    let ends : List ℕ = ends_of (row edges s.at) in
    let by : List ℕ = map (told_factor a near) a.ends in
    let told : map (slice_index (class_factors a.p a.q)) (told_classes near back ends) ≡ by =
    ap (λ t. map (slice_index (class_factors a.p a.q)) (told_classes near t ends)) (sym f.before) ∙ told-factors a near ends ∙ ap (map (told_factor a near)) (sym f.ends) in
    rw (f.run_is, f.dsts_are, f.factors, ← f.weights)
    (ap (λ fs. F (record (board_by (far_board (weights_of plan.weighted (row edges s.at)) (class_factors a.p a.q) back ends (strip_run (class_factors a.p a.q) ends back)) []) { factors = fs })) told
    ∙ strip-same (λ (b : Board). F (record b { factors = by })) (λ ws fs h from count. flat ws by h from count)
    edges plan s a.p a.q back (row edges s.at) f.rule f.previous)

-- a dart takes the same edge
pub told-hit : (edges : List Edge) (plan : Settings) (s : State) (back : ℕ) (a : Asker) (ws fs dsts : List ℕ) (run : ℕ × ℕ) (near : ℕ → Bool) (w : ℕ)
    → IsFar edges plan s back a ws fs dsts run
    → hit (board_by (far_board ws fs back dsts run) (told_classes near back dsts)) w ≡ hit (told_board a (board_of edges plan s (row edges s.at)) near) w
told-hit edges plan s back a ws fs dsts run near w f =
    told-same (λ (b : Board). hit b w) (λ ws fs h from count. hit-flat ws fs h from count w) edges plan s back a ws fs dsts run near f

scanned-flat : (ws fs : List ℕ) (h from count : ℕ) (words : ℕ → ℕ) (place : ℕ)
    → scanned (flat_board ws fs h from count) words place ≡ scanned (flat_board ws fs h 0 0) words place
unfolding scanned
scanned-flat ws fs h from count words place = refl

-- and a scan gives the same
pub told-scanned : (edges : List Edge) (plan : Settings) (s : State) (back : ℕ) (a : Asker) (ws fs dsts : List ℕ) (run : ℕ × ℕ) (near : ℕ → Bool) (words : ℕ → ℕ) (place : ℕ)
    → IsFar edges plan s back a ws fs dsts run
    → scanned (board_by (far_board ws fs back dsts run) (told_classes near back dsts)) words place
    ≡ scanned (told_board a (board_of edges plan s (row edges s.at)) near) words place
told-scanned edges plan s back a ws fs dsts run near words place f =
    told-same (λ (b : Board). scanned b words place) (λ ws fs h from count. scanned-flat ws fs h from count words place) edges plan s back a ws fs dsts run near f

-- a row weighs something where each factor is above 0
heavy : (ws fs classes : List ℕ) → IsRow ws → All (λ f. 1 ≤ f) fs → length classes ≡ length ws → slice_index classes 0 < length fs
    → 1 ≤ sum (products ws (map (slice_index fs) classes))
unfolding products
heavy [] fs classes row some long low = absurd (let one = row.some in omega (arith, one))
heavy (w ∷ ws) fs [] row some long low = absurd (omega (arith, long))
heavy (w ∷ ws) fs (c ∷ cs) row some long low =
    let one : 1 ≤ w = (row.weights 0 0 (omega arith)).0 in
    let two : 1 ≤ slice_index fs c = some c 0 low in
    let first : 1 ≤ w * slice_index fs c = one-le-mul one two in
    let whole = sum_by-cons (λ x. x) (w * slice_index fs c) (products ws (map (slice_index fs) cs)) in
    omega (arith, first, whole)

-- so its scan gives an edge
found : (b : Board) (words : ℕ → ℕ) (place : ℕ) → 1 ≤ scan_total b → None ≡ scanned b words place → ⊥
unfolding scanned
found b words place some is =
    let full : (scan_total b == 0) ≡ false = grind (arith, nat_tests) in
    absurd (let none = rw full at is in cc)

pub told-found : (ws fs dsts : List ℕ) (t : ℕ) (run : ℕ × ℕ) (near : ℕ → Bool) (words : ℕ → ℕ) (place : ℕ) → IsRow ws → All (λ f. 1 ≤ f) fs
    → length fs ≡ 3 → length dsts ≡ length ws → None ≡ scanned (board_by (far_board ws fs t dsts run) (told_classes near t dsts)) words place → ⊥
told-found ws fs dsts t run near words place row some three long is =
    let first : slice_index (told_classes near t dsts) 0 < 3 = told-below near t dsts 0 (let one = row.some in omega (arith, one, long)) in
    found (board_by (far_board ws fs t dsts run) (told_classes near t dsts)) words place
    (heavy ws fs (told_classes near t dsts) row some (length-map dsts (λ x. class_to x t (near x)) ∙ long) (omega (arith, first, three))) is

-- each factor of a walk by p and q is above 0
pub factors-some : (p q : Fraction) → 1 ≤ p.top → 1 ≤ p.bottom → 1 ≤ q.top → 1 ≤ q.bottom → All (λ f. 1 ≤ f) (class_factors p q)
factors-some p q pt pb qt qb zero d low = one-le-mul pb qt
factors-some p q pt pb qt qb (suc zero) d low = one-le-mul pt qt
factors-some p q pt pb qt qb (suc (suc zero)) d low = one-le-mul pt qb
factors-some p q pt pb qt qb (suc (suc (suc k))) d low = absurd (omega (arith, low))

-- ends that rise don't fall
pub non_decreasing : (xs : List ℕ) → IsStrictlyIncreasing xs → IsNonDecreasing xs
non_decreasing xs up = λ i j d le within.
    let cases : (b : Bool) → (i == j) ≡ b → get_or xs i d ≤ get_or xs j d = λ b.
    elim b as (λ b. (i == j) ≡ b → get_or xs i d ≤ get_or xs j d) [
      | true ↦ λ e. let same : i ≡ j = grind (arith, nat_tests) in rw same (omega arith)
      | false ↦ λ e.
          let less : i < j = grind (arith, nat_tests) in
          let more = AllPairs-from_increasing xs up i j d less within in
          omega (arith, more)
    ] in
    cases (i == j) refl
