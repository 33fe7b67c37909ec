-- Numbers that don't fall, each once.
use Rattle.std.proofs.Common.{◌≡◌, ℕ, zero, suc, ◌+◌, ◌<◌, ◌≤◌, Bool, true, false, cond, List, [], ◌∷◌, length, refl, arith, ap, ◌∙◌, subst, eqb}
use Rattle.std.specs.Prelude.{nat_lt, ◌==◌, slice_index, count_by}
use Rattle.std.specs.List.{list_any, dedup_from, dedup}
use Rattle.std.specs.List.Sorted.{IsNonDecreasing, IsStrictlyIncreasing}
use Rattle.std.proofs.lemmas.Bool.Decides.{nat_tests}
use Rattle.walk_model.specs.Graph.{with_number}
use Rattle.csr_store.proofs.ListLemmas.{count_by-cons}
use Rattle.query_batch.specs.Replies.{rising}

-- numbers rise from a number on
abbrev Rises : ℕ → List ℕ → Type 0
Rises least [] = Unit {0}
Rises least (x ∷ xs) = (least ≤ x) × Rises (suc x) xs

-- numbers don't fall, from a number on
abbrev Climbs : ℕ → List ℕ → Type 0
Climbs least [] = Unit {0}
Climbs least (x ∷ xs) = (least ≤ x) × Climbs x xs

Rises-lower : (low least : ℕ) (xs : List ℕ) → low ≤ least → Rises least xs → Rises low xs
Rises-lower low least [] h up = tt
Rises-lower low least (x ∷ xs) h up = let first = up.0 in (omega arith, up.1)

increasing-from_Rises : (least : ℕ) (xs : List ℕ) → Rises least xs → IsStrictlyIncreasing xs
increasing-from_Rises least [] up k h = absurd (omega arith)
increasing-from_Rises least (x ∷ []) up k h = absurd (omega arith)
increasing-from_Rises least (x ∷ y ∷ ys) up zero h = let next = up.1.0 in omega arith
increasing-from_Rises least (x ∷ y ∷ ys) up (suc k) h =
    let e : suc k + 1 ≡ suc (k + 1) = omega arith in
    rw e (increasing-from_Rises (suc x) (y ∷ ys) up.1 k (omega arith))

Climbs-from : (least : ℕ) (xs : List ℕ) → (0 < length xs → least ≤ slice_index xs 0) → IsNonDecreasing xs → Climbs least xs
Climbs-from least [] first up = tt
Climbs-from least (x ∷ xs) first up = (
  first (omega arith),
  Climbs-from x xs (λ some. up 0 1 0 (omega arith) (omega arith))
      (λ i j d le within. up (suc i) (suc j) d (omega arith) (omega arith)),
)

-- a number below those of a list isn't among them
any-below : (least x : ℕ) (xs : List ℕ) → x < least → Rises least xs → list_any (λ y. y == x) xs ≡ false
any-below least x [] h up = refl
any-below least x (y ∷ ys) h up =
    let first = up.0 in
    let no : (y == x) ≡ false = grind (arith, nat_tests) in
    rw (no, any-below (suc y) x ys (omega arith) up.1) refl

-- and none of the list is below it
count-below : (least x : ℕ) (xs : List ℕ) → x ≤ least → Rises least xs → count_by (λ y. nat_lt y x) xs ≡ 0
count-below least x [] h up = refl
count-below least x (y ∷ ys) h up =
    let first = up.0 in
    let no : nat_lt y x ≡ false = grind (arith, nat_tests) in
    rw (count_by-cons (λ z. nat_lt z x) y ys, no, count-below (suc y) x ys (omega arith) up.1) refl

-- a number below those of a list goes to its front
with_number-first : (x : ℕ) (xs : List ℕ) → Rises (suc x) xs → with_number x xs ≡ x ∷ xs
unfolding with_number
with_number-first x xs up =
    rw (any-below (suc x) x xs (omega arith) up, count-below (suc x) x xs (omega arith) up) refl

-- a number that a list has isn't added
with_number-there : (x : ℕ) (xs : List ℕ) → list_any (λ y. y == x) xs ≡ true → with_number x xs ≡ xs
unfolding with_number
with_number-there x xs h = rw h refl

rising-cons : (x : ℕ) (xs : List ℕ) → rising (x ∷ xs) ≡ with_number x (rising xs)
unfolding rising
rising-cons x xs = refl

rising-none : rising [] ≡ []
unfolding rising
rising-none = refl

Rises-dedup_from : (k : ℕ) (xs : List ℕ) → Climbs k xs → Rises k (dedup_from eqb k xs)
Rises-dedup_from k [] up = (omega arith, tt)
Rises-dedup_from k (x ∷ xs) up =
    let first = up.0 in
    let cases : (b : Bool) → eqb x k ≡ b → Rises k (cond b (dedup_from eqb k xs) (k ∷ dedup_from eqb x xs)) = λ b.
    elim b as (λ b. eqb x k ≡ b → Rises k (cond b (dedup_from eqb k xs) (k ∷ dedup_from eqb x xs))) [
      | true ↦ λ h.
          let e : x ≡ k = grind (arith, nat_tests) in
          Rises-dedup_from k xs (subst (λ n. Climbs n xs) e up.1)
      | false ↦ λ h.
          (omega arith, Rises-lower (suc k) x (dedup_from eqb x xs) (grind (arith, nat_tests)) (Rises-dedup_from x xs up.1))
    ] in
    cases (eqb x k) refl

-- what is left of a list without repeats has the list's first number
any-dedup_from : (k : ℕ) (xs : List ℕ) → list_any (λ y. y == k) (dedup_from eqb k xs) ≡ true
any-dedup_from k [] = let yes : (k == k) ≡ true = grind (arith, nat_tests) in rw yes refl
any-dedup_from k (x ∷ xs) =
    elim (eqb x k) as (λ b. list_any (λ y. y == k) (cond b (dedup_from eqb k xs) (k ∷ dedup_from eqb x xs)) ≡ true) [
      | true ↦ any-dedup_from k xs
      | false ↦ let yes : (k == k) ≡ true = grind (arith, nat_tests) in rw yes refl
    ]

-- numbers that don't fall, in rising order and each once, are those without repeats of the one before
rising-dedup_from : (k : ℕ) (xs : List ℕ) → Climbs k xs → rising (k ∷ xs) ≡ dedup_from eqb k xs
rising-dedup_from k [] up = rising-cons k [] ∙ ap (with_number k) rising-none ∙ with_number-first k [] tt
rising-dedup_from k (x ∷ xs) up =
    let first = up.0 in
    let cases : (b : Bool) → eqb x k ≡ b
    → with_number k (dedup_from eqb x xs) ≡ cond b (dedup_from eqb k xs) (k ∷ dedup_from eqb x xs) = λ b.
    elim b as (λ b. eqb x k ≡ b
    → with_number k (dedup_from eqb x xs) ≡ cond b (dedup_from eqb k xs) (k ∷ dedup_from eqb x xs)) [
      | true ↦ λ h.
          let e : x ≡ k = grind (arith, nat_tests) in
          let same : dedup_from eqb x xs ≡ dedup_from eqb k xs = ap (λ n. dedup_from eqb n xs) e in
          ap (with_number k) same ∙ with_number-there k (dedup_from eqb k xs) (any-dedup_from k xs)
      | false ↦ λ h.
          with_number-first k (dedup_from eqb x xs)
          (Rises-lower (suc k) x (dedup_from eqb x xs) (grind (arith, nat_tests)) (Rises-dedup_from x xs up.1))
    ] in
    rising-cons k (x ∷ xs) ∙ ap (with_number k) (rising-dedup_from x xs up.1) ∙ cases (eqb x k) refl

-- so they are those that are left without repeats
pub rising-dedup : (xs : List ℕ) → IsNonDecreasing xs → rising xs ≡ dedup eqb xs
rising-dedup [] up = rising-none
rising-dedup (x ∷ xs) up =
    let climbs = Climbs-from x (x ∷ xs) (λ some. omega arith) up in
    rising-dedup_from x xs climbs.1

-- and these rise
pub increasing-dedup : (xs : List ℕ) → IsNonDecreasing xs → IsStrictlyIncreasing (dedup eqb xs)
increasing-dedup [] up k h = absurd (omega arith)
increasing-dedup (x ∷ xs) up k h =
    let climbs = Climbs-from x (x ∷ xs) (λ some. omega arith) up in
    increasing-from_Rises x (dedup_from eqb x xs) (Rises-dedup_from x xs climbs.1) k h
