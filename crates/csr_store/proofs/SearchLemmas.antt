-- Searches in the ends of a row, which rise.
use Rattle.std.proofs.Common.{◌≡◌, ℕ, zero, suc, ◌+◌, ◌<◌, ◌≤◌, Bool, true, false, List, [], ◌∷◌, length, map, get_or, take, drop, Some, refl, arith, ap, sym, ◌∙◌, ◌-◌, ◌&&◌, ◌||◌, subst}
use Rattle.std.specs.Prelude.{count_by, ◌==◌, nat_lt, nat_le, All}
use Rattle.std.specs.List.{list_any}
use Rattle.std.specs.List.Sorted.{IsNonDecreasing, IsNonDecreasingBy, IsPartitionPoint}
use Rattle.std.proofs.lemmas.Bool.{eq-eqb, ne_eqb}
use Rattle.std.proofs.lemmas.Bool.Decides.{nat_tests}
use Rattle.std.proofs.lemmas.List.{get_or-map, length-map, get_or_default, take_rest}
use Rattle.std.proofs.lemmas.List.Sorted.{IsNonDecreasingBy-from_all_adjacent, IsNonDecreasingBy-drop}
use Rattle.std.proofs.lemmas.List.Elements.{All-head, All-tail}
use Rattle.walk_model.specs.declared.graph.Edge.{Edge}
use Rattle.walk_model.specs.Graph.{comes_before, row, has_edge, ends_of}
use Rattle.walk_model.specs.Dart.{ends_below, ends_at}
use Rattle.walk_model.proofs.RowLemmas.{row-sorted}
use Rattle.csr_store.proofs.ListLemmas.{count_by-cons, list_any-map}
use Rattle.csr_store.proofs.RowLaws.{has_edge-row}

-- a place below which all pass and from which none does counts those that pass
pub count-partition : {X : Type 0} (p : X → Bool) (xs : List X) (i : ℕ) → i ≤ length xs
    → ((k : ℕ) (d : X) → k < i → p (get_or xs k d) ≡ true)
    → ((k : ℕ) (d : X) → i ≤ k → k < length xs → p (get_or xs k d) ≡ false) → count_by p xs ≡ i
count-partition p [] i h low high = omega arith
count-partition p (x ∷ xs) zero h low high =
    let no : p x ≡ false = high 0 x (omega arith) (omega arith) in
    rw (count_by-cons p x xs, no)
    (let rest = count-partition p xs 0 (omega arith) (λ k d b. absurd (omega arith)) (λ k d b c. high (suc k) d (omega arith) (omega arith)) in
    omega arith)
count-partition p (x ∷ xs) (suc i) h low high =
    let yes : p x ≡ true = low 0 x (omega arith) in
    rw (count_by-cons p x xs, yes)
    (let rest = count-partition p xs i (omega arith) (λ k d b. low (suc k) d (omega arith)) (λ k d b c. high (suc k) d (omega arith) (omega arith)) in
    omega arith)

-- what a search for the first element that fails says, as a count
pub count-from_point : {X : Type 0} (p : X → Bool) (xs : List X) (i : ℕ) → i ≤ length xs
    → IsPartitionPoint (λ y. p y ≡ true) (λ y. p y ≡ false) xs i → i ≡ count_by p xs
count-from_point p xs i h point =
    sym (count-partition p xs i h (λ k d b. point.0 k d (omega arith) b) (λ k d b c. point.1 k d b c))

-- the ends of a row rise
pub row-rises : (es : List Edge) (v : ℕ) → IsNonDecreasing (ends_of (row es v))
unfolding ends_of
row-rises es v =
    let up : IsNonDecreasingBy (λ (e : Edge). e.dst) (row es v) =
    IsNonDecreasingBy-from_all_adjacent (λ (e : Edge). e.dst) (row es v)
    (λ k d h. rising (get_or (row es v) k d) (get_or (row es v) (k + 1) d) (row-sorted es v k d (omega arith) h)) in
    λ i j d le within.
    let len : length (map (λ (e : Edge). e.dst) (row es v)) ≡ length (row es v) = length-map (row es v) (λ (e : Edge). e.dst) in
    let inside : j < length (row es v) = omega arith in
    let first : i < length (row es v) = omega arith in
    let e : Edge = record { src = 0; dst = d; weight = 0; kind = 0 } in
    rw (get_or-map (λ (e : Edge). e.dst) (row es v) i e d first, get_or-map (λ (e : Edge). e.dst) (row es v) j e d inside) (up i j e le inside)
  where
    rising : (d e : Edge) → comes_before e d ≡ false → d.dst ≤ e.dst
    rising d e h = grind (arith, nat_tests)

-- the ends of a list rise from a number on
abbrev pub Rises : ℕ → List ℕ → Type 0
Rises least [] = Unit {0}
Rises least (x ∷ xs) = (least ≤ x) × Rises x xs

Rises-from : (least : ℕ) (xs : List ℕ) → ((d : ℕ) → 0 < length xs → least ≤ (get_or xs 0 d))
    → IsNonDecreasing xs → Rises least xs
Rises-from least [] first up = tt
Rises-from least (x ∷ xs) first up = (
  first x (omega arith),
  Rises-from x xs (λ d some. up 0 1 d (omega arith) (omega arith))
      (λ i j d le within. up (suc i) (suc j) d (omega arith) (omega arith)),
)

pub Rises-from_row : (xs : List ℕ) → IsNonDecreasing xs → Rises 0 xs
Rises-from_row xs up = Rises-from 0 xs (λ d some. omega arith) up

-- nothing lies below the least end
count-none : (least t : ℕ) (xs : List ℕ) → t ≤ least → Rises least xs → count_by (λ e. nat_lt e t) xs ≡ 0
count-none least t [] h up = refl
count-none least t (x ∷ xs) h up =
    let low = up.0 in
    let no : nat_lt x t ≡ false = grind (arith, nat_tests) in
    rw (count_by-cons (λ e. nat_lt e t) x xs, no, count-none x t xs (omega arith) up.1) refl

-- nothing above a number is it
any-none : (least x : ℕ) (ys : List ℕ) → x < least → Rises least ys → list_any (λ e. e == x) ys ≡ false
any-none least x [] h up = refl
any-none least x (y ∷ ys) h up =
    let low = up.0 in
    let no : (y == x) ≡ false = grind (arith, nat_tests) in
    rw (no, any-none y x ys (omega arith) up.1) refl

-- the end is there where it stands behind those below it
abbrev pub stands_at : ℕ → ℕ → List ℕ → ℕ → Bool
stands_at x place ys d = nat_lt place (length ys) && ((get_or ys place d) == x)

pub any-at : (least x : ℕ) (ys : List ℕ) (d : ℕ) → Rises least ys
    → list_any (λ e. e == x) ys ≡ stands_at x (count_by (λ e. nat_lt e x) ys) ys d
any-at least x [] d up = let none : nat_lt 0 0 ≡ false = grind (arith, nat_tests) in rw none refl
any-at least x (y ∷ ys) d up =
    let cases : (b : Bool) → nat_lt y x ≡ b
    → ((y == x) || list_any (λ e. e == x) ys) ≡ stands_at x (count_by (λ e. nat_lt e x) (y ∷ ys)) (y ∷ ys) d = λ b.
    elim b as (λ b. nat_lt y x ≡ b
    → ((y == x) || list_any (λ e. e == x) ys) ≡ stands_at x (count_by (λ e. nat_lt e x) (y ∷ ys)) (y ∷ ys) d) [
      | true ↦ λ h.
          let no : (y == x) ≡ false = grind (arith, nat_tests) in
          let n : count_by (λ e. nat_lt e x) (y ∷ ys) ≡ suc (count_by (λ e. nat_lt e x) ys) =
          rw (count_by-cons (λ e. nat_lt e x) y ys, h) (omega arith) in
          let less : nat_lt (suc (count_by (λ e. nat_lt e x) ys)) (suc (length ys)) ≡ nat_lt (count_by (λ e. nat_lt e x) ys) (length ys) =
          grind (arith, nat_tests) in
          rw (n, no, less) (any-at y x ys d up.1)
      | false ↦ λ h.
          let n : count_by (λ e. nat_lt e x) (y ∷ ys) ≡ 0 = count-none y x (y ∷ ys) (grind (arith, nat_tests)) (omega arith, up.1) in
          let some : nat_lt 0 (suc (length ys)) ≡ true = grind (arith, nat_tests) in
          rw (n, some)
          (let inner : (c : Bool) → (y == x) ≡ c → (c || list_any (λ e. e == x) ys) ≡ c = λ c.
          elim c as (λ c. (y == x) ≡ c → (c || list_any (λ e. e == x) ys) ≡ c) [
            | true ↦ λ e. refl
            | false ↦ λ e. any-none y x ys (grind (arith, nat_tests)) up.1
          ] in
          inner (y == x) refl)
    ] in
    cases (nat_lt y x) refl

-- behind those below a number there are all that are it
pub count-behind : (least t : ℕ) (xs : List ℕ) → Rises least xs
    → count_by (λ e. e == t) (drop (count_by (λ e. nat_lt e t) xs) xs) ≡ count_by (λ e. e == t) xs
count-behind least t [] up = refl
count-behind least t (x ∷ xs) up =
    let cases : (b : Bool) → nat_lt x t ≡ b
    → count_by (λ e. e == t) (drop (count_by (λ e. nat_lt e t) (x ∷ xs)) (x ∷ xs)) ≡ count_by (λ e. e == t) (x ∷ xs) = λ b.
    elim b as (λ b. nat_lt x t ≡ b
    → count_by (λ e. e == t) (drop (count_by (λ e. nat_lt e t) (x ∷ xs)) (x ∷ xs)) ≡ count_by (λ e. e == t) (x ∷ xs)) [
      | true ↦ λ h.
          let no : (x == t) ≡ false = grind (arith, nat_tests) in
          let n : count_by (λ e. nat_lt e t) (x ∷ xs) ≡ suc (count_by (λ e. nat_lt e t) xs) =
          rw (count_by-cons (λ e. nat_lt e t) x xs, h) (omega arith) in
          rw (n, count_by-cons (λ e. e == t) x xs, no) (let rest = count-behind x t xs up.1 in omega arith)
      | false ↦ λ h.
          let n : count_by (λ e. nat_lt e t) (x ∷ xs) ≡ 0 = count-none x t (x ∷ xs) (grind (arith, nat_tests)) (omega arith, up.1) in
          rw n refl
    ] in
    cases (nat_lt x t) refl

-- and none below it
pub behind-least : (least t : ℕ) (xs : List ℕ) → Rises least xs
    → (k : ℕ) (d : ℕ) → k < length (drop (count_by (λ e. nat_lt e t) xs) xs)
    → t ≤ (get_or (drop (count_by (λ e. nat_lt e t) xs) xs) k d)
behind-least least t [] up = λ k d h. absurd (omega arith)
behind-least least t (x ∷ xs) up =
    let cases : (b : Bool) → nat_lt x t ≡ b
    → (k : ℕ) (d : ℕ) → k < length (drop (count_by (λ e. nat_lt e t) (x ∷ xs)) (x ∷ xs))
    → t ≤ (get_or (drop (count_by (λ e. nat_lt e t) (x ∷ xs)) (x ∷ xs)) k d) = λ b.
    elim b as (λ b. nat_lt x t ≡ b
    → (k : ℕ) (d : ℕ) → k < length (drop (count_by (λ e. nat_lt e t) (x ∷ xs)) (x ∷ xs))
    → t ≤ (get_or (drop (count_by (λ e. nat_lt e t) (x ∷ xs)) (x ∷ xs)) k d)) [
      | true ↦ λ h.
          let n : count_by (λ e. nat_lt e t) (x ∷ xs) ≡ suc (count_by (λ e. nat_lt e t) xs) =
          rw (count_by-cons (λ e. nat_lt e t) x xs, h) (omega arith) in
          rw n (behind-least x t xs up.1)
      | false ↦ λ h.
          let n : count_by (λ e. nat_lt e t) (x ∷ xs) ≡ 0 = count-none x t (x ∷ xs) (grind (arith, nat_tests)) (omega arith, up.1) in
          rw n (above t x (x ∷ xs) (grind (arith, nat_tests)) (omega arith, up.1))
    ] in
    cases (nat_lt x t) refl
  where
    above : (t least : ℕ) (xs : List ℕ) → t ≤ least → Rises least xs → (k : ℕ) (d : ℕ) → k < length xs → t ≤ (get_or xs k d)
    above t least [] h up k d b = absurd (omega arith)
    above t least (x ∷ xs) h up zero d b = let low = up.0 in omega arith
    above t least (x ∷ xs) h up (suc k) d b = let low = up.0 in above t x xs (omega arith) up.1 k d (omega arith)

-- where the first end is another number, and none lies below that number, none is it
pub equal-none : (t : ℕ) (xs : List ℕ) (d : ℕ) → IsNonDecreasing xs → All (λ e. t ≤ e) xs
    → ((get_or xs 0 d) ≡ t → ⊥) → 0 < length xs → 0 ≡ count_by (λ e. e == t) xs
equal-none t xs d up least other some =
    sym (count-partition (λ e. e == t) xs 0 (omega arith) (λ k f b. absurd (omega arith))
    (λ k f b c. (
    let low = least 0 d some in
    let rise = up 0 k d (omega arith) c in
    let away = get_or_default xs k f d c in
    let ne : (get_or xs k d) ≡ t → ⊥ = λ z. other (omega arith) in
    rw away (ne_eqb (get_or xs k d) t ne))))

-- where the first end is a number and the second isn't, just one is it
pub equal-one : (t : ℕ) (xs : List ℕ) (d : ℕ) → IsNonDecreasing xs → All (λ e. t ≤ e) xs
    → (get_or xs 0 d) ≡ t → ((get_or xs 1 d) ≡ t → ⊥) → 1 < length xs → 1 ≡ count_by (λ e. e == t) xs
equal-one t xs d up least first other some =
    sym (count-partition (λ e. e == t) xs 1 (omega arith)
    (λ k f b. (
    let k_is : k ≡ 0 = omega arith in
    let here = get_or_default xs 0 f d (omega arith) in
    rw (k_is, here, first) (eq-eqb t t refl)))
    (λ k f b c. (
    let low = least 1 d some in
    let rise = up 1 k d b c in
    let away = get_or_default xs k f d c in
    let ne : (get_or xs k d) ≡ t → ⊥ = λ z. other (omega arith) in
    rw away (ne_eqb (get_or xs k d) t ne))))

-- where no end lies below a number, those up to it are it
pub count-upto : (t : ℕ) (xs : List ℕ) → All (λ e. t ≤ e) xs
    → count_by (λ e. nat_le e t) xs ≡ count_by (λ e. e == t) xs
count-upto t [] least = refl
count-upto t (x ∷ xs) least =
    let low : t ≤ x = All-head (λ (e : ℕ). t ≤ e) x xs least in
    let same : nat_le x t ≡ (x == t) = grind (arith, nat_tests) in
    rw (
      count_by-cons (λ e. nat_le e t) x xs,
      count_by-cons (λ e. e == t) x xs,
      same,
      count-upto t xs (All-tail (λ (e : ℕ). t ≤ e) x xs least),
    ) refl

-- an edge is there where its end stands behind those below it
pub has-at : (es : List Edge) (t x place : ℕ) (r : List ℕ) (d : ℕ) → r ≡ ends_of (row es t)
    → place ≡ count_by (λ e. nat_lt e x) r → stands_at x place r d ≡ has_edge es t x
unfolding ends_of
has-at es t x place r d is at =
    let up : Rises 0 r = Rises-from_row r (subst IsNonDecreasing (sym is) (row-rises es t)) in
    ap (λ p. stands_at x p r d) at ∙ sym (any-at 0 x r d up)
    ∙ ap (list_any (λ e. e == x)) is ∙ list_any-map (λ e. e == x) (λ (e : Edge). e.dst) (row es t)
    ∙ sym (has_edge-row es t x)

-- the ends below a vertex and at it
pub below-run : (ends : List ℕ) (t : ℕ) → count_by (λ e. nat_lt e t) ends ≡ ends_below (Some t) ends
unfolding ends_below
below-run ends t = refl

pub at-run : (ends : List ℕ) (t : ℕ) → count_by (λ e. e == t) ends ≡ ends_at (Some t) ends
unfolding ends_at
at-run ends t = refl

-- what stands in a row from the ends at a vertex on
pub record IsTail (t : ℕ) (r tail : List ℕ) : Type 0 where
  pub up : IsNonDecreasing tail
  pub least : All (λ e. t ≤ e) tail
  pub count : count_by (λ e. e == t) tail ≡ count_by (λ e. e == t) r

pub tail-of : (t from : ℕ) (r : List ℕ) → IsNonDecreasing r → from ≡ count_by (λ e. nat_lt e t) r
    → IsTail t r (take (length r - from) (drop from r))
tail-of t from r up is =
    let whole = take_rest r from in
    let rises = Rises-from_row r up in
    let P : ℕ → Type 0 = λ n. IsTail t r (drop n r) in
    let tail : IsTail t r (drop (count_by (λ e. nat_lt e t) r) r) = record {
      up = IsNonDecreasingBy-drop (λ e. e) (count_by (λ e. nat_lt e t) r) r up;
      least = behind-least 0 t r rises;
      count = count-behind 0 t r rises;
    } in
    subst (IsTail t r) (sym whole) (subst P (sym is) tail)
