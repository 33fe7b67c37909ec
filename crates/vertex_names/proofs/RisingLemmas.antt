-- Rising lists of numbers, which their numbers settle.
use Rattle.std.proofs.Common.{◌≡◌, ℕ, zero, suc, ◌+◌, ◌*◌, ◌<◌, ◌≤◌, Bool, true, false, cond, List, [], ◌∷◌, ◌||◌, length, refl, arith, ap, sym, ◌∙◌, subst, eqb}
use Rattle.std.specs.Prelude.{insert, nat_lt, ◌==◌, if◌then◌else◌, slice_index}
use Rattle.std.specs.List.{dedup_from, dedup}
use Rattle.std.specs.List.Sorted.{IsStrictlyIncreasing, IsNonDecreasingBy}
use Rattle.std.proofs.lemmas.Bool.{false≢true}
use Rattle.std.proofs.lemmas.Bool.Decides.{nat_tests}
use Rattle.std.proofs.lemmas.List.Edits.{length-insert}
use Rattle.std.proofs.lemmas.List.Sums.{count_by-le-length}
use Rattle.walk_model.specs.declared.graph.Edge.{Edge}
use Rattle.walk_model.specs.Graph.{with_number, vertices_of}
use Rattle.vertex_names.specs.Ranks.{is_name, rank_in}
use Rattle.vertex_names.specs.Marks.{is_end}
use Rattle.vertex_names.proofs.ListLemmas.{count_by-cons, list_any-insert}

-- numbers rise from a number on
abbrev pub Rises : ℕ → List ℕ → Type 0
Rises least [] = Unit {0}
Rises least (x ∷ xs) = (least ≤ x) × Rises (suc x) xs

pub Rises-lower : (low least : ℕ) (xs : List ℕ) → low ≤ least → Rises least xs → Rises low xs
Rises-lower low least [] h up = tt
Rises-lower low least (x ∷ xs) h up = let first = up.0 in (omega arith, up.1)

Rises-from : (least : ℕ) (xs : List ℕ) → (0 < length xs → least ≤ slice_index xs 0) → IsStrictlyIncreasing xs → Rises least xs
Rises-from least [] first up = tt
Rises-from least (x ∷ xs) first up = (
  first (omega arith),
  Rises-from (suc x) xs (λ some. let next = up 0 (omega arith) in omega arith)
      (λ k h. let e : suc k + 1 ≡ suc (k + 1) = omega arith in rw e at (up (suc k) (omega arith))),
)

pub Rises-from_increasing : (xs : List ℕ) → IsStrictlyIncreasing xs → Rises 0 xs
Rises-from_increasing xs up = Rises-from 0 xs (λ some. omega arith) up

pub increasing-from_Rises : (least : ℕ) (xs : List ℕ) → Rises least xs → IsStrictlyIncreasing xs
increasing-from_Rises least [] up k h = absurd (omega arith)
increasing-from_Rises least (x ∷ []) up k h = absurd (omega arith)
increasing-from_Rises least (x ∷ y ∷ ys) up zero h = let next = up.1.0 in omega arith
increasing-from_Rises least (x ∷ y ∷ ys) up (suc k) h =
    let e : suc k + 1 ≡ suc (k + 1) = omega arith in
    rw e (increasing-from_Rises (suc x) (y ∷ ys) up.1 k (omega arith))

-- a number below those of a list isn't among them
pub is_name-below : (least x : ℕ) (xs : List ℕ) → x < least → Rises least xs → is_name xs x ≡ false
is_name-below least x [] h up = refl
is_name-below least x (y ∷ ys) h up =
    let first = up.0 in
    let no : (y == x) ≡ false = grind (arith, nat_tests) in
    rw (no, is_name-below (suc y) x ys (omega arith) up.1) refl

-- and none of the list is below it
pub rank_in-below : (least x : ℕ) (xs : List ℕ) → x ≤ least → Rises least xs → rank_in xs x ≡ 0
rank_in-below least x [] h up = refl
rank_in-below least x (y ∷ ys) h up =
    let first = up.0 in
    let no : nat_lt y x ≡ false = grind (arith, nat_tests) in
    rw (count_by-cons (λ z. nat_lt z x) y ys, no, rank_in-below (suc y) x ys (omega arith) up.1) refl

-- the first number of a list is one of the list
head_is_name : (x : ℕ) (xs : List ℕ) → is_name (x ∷ xs) x ≡ true
head_is_name x xs = let yes : (x == x) ≡ true = grind (arith, nat_tests) in rw yes refl

-- with another first number, it is one of the rest
not_first : (x y : ℕ) (xs ys : List ℕ) → Rises (suc x) xs → y < x → is_name (x ∷ xs) y ≡ is_name (y ∷ ys) y → ⊥
not_first x y xs ys up h same =
    let none : is_name (x ∷ xs) y ≡ false = is_name-below x y (x ∷ xs) h (omega arith, up) in
    false≢true (sym none ∙ same ∙ head_is_name y ys)

-- two rising lists of the same numbers are one
pub same_rising : (least : ℕ) (xs ys : List ℕ) → Rises least xs → Rises least ys
    → ((x : ℕ) → is_name xs x ≡ is_name ys x) → xs ≡ ys
same_rising least [] [] up1 up2 same = refl
same_rising least [] (y ∷ ys) up1 up2 same = absurd (false≢true (same y ∙ head_is_name y ys))
same_rising least (x ∷ xs) [] up1 up2 same = absurd (false≢true (sym (same x) ∙ head_is_name x xs))
same_rising least (x ∷ xs) (y ∷ ys) up1 up2 same =
    let no_less : y < x → ⊥ = λ h. not_first x y xs ys up1.1 h (same y) in
    let no_more : x < y → ⊥ = λ h. not_first y x ys xs up2.1 h (sym (same x)) in
    let first : x ≡ y = omega arith in
    let up2' : Rises (suc x) ys = Rises-lower (suc x) (suc y) ys (omega arith) up2.1 in
    let rest : (z : ℕ) → is_name xs z ≡ is_name ys z = λ z.
    (let cases : (b : Bool) → (x == z) ≡ b → is_name xs z ≡ is_name ys z = λ b.
    elim b as (λ b. (x == z) ≡ b → is_name xs z ≡ is_name ys z) [
      | true ↦ λ h.
          let z_is : x ≡ z = grind (arith, nat_tests) in
          is_name-below (suc x) z xs (omega arith) up1.1 ∙ sym (is_name-below (suc x) z ys (omega arith) up2')
      | false ↦ λ h.
          let h' : (y == z) ≡ false = grind (arith, nat_tests) in
          rw (h, h') at (same z)
    ] in
    cases (x == z) refl) in
    ap (λ l. x ∷ l) (same_rising (suc x) xs ys up1.1 up2' rest) ∙ ap (λ n. n ∷ ys) first

-- one more number in its place
Rises-insert : (least x : ℕ) (xs : List ℕ) → least ≤ x → is_name xs x ≡ false → Rises least xs → Rises least (insert xs (rank_in xs x) x)
Rises-insert least x [] h new up = (h, tt)
Rises-insert least x (y ∷ ys) h new up =
    let first = up.0 in
    let cases : (b : Bool) → nat_lt y x ≡ b → Rises least (insert (y ∷ ys) (rank_in (y ∷ ys) x) x) = λ b.
    elim b as (λ b. nat_lt y x ≡ b → Rises least (insert (y ∷ ys) (rank_in (y ∷ ys) x) x)) [
      | true ↦ λ b.
          let n : rank_in (y ∷ ys) x ≡ suc (rank_in ys x) = rw (count_by-cons (λ z. nat_lt z x) y ys, b) (omega arith) in
          let other : (y == x) ≡ false = grind (arith, nat_tests) in
          let later : is_name ys x ≡ false = rw other at new in
          rw n (omega arith, Rises-insert (suc y) x ys (grind (arith, nat_tests)) later up.1)
      | false ↦ λ b.
          let above : x ≤ y = grind (arith, nat_tests) in
          let ne : x ≡ y → ⊥ = λ e. false≢true (sym new ∙ ap (is_name (y ∷ ys)) e ∙ head_is_name y ys) in
          let n : rank_in (y ∷ ys) x ≡ 0 = rank_in-below y x (y ∷ ys) above (omega arith, up.1) in
          rw n (h, (omega arith, up.1))
    ] in
    cases (nat_lt y x) refl

Rises-with_number : (x : ℕ) (xs : List ℕ) → Rises 0 xs → Rises 0 (with_number x xs)
unfolding with_number
Rises-with_number x xs up =
    let cases : (b : Bool) → is_name xs x ≡ b → Rises 0 (if b then xs else insert xs (rank_in xs x) x) = λ b.
    elim b as (λ b. is_name xs x ≡ b → Rises 0 (if b then xs else insert xs (rank_in xs x) x)) [
      | true ↦ λ h. up
      | false ↦ λ h. Rises-insert 0 x xs (omega arith) h up
    ] in
    cases (is_name xs x) refl

-- a test that holds of x holds of what equals x
is_name-same : (x z : ℕ) (xs : List ℕ) → (x == z) ≡ true → is_name xs x ≡ is_name xs z
is_name-same x z xs h =
    let e : x ≡ z = grind (arith, nat_tests) in ap (is_name xs) e

is_name-with_number : (x : ℕ) (xs : List ℕ) (z : ℕ) → is_name (with_number x xs) z ≡ ((x == z) || is_name xs z)
unfolding with_number
is_name-with_number x xs z =
    let cases : (b : Bool) → is_name xs x ≡ b
    → is_name (if b then xs else insert xs (rank_in xs x) x) z ≡ ((x == z) || is_name xs z) = λ b.
    elim b as (λ b. is_name xs x ≡ b
    → is_name (if b then xs else insert xs (rank_in xs x) x) z ≡ ((x == z) || is_name xs z)) [
      | true ↦ λ h.
          let inner : (c : Bool) → (x == z) ≡ c → is_name xs z ≡ (c || is_name xs z) = λ c.
          elim c as (λ c. (x == z) ≡ c → is_name xs z ≡ (c || is_name xs z)) [
            | true ↦ λ e. sym (is_name-same x z xs e) ∙ h
            | false ↦ λ e. refl
          ] in
          inner (x == z) refl
      | false ↦ λ h. list_any-insert (λ y. y == z) xs (rank_in xs x) x
    ] in
    cases (is_name xs x) refl

-- the vertices of edges rise
pub Rises-vertices : (es : List Edge) → Rises 0 (vertices_of es)
unfolding vertices_of
Rises-vertices [] = tt
Rises-vertices (e ∷ es) =
    Rises-with_number e.src (with_number e.dst (vertices_of es)) (Rises-with_number e.dst (vertices_of es) (Rises-vertices es))

or_assoc : (a b c : Bool) → (a || (b || c)) ≡ ((a || b) || c)
or_assoc true b c = refl
or_assoc false b c = refl

-- they are the ends of the edges
pub is_name-vertices : (es : List Edge) (x : ℕ) → is_name (vertices_of es) x ≡ is_end es x
unfolding vertices_of
is_name-vertices [] x = refl
is_name-vertices (e ∷ es) x =
    is_name-with_number e.src (with_number e.dst (vertices_of es)) x
    ∙ ap (λ b. (e.src == x) || b) (is_name-with_number e.dst (vertices_of es) x)
    ∙ or_assoc (e.src == x) (e.dst == x) (is_name (vertices_of es) x)
    ∙ ap (λ b. ((e.src == x) || (e.dst == x)) || b) (is_name-vertices es x)

-- rising numbers that are the ends of the edges are the vertices
pub vertices-is : (es : List Edge) (xs : List ℕ) → IsStrictlyIncreasing xs → ((x : ℕ) → is_name xs x ≡ is_end es x) → xs ≡ vertices_of es
vertices-is es xs up same =
    same_rising 0 xs (vertices_of es) (Rises-from_increasing xs up) (Rises-vertices es) (λ x. same x ∙ sym (is_name-vertices es x))

-- an edge has at most two ends of its own
length-with_number : (x : ℕ) (xs : List ℕ) → length (with_number x xs) ≤ length xs + 1
unfolding with_number
length-with_number x xs =
    elim (is_name xs x) as (λ b. length (if b then xs else insert xs (rank_in xs x) x) ≤ length xs + 1) [
      | true ↦ omega arith
      | false ↦
          let within = count_by-le-length (λ y. nat_lt y x) xs in
          let more = length-insert xs (rank_in xs x) x within in
          omega arith
    ]

pub length-vertices : (es : List Edge) → length (vertices_of es) ≤ 2 * length es
unfolding vertices_of
length-vertices [] = omega arith
length-vertices (e ∷ es) =
    let later = length-vertices es in
    let one = length-with_number e.dst (vertices_of es) in
    let two = length-with_number e.src (with_number e.dst (vertices_of es)) in
    omega arith

-- numbers that don't fall, from a number on
abbrev pub Climbs : ℕ → List ℕ → Type 0
Climbs least [] = Unit {0}
Climbs least (x ∷ xs) = (least ≤ x) × Climbs x xs

Climbs-from : (least : ℕ) (xs : List ℕ) → (0 < length xs → least ≤ slice_index xs 0) → IsNonDecreasingBy (λ x. x) xs → Climbs least xs
Climbs-from least [] first up = tt
Climbs-from least (x ∷ xs) first up = (
  first (omega arith),
  Climbs-from x xs (λ some. up 0 1 0 (omega arith) (omega arith))
      (λ i j d le within. up (suc i) (suc j) d (omega arith) (omega arith)),
)

Rises-dedup_from : (k : ℕ) (xs : List ℕ) → Climbs k xs → Rises k (dedup_from eqb k xs)
Rises-dedup_from k [] up = (omega arith, tt)
Rises-dedup_from k (x ∷ xs) up =
    let first = up.0 in
    let cases : (b : Bool) → eqb x k ≡ b → Rises k (cond b (dedup_from eqb k xs) (k ∷ dedup_from eqb x xs)) = λ b.
    elim b as (λ b. eqb x k ≡ b → Rises k (cond b (dedup_from eqb k xs) (k ∷ dedup_from eqb x xs))) [
      | true ↦ λ h.
          let e : x ≡ k = grind (arith, nat_tests) in
          Rises-dedup_from k xs (subst (λ n. Climbs n xs) e up.1)
      | false ↦ λ h.
          (omega arith, Rises-lower (suc k) x (dedup_from eqb x xs) (grind (arith, nat_tests)) (Rises-dedup_from x xs up.1))
    ] in
    cases (eqb x k) refl

is_name-dedup_from : (k : ℕ) (xs : List ℕ) (z : ℕ) → is_name (dedup_from eqb k xs) z ≡ ((k == z) || is_name xs z)
is_name-dedup_from k [] z = refl
is_name-dedup_from k (x ∷ xs) z =
    let cases : (b : Bool) → eqb x k ≡ b
    → is_name (cond b (dedup_from eqb k xs) (k ∷ dedup_from eqb x xs)) z ≡ ((k == z) || ((x == z) || is_name xs z)) = λ b.
    elim b as (λ b. eqb x k ≡ b
    → is_name (cond b (dedup_from eqb k xs) (k ∷ dedup_from eqb x xs)) z ≡ ((k == z) || ((x == z) || is_name xs z))) [
      | true ↦ λ h.
          let e : x ≡ k = grind (arith, nat_tests) in
          is_name-dedup_from k xs z ∙ rw e (twice (k == z) (is_name xs z))
      | false ↦ λ h. ap (λ b. (k == z) || b) (is_name-dedup_from x xs z)
    ] in
    cases (eqb x k) refl
  where
    twice : (a b : Bool) → (a || b) ≡ (a || (a || b))
    twice true b = refl
    twice false b = refl

-- a list in order without repeats rises
pub increasing-dedup : (xs : List ℕ) → IsNonDecreasingBy (λ x. x) xs → IsStrictlyIncreasing (dedup eqb xs)
increasing-dedup [] up k h = absurd (omega arith)
increasing-dedup (x ∷ xs) up k h =
    let climbs = Climbs-from x (x ∷ xs) (λ some. omega arith) up in
    increasing-from_Rises x (dedup_from eqb x xs) (Rises-dedup_from x xs climbs.1) k h

-- and has the same numbers
pub is_name-dedup : (xs : List ℕ) (z : ℕ) → is_name (dedup eqb xs) z ≡ is_name xs z
is_name-dedup [] z = refl
is_name-dedup (x ∷ xs) z = is_name-dedup_from x xs z
