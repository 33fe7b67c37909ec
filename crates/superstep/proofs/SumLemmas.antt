-- Sums over the numbers below a bound, and the letters of each walker among some.
use Rattle.std.proofs.Common.{◌≡◌, ℕ, zero, suc, ◌+◌, ◌<◌, ◌≤◌, Bool, true, false, cond, List, [], ◌∷◌, ◌++◌, map, length, refl, ap, sym, ◌∙◌, arith, inl, inr}
use Rattle.std.specs.Prelude.{sum_by, All, nat_lt, ◌==◌, ◌⊎◌}
use Rattle.std.proofs.lemmas.Bool.{cases_lt, lt-ltb}
use Rattle.std.proofs.lemmas.Bool.Decides.{nat_tests}
use Rattle.std.proofs.lemmas.List.{length-map}
use Rattle.std.proofs.lemmas.List.Elements.{All-head, All-tail, All-map}
use Rattle.std.proofs.lemmas.List.Sums.{sum_by-cons}
use Rattle.walk_model.specs.declared.messages.Letter.{Letter}
use Rattle.walk_model.specs.Counts.{sum_below}
use Rattle.walk_model.proofs.PieceLemmas.{sum_below-same}
use Rattle.world_law.specs.Items.{Item, letter_of}
use Rattle.world_law.specs.LettersAhead.{item_of}
use Rattle.superstep.specs.Carried.{of_one}

pub sum_below-add : (n : ℕ) (f g h : ℕ → ℕ) → ((i : ℕ) → i < n → f i + g i ≡ h i) → sum_below n f + sum_below n g ≡ sum_below n h
unfolding sum_below
sum_below-add zero f g h e = refl
sum_below-add (suc n) f g h e = omega (arith, sum_below-add n f g h (λ i low. e i (omega arith)), e n (omega arith))

pub sum_below-mono : (n : ℕ) (f g : ℕ → ℕ) → ((i : ℕ) → i < n → f i ≤ g i) → sum_below n f ≤ sum_below n g
unfolding sum_below
sum_below-mono zero f g e = omega arith
sum_below-mono (suc n) f g e = omega (arith, sum_below-mono n f g (λ i low. e i (omega arith)), e n (omega arith))

pub sum_below-alike : (n : ℕ) (f g : ℕ → ℕ) → ((i : ℕ) → i < n → f i ≡ g i) → sum_below n f ≡ sum_below n g
unfolding sum_below
sum_below-alike zero f g e = refl
sum_below-alike (suc n) f g e = omega (arith, sum_below-alike n f g (λ i low. e i (omega arith)), e n (omega arith))

pub sum_below-zero : (n : ℕ) (f : ℕ → ℕ) → ((i : ℕ) → i < n → f i ≡ 0) → sum_below n f ≡ 0
unfolding sum_below
sum_below-zero zero f e = refl
sum_below-zero (suc n) f e = omega (arith, sum_below-zero n f (λ i low. e i (omega arith)), e n (omega arith))

-- of the numbers below a bound one is j, if it is below
one-below : (n j : ℕ) → sum_below n (λ i. cond (j == i) 1 0) ≡ cond (nat_lt j n) 1 0
unfolding sum_below
one-below zero j = grind (arith, nat_tests)
one-below (suc n) j =
    let before = one-below n j in
    let last : cond (nat_lt j n) 1 0 + cond (j == n) 1 0 ≡ cond (nat_lt j (suc n)) 1 0 = step n j in
    omega arith
  where
    step : (n j : ℕ) → cond (nat_lt j n) 1 0 + cond (j == n) 1 0 ≡ cond (nat_lt j (suc n)) 1 0
    step n j = grind (arith, nat_tests)

one-of : (n j : ℕ) → j < n → sum_below n (λ i. cond (j == i) 1 0) ≡ 1
one-of n j low = one-below n j ∙ ap (λ b. cond b 1 0) (lt-ltb j n low)

-- letters of so many walkers alone are, together, those of each of them
pub length-of_one : (n : ℕ) (ls : List Letter) → All (λ l. l.walker < n) ls → sum_below n (λ i. length (of_one i ls)) ≡ length ls
length-of_one n [] alone = sum_below-zero n (λ i. 0) (λ i low. refl)
length-of_one n (l ∷ ls) alone =
    let rest = length-of_one n ls (All-tail (λ (x : Letter). x.walker < n) l ls alone) in
    let one = one-of n l.walker (All-head (λ (x : Letter). x.walker < n) l ls alone) in
    let parts = sum_below-add n (λ i. cond (l.walker == i) 1 0) (λ i. length (of_one i ls)) (λ i. length (of_one i (l ∷ ls)))
    (λ i low. here (l.walker == i) (of_one i ls)) in
    omega arith
  where
    here : (b : Bool) (xs : List Letter) → cond b 1 0 + length xs ≡ length (cond b (l ∷ xs) xs)
    here true xs = omega arith
    here false xs = omega arith

-- the letters of walker i among those of items are as many as its items
pub length-of_items : (i : ℕ) (ms : List Item) → length (of_one i (map letter_of ms)) ≡ sum_by (item_of i) ms
length-of_items i [] = refl
length-of_items i (m ∷ ms) = here ((letter_of m).walker == i) refl (length-of_items i ms)
  where
    here : (b : Bool) → ((letter_of m).walker == i) ≡ b → length (of_one i (map letter_of ms)) ≡ sum_by (item_of i) ms
        → length (of_one i (map letter_of (m ∷ ms))) ≡ sum_by (item_of i) (m ∷ ms)
    here true e rest =
        let mine : item_of i m ≡ 1 = ap (λ b. cond b 1 0) e in
        let more : length (of_one i (map letter_of (m ∷ ms))) ≡ suc (length (of_one i (map letter_of ms))) =
        ap (λ b. length (cond b (letter_of m ∷ of_one i (map letter_of ms)) (of_one i (map letter_of ms)))) e in
        omega (arith, rest, sum_by-cons (item_of i) m ms)
    here false e rest =
        let mine : item_of i m ≡ 0 = ap (λ b. cond b 1 0) e in
        let more : length (of_one i (map letter_of (m ∷ ms))) ≡ length (of_one i (map letter_of ms)) =
        ap (λ b. length (cond b (letter_of m ∷ of_one i (map letter_of ms)) (of_one i (map letter_of ms)))) e in
        omega (arith, rest, sum_by-cons (item_of i) m ms)

-- items of so many walkers alone are, together, those of each of them
pub items-below : (n : ℕ) (ms : List Item) → All (λ m. (letter_of m).walker < n) ms → sum_below n (λ i. sum_by (item_of i) ms) ≡ length ms
items-below n ms known =
    sum_below-same n (λ i. sum_by (item_of i) ms) (λ i. length (of_one i (map letter_of ms))) (λ i. sym (length-of_items i ms))
    ∙ length-of_one n (map letter_of ms) (All-map (λ (l : Letter). l.walker < n) letter_of ms known)
    ∙ length-map ms letter_of

-- what is fewer by each is fewer by all
pub sum_below-fewer : (n : ℕ) (f g h : ℕ → ℕ) → ((i : ℕ) → f i + g i ≤ h i) → sum_below n f + sum_below n g ≤ sum_below n h
unfolding sum_below
sum_below-fewer zero f g h e = omega arith
sum_below-fewer (suc n) f g h e = omega (arith, sum_below-fewer n f g h e, e n)

-- the weight of what a list is led to
pub sum_by-map : {X Y : Type 0} (h : Y → ℕ) (f : X → Y) (xs : List X) → sum_by h (map f xs) ≡ sum_by (λ x. h (f x)) xs
sum_by-map h f [] = refl
sum_by-map h f (x ∷ xs) = omega (arith, sum_by-map h f xs, sum_by-cons h (f x) (map f xs), sum_by-cons (λ y. h (f y)) x xs)

pub sum_by-nothing : {X : Type 0} (xs : List X) → sum_by (λ x. 0) xs ≡ 0
sum_by-nothing [] = refl
sum_by-nothing (x ∷ xs) = omega (arith, sum_by-nothing xs, sum_by-cons (λ y. 0) x xs)

pub sum_by-alike : {X : Type 0} (f g : X → ℕ) (xs : List X) → ((x : X) → f x ≡ g x) → sum_by f xs ≡ sum_by g xs
sum_by-alike f g [] e = refl
sum_by-alike f g (x ∷ xs) e = omega (arith, sum_by-alike f g xs e, sum_by-cons f x xs, sum_by-cons g x xs, e x)

-- where a sum isn't nothing, one of its parts isn't
pub record Found {X : Type 0} (f : X → ℕ) (xs : List X) : Type 0 where
  pub one : X
  pub front : List X
  pub back : List X
  pub whole : xs ≡ front ++ one ∷ back
  pub some : 1 ≤ f one

pub find-one : {X : Type 0} (f : X → ℕ) (xs : List X) → 1 ≤ sum_by f xs → Found f xs
find-one f [] e = absurd (omega arith)
find-one {X} f (x ∷ xs) e = by (cases_lt 0 (f x)) (λ l. find-one f xs (let parts = sum_by-cons f x xs in omega arith))
  where
    by : (0 < f x) ⊎ (f x ≤ 0) → (f x ≤ 0 → Found f xs) → Found f (x ∷ xs)
    by (inl l) later = record { one = x; front = []; back = xs; whole = refl; some = l }
    by (inr l) later =
        let there = later l in
        record { one = there.one; front = x ∷ there.front; back = there.back; whole = ap (λ ys. x ∷ ys) there.whole; some = there.some }
