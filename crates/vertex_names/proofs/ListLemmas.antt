-- Counts and tests over lists.
use Rattle.std.proofs.Common.{◌≡◌, ℕ, zero, suc, ◌+◌, ◌<◌, ◌≤◌, Bool, true, false, cond, List, [], ◌∷◌, ◌||◌, length, get_or, refl, arith, sym}
use Rattle.std.specs.Prelude.{insert, count_by}
use Rattle.std.specs.List.{list_any}
use Rattle.std.specs.List.Sorted.{IsPartitionPoint}
use Rattle.std.proofs.lemmas.List.Sums.{sum_by-cons}

pub count_by-cons : {X : Type 0} (p : X → Bool) (x : X) (xs : List X) → count_by p (x ∷ xs) ≡ cond (p x) 1 0 + count_by p xs
count_by-cons p x xs = sum_by-cons (λ y. cond (p y) 1 0) x xs

-- either of two and a third, in another order
or_exchange : (a b c : Bool) → (a || (b || c)) ≡ (b || (a || c))
or_exchange true true c = refl
or_exchange true false c = refl
or_exchange false b c = refl

pub list_any-insert : {X : Type 0} (p : X → Bool) (xs : List X) (i : ℕ) (x : X) → list_any p (insert xs i x) ≡ (p x || list_any p xs)
list_any-insert p xs zero x = refl
list_any-insert p [] (suc i) x = refl
list_any-insert p (y ∷ ys) (suc i) x =
    rw (list_any-insert p ys i x) (or_exchange (p y) (p x) (list_any p ys))

-- a place below which all pass and from which none does counts those that pass
pub count-partition : {X : Type 0} (p : X → Bool) (xs : List X) (i : ℕ) → i ≤ length xs
    → ((k : ℕ) (d : X) → k < i → p (get_or xs k d) ≡ true)
    → ((k : ℕ) (d : X) → i ≤ k → k < length xs → p (get_or xs k d) ≡ false) → count_by p xs ≡ i
count-partition p [] i h low high = omega arith
count-partition p (x ∷ xs) zero h low high =
    let no : p x ≡ false = high 0 x (omega arith) (omega arith) in
    rw (count_by-cons p x xs, no)
    (let rest = count-partition p xs 0 (omega arith) (λ k d b. absurd (omega arith)) (λ k d b c. high (suc k) d (omega arith) (omega arith)) in
    omega arith)
count-partition p (x ∷ xs) (suc i) h low high =
    let yes : p x ≡ true = low 0 x (omega arith) in
    rw (count_by-cons p x xs, yes)
    (let rest = count-partition p xs i (omega arith) (λ k d b. low (suc k) d (omega arith)) (λ k d b c. high (suc k) d (omega arith) (omega arith)) in
    omega arith)

-- what a search for the first element that fails says, as a count
pub count-from_point : {X : Type 0} (p : X → Bool) (xs : List X) (i : ℕ) → i ≤ length xs
    → IsPartitionPoint (λ y. p y ≡ true) (λ y. p y ≡ false) xs i → i ≡ count_by p xs
count-from_point p xs i h point =
    sym (count-partition p xs i h (λ k d b. point.0 k d (omega arith) b) (λ k d b c. point.1 k d b c))
