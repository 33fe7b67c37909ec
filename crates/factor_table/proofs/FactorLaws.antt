-- The greatest and the least of some factors bound them, and are among them.
use Rattle.std.proofs.Common.{◌≡◌, ℕ, zero, suc, ◌<◌, ◌≤◌, List, [], ◌∷◌, length, get_or, drop, arith}
use Rattle.std.specs.Prelude.{max, min, fold, All, Any}
use Rattle.std.proofs.Math.Nat.{le-max_left, le-max_right, min-le_left, min-le_right}
use Rattle.std.proofs.lemmas.List.Elements.{All-head, All-tail, All-drop}
use Rattle.factor_table.specs.Factors.{greatest_of, least_of}

-- the greatest of a number and some factors isn't below the number
max-first : (fs : List ℕ) (a : ℕ) → a ≤ fold max a fs
max-first [] a = omega arith
max-first (f ∷ fs) a =
    let here = le-max_left a f in
    let rest = max-first fs (max a f) in omega arith

-- nor below any of the factors
max-each : (fs : List ℕ) (a k d : ℕ) → k < length fs → get_or fs k d ≤ fold max a fs
max-each [] a k d h = absurd (omega arith)
max-each (f ∷ fs) a zero d h =
    let here = le-max_right a f in
    let rest = max-first fs (max a f) in omega arith
max-each (f ∷ fs) a (suc k) d h = max-each fs (max a f) k d (omega arith)

-- and it is below a bound of them all
max-bound : (fs : List ℕ) (a b : ℕ) → a ≤ b → All (λ f. f ≤ b) fs → fold max a fs ≤ b
max-bound [] a b h all = h
max-bound (f ∷ fs) a b h all =
    let first : f ≤ b = All-head (λ x. x ≤ b) f fs all in
    max-bound fs (max a f) b (omega arith) (All-tail (λ x. x ≤ b) f fs all)

-- the least of a number and some factors isn't above the number
min-first : (fs : List ℕ) (a : ℕ) → fold min a fs ≤ a
min-first [] a = omega arith
min-first (f ∷ fs) a =
    let here = min-le_left a f in
    let rest = min-first fs (min a f) in omega arith

-- nor above any of the factors
min-each : (fs : List ℕ) (a k d : ℕ) → k < length fs → fold min a fs ≤ get_or fs k d
min-each [] a k d h = absurd (omega arith)
min-each (f ∷ fs) a zero d h =
    let here = min-le_right a f in
    let rest = min-first fs (min a f) in omega arith
min-each (f ∷ fs) a (suc k) d h = min-each fs (min a f) k d (omega arith)

-- no factor is above the greatest
pub greatest-above : (fs : List ℕ) → All (λ f. f ≤ greatest_of fs) fs
greatest-above fs k d h = max-each fs 0 k d h

-- no factor is below the least
pub least-below : (fs : List ℕ) → All (λ f. least_of fs ≤ f) fs
least-below [] k d h = absurd (omega arith)
least-below (f ∷ fs) zero d h = min-first fs f
least-below (f ∷ fs) (suc k) d h = min-each fs f k d (omega arith)

-- the greatest is below a bound of all factors
pub greatest-bound : (fs : List ℕ) (b : ℕ) → All (λ f. f ≤ b) fs → greatest_of fs ≤ b
greatest-bound fs b all = max-bound fs 0 b (omega arith) all

-- the least isn't above the greatest
pub least-greatest : (fs : List ℕ) → least_of fs ≤ greatest_of fs
least-greatest [] = omega arith
least-greatest (f ∷ fs) =
    let low : least_of (f ∷ fs) ≤ f = least-below (f ∷ fs) 0 0 (omega arith) in
    let high : f ≤ greatest_of (f ∷ fs) = greatest-above (f ∷ fs) 0 0 (omega arith) in
    omega arith

-- the least is below a bound of all factors
pub least-bound : (fs : List ℕ) (b : ℕ) → All (λ f. f ≤ b) fs → least_of fs ≤ b
least-bound fs b all =
    let low = least-greatest fs in
    let high = greatest-bound fs b all in omega arith

-- where some factor is above zero, so is the greatest
pub greatest-some : (fs : List ℕ) → Any (λ f. 1 ≤ f) fs → 1 ≤ greatest_of fs
greatest-some fs some =
    let at : get_or fs some.0 some.1 ≤ greatest_of fs = greatest-above fs some.0 some.1 some.2 in
    let is : get_or fs some.0 some.1 ≡ some.1 = some.3 in
    let above : 1 ≤ some.1 = some.4 in
    omega arith

-- a bound of all factors bounds those of the later classes
pub greatest-bound_from : (fs : List ℕ) (first b : ℕ) → All (λ f. f ≤ b) fs → greatest_of (drop first fs) ≤ b
greatest-bound_from fs first b all = greatest-bound (drop first fs) b (All-drop (λ f. f ≤ b) first fs all)

pub least-bound_from : (fs : List ℕ) (first b : ℕ) → All (λ f. f ≤ b) fs → least_of (drop first fs) ≤ b
least-bound_from fs first b all = least-bound (drop first fs) b (All-drop (λ f. f ≤ b) first fs all)

pub ruleset bound_laws = (greatest-bound, least-bound, greatest-some, greatest-bound_from, least-bound_from)
