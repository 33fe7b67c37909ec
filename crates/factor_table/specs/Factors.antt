-- The greatest and the least of some factors.
use Rattle.std.specs.Prelude.{◌≡◌, ◌≤◌, ◌^◌, ℕ, List, [], ◌∷◌, length, max, min, fold, drop, All, Any}

-- the greatest of some factors, or 0 where there are none
abbrev pub greatest_of : List ℕ → ℕ
greatest_of fs = fold max 0 fs

-- the least of some factors, or 0 where there are none
abbrev pub least_of : List ℕ → ℕ
least_of [] = 0
least_of (f ∷ fs) = fold min f fs

-- a table of factors keeps, beside them, the greatest and the least of all of them and of those of
-- the classes other than class 0
pub record IsTable (classes : ℕ) (fs : List ℕ) (greatest least greatest_other least_other : ℕ) : Type 0 where
  pub long : length fs ≡ classes
  pub bound : All (λ f. f ≤ 2 ^ 40) fs
  pub some : Any (λ f. 1 ≤ f) fs
  pub greatest_is : greatest ≡ greatest_of fs
  pub least_is : least ≡ least_of fs
  pub greatest_other_is : greatest_other ≡ greatest_of (drop 1 fs)
  pub least_other_is : least_other ≡ least_of (drop 1 fs)
