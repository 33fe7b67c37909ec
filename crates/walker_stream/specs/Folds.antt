-- How words fold to numbers below a bound.
use Rattle.std.specs.Prelude.{◌≡◌, ℕ, ◌*◌, ◌/◌, ◌^◌, ◌<◌, ◌≤◌, Bool, false, nat_lt, ◌==◌, Option, Some, None}
use Rattle.walk_model.specs.Counts.{count_below}
use Rattle.walk_model.specs.Words.{fold_word}

-- whether a word folds to a number that passes a test
abbrev pub passes : (ℕ → Bool) → Option ℕ → Bool
passes test None = false
passes test (Some value) = test value

-- of all words of 64 bits each number below the bound is the fold of the same count
abbrev pub HasFairFolds : ℕ → Type 0
HasFairFolds below = (value : ℕ) → value < below
    → count_below (2 ^ 64) (λ w. passes (λ v. v == value) (fold_word below w)) ≡ 2 ^ 64 / below

-- of all words of 64 bits as many fold below a lesser bound as its share of the bound
abbrev pub HasFairCoins : ℕ → Type 0
HasFairCoins below = (top : ℕ) → top ≤ below
    → count_below (2 ^ 64) (λ w. passes (λ v. nat_lt v top) (fold_word below w)) ≡ top * (2 ^ 64 / below)
