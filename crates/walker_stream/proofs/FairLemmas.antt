-- How many words fold to a number.
use Rattle.std.proofs.Common.{◌≡◌, ℕ, zero, suc, ◌+◌, ◌*◌, ◌/◌, ◌%◌, ◌^◌, Bool, true, false, not, ◌&&◌, cond, Option, Some, None, refl, arith, ◌∙◌}
use Rattle.std.specs.Prelude.{nat_lt, nat_le, ◌==◌, if◌then◌else◌}
use Rattle.std.proofs.lemmas.Bool.Decides.{nat_tests}
use Rattle.walk_model.specs.Counts.{count_below}
use Rattle.walk_model.specs.Words.{fold_word}
use Rattle.walk_model.proofs.CountLemmas.{count_below-same, count_below-none, count-folds, folds_to}
use Rattle.walker_stream.specs.Folds.{passes, HasFairFolds, HasFairCoins}

-- a choice passes a test where its number is there and passes
passes-choice : (test : ℕ → Bool) (past : Bool) (v : ℕ)
    → passes test (if past then None else Some v) ≡ not past && test v
passes-choice test true v = refl
passes-choice test false v = refl

-- a word's fold passes a test where the word isn't past the last whole round and its rest passes it
passes-fold : (below w : ℕ) (test : ℕ → Bool)
    → passes test (fold_word below w) ≡ not (nat_le (below * (2 ^ 64 / below)) w) && test (w % below)
unfolding fold_word
passes-fold below w test = passes-choice test (nat_le (below * (2 ^ 64 / below)) w) (w % below)

-- each number below the bound is the fold of as many words as there are whole rounds
pub fair-folds : (below : ℕ) → HasFairFolds below
fair-folds below value h =
    count_below-same (2 ^ 64) _ (folds_to (2 ^ 64) below value) (λ w l. passes-fold below w (λ v. v == value))
    ∙ count-folds (2 ^ 64) below value (omega (arith, h)) h

-- tests of which one passes where one of two others does, and never both
count_below-either : (n : ℕ) (p q r : ℕ → Bool) → ((u : ℕ) → cond (r u) 1 0 ≡ cond (p u) 1 0 + cond (q u) 1 0)
    → count_below n r ≡ count_below n p + count_below n q
unfolding count_below
count_below-either zero p q r h = refl
count_below-either (suc n) p q r h = omega (arith, count_below-either n p q r h, h n)

-- a number below one more is below or the number itself
lt-more : (v top : ℕ) → cond (nat_lt v (suc top)) 1 0 ≡ cond (nat_lt v top) 1 0 + cond (v == top) 1 0
lt-more v top = grind (arith, nat_tests)

passes-more : (top : ℕ) (fold : Option ℕ)
    → cond (passes (λ v. nat_lt v (suc top)) fold) 1 0
    ≡ cond (passes (λ v. nat_lt v top) fold) 1 0 + cond (passes (λ v. v == top) fold) 1 0
passes-more top None = refl
passes-more top (Some v) = lt-more v top

-- none is below zero
lt-none : (v : ℕ) → nat_lt v 0 ≡ false
lt-none v = grind (arith, nat_tests)

passes-none : (fold : Option ℕ) → passes (λ v. nat_lt v 0) fold ≡ false
passes-none None = refl
passes-none (Some v) = lt-none v

-- the folds below a lesser bound
pub fair-coins : (below : ℕ) → HasFairCoins below
fair-coins below zero h = count_below-none (2 ^ 64) _ (λ w l. passes-none (fold_word below w)) ∙ omega arith
fair-coins below (suc top) h =
    let step = count_below-either (2 ^ 64) _ _ _ (λ w. passes-more top (fold_word below w)) in
    let before = fair-coins below top (omega (arith, h)) in
    let more = fair-folds below top (omega (arith, h)) in
    omega (arith, step, before, more)

pub ruleset fair_lemmas = (fair-folds, fair-coins)
