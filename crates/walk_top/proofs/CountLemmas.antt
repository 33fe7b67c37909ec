-- Counts along walks, as far as a loop has come.
use Rattle.std.proofs.Common.{◌≡◌, ◌≤◌, ◌<◌, ◌+◌, ℕ, Bool, true, false, List, length, get_or, drop, refl, ap, sym, ◌∙◌}
use Rattle.std.specs.Prelude.{◌==◌, if◌then◌else◌, not}
use Rattle.std.specs.Int.{from_bool}
use Rattle.std.proofs.lemmas.List.{at_drop_more, drop_all}
use Rattle.walk_top.specs.Changes.{changes_from}

-- one more entry
pub changes-more : (owner : ℕ → ℕ) (before here : ℕ) (xs : List ℕ) (i d : ℕ) → i < length xs → here ≡ owner (get_or xs i d)
    → changes_from owner before (drop i xs) ≡ (if before == here then 0 else 1) + changes_from owner here (drop (i + 1) xs)
unfolding changes_from
changes-more owner before here xs i d low is =
    at_drop_more (changes_from owner before) xs i d low
    ∙ ap (λ n. (if before == n then 0 else 1) + changes_from owner n (drop (i + 1) xs)) (sym is)

-- no entry is left
pub changes-done : (owner : ℕ → ℕ) (before : ℕ) (xs : List ℕ) (i : ℕ) → length xs ≤ i → changes_from owner before (drop i xs) ≡ 0
unfolding changes_from
changes-done owner before xs i high = ap (changes_from owner before) (drop_all i xs high)

-- a test counted as a number
pub counted-other : (same : Bool) → from_bool (not same) ≡ (if same then 0 else 1)
counted-other true = refl
counted-other false = refl
