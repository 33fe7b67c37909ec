-- How often walks go from one part to another.
use Rattle.std.specs.Prelude.{ℕ, ◌+◌, ◌-◌, ◌==◌, if◌then◌else◌, List, [], ◌∷◌, length, sum_by}

-- how often the owner changes along entries that follow one of this owner
unfoldable pub changes_from : (ℕ → ℕ) → ℕ → List ℕ → ℕ
changes_from owner before [] = 0
changes_from owner before (x ∷ xs) = (if before == owner x then 0 else 1) + changes_from owner (owner x) xs

-- how often neighbouring entries of a walk have other owners
abbrev pub changes : (ℕ → ℕ) → List ℕ → ℕ
changes owner [] = 0
changes owner (x ∷ xs) = changes_from owner (owner x) xs

-- the same of all walks, and how many steps they have
abbrev pub all_changes : (ℕ → ℕ) → List (List ℕ) → ℕ
all_changes owner walks = sum_by (changes owner) walks

abbrev pub steps_in : List (List ℕ) → ℕ
steps_in walks = sum_by (λ walk. length walk - 1) walks
