-- Scans of a row by weight times factor.
use Rattle.std.specs.Prelude.{◌≡◌, ℕ, ◌<◌, ◌==◌, if◌then◌else◌, List, length, sum, slice_index, Option, Some, None}
use Rattle.walk_model.specs.Lists.{first_above, products}

-- a closure answers the factor of each edge of a row
pub record AnswersAre (answers : ℕ → ℕ → Type 0) (count : ℕ) (factors : List ℕ) : Type 0 where
  pub long : length factors ≡ count
  pub each : (edge factor : ℕ) → edge < count → answers edge factor → factor ≡ slice_index factors edge

-- the sum of weight times factor
abbrev pub total_of : List ℕ → List ℕ → ℕ
total_of weights factors = sum (products weights factors)

-- the first edge whose running sum of weight times factor exceeds z, or none where nothing has any
unfoldable pub scan_of : List ℕ → List ℕ → ℕ → Option ℕ
scan_of weights factors z =
    if total_of weights factors == 0 then None else Some (first_above z (products weights factors))
