-- Walks in one list of entries, by the places where they begin.
use Rattle.std.specs.Prelude.{ℕ, ◌≡◌, ◌+◌, ◌<◌, List, [], ◌∷◌, length, slice_range, slice_index_or, All}
use Rattle.std.specs.List.Sorted.{IsStrictlyIncreasing}

-- the walks of a list of entries: each from its beginning to the next one, and the last to the end
unfoldable pub walks_at : List ℕ → List ℕ → List (List ℕ)
walks_at entries [] = []
walks_at entries (begin ∷ later) =
    slice_range entries begin (slice_index_or later 0 (length entries)) ∷ walks_at entries later

-- places at which walks begin in so many entries: the first is 0, they rise, and each has an entry;
-- without a beginning there is no entry
pub record AreBeginnings (begins : List ℕ) (count : ℕ) : Type 0 where
  pub first : slice_index_or begins 0 count ≡ 0
  pub rising : IsStrictlyIncreasing begins
  pub below : All (λ b. b < count) begins

-- where walks of some lengths begin, one after another from a place on
unfoldable pub begins_from : ℕ → List ℕ → List ℕ
begins_from place [] = []
begins_from place (n ∷ lengths) = place ∷ begins_from (place + n) lengths
