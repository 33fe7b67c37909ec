-- An index over rising names by their leading bits.
use Rattle.std.specs.Prelude.{ℕ, ◌-◌, ◌/◌, ◌^◌, ◌<◌, ◌≤◌, List, length, slice_index}

-- the bucket of a name
abbrev pub bucket_of : ℕ → ℕ → ℕ → ℕ
bucket_of first shift id = (id - first) / 2 ^ shift

-- the numbers of an index tell how many names stand before each bucket
pub record IsIndex (first shift : ℕ) (names starts : List ℕ) : Type 0 where
  pub before : (b k : ℕ) → b < length starts → k < slice_index starts b → bucket_of first shift (slice_index names k) < b
  pub behind : (b k : ℕ) → b < length starts → slice_index starts b ≤ k → k < length names
      → b ≤ bucket_of first shift (slice_index names k)
  pub within : (b : ℕ) → b < length starts → slice_index starts b ≤ length names
