-- What is true of names as they are kept.
use Rattle.std.specs.Prelude.{ℕ, ◌≡◌, ◌+◌, ◌^◌, ◌<◌, ◌≤◌, true, false, length, slice_index, All}
use Rattle.std.specs.List.Sorted.{IsStrictlyIncreasing}
use Rattle.vertex_names.specs.declared.names.Names.TheInside.{Inside}
use Rattle.vertex_names.specs.NameIndex.{bucket_of, IsIndex}

-- names rise; they follow each other without a gap, or an index holds each of them
pub record AreKept (a : Inside) : Type 0 where
  pub rising : IsStrictlyIncreasing a.ids.items
  pub few : length a.ids.items < 2 ^ 32
  pub least : All (λ y. a.first ≤ y) a.ids.items
  pub shift : a.shift < 32
  pub close : a.dense ≡ true → (k : ℕ) → k < length a.ids.items → slice_index a.ids.items k ≡ a.first + k
  pub index : IsIndex a.first a.shift a.ids.items a.starts.items
  pub whole : (k : ℕ) → a.dense ≡ false → k < length a.ids.items
      → bucket_of a.first a.shift (slice_index a.ids.items k) + 1 < length a.starts.items
