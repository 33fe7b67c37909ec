-- How items are packed: for each addressee its items in their order, cut after each so many.
use Rattle.std.specs.Prelude.{ℕ, ◌≡◌, ◌+◌, ◌≤◌, ◌<◌, ◌==◌, List, [], ◌∷◌, ◌++◌, map, length, slice_index_or, filter, All}
use Rattle.std.specs.List.{flat_map}
use Rattle.std.specs.List.Sorted.{IsNonDecreasingBy, IsPermutation}
use Rattle.walker_mail.specs.declared.parcels.Addressed.{Addressed}
use Rattle.walker_mail.specs.declared.parcels.Parcel.{Parcel}
use Rattle.walker_mail.specs.Posts.{all_items, sent_from}

-- the items of one addressee, in their order
abbrev pub items_to : {I : Type 0} → ℕ → List (Addressed I) → List I
items_to a xs = map (λ x. x.item) (filter (λ x. x.to == a) xs)

-- the parcels of one addressee, in their order
abbrev pub parcels_to : {I : Type 0} → ℕ → List (Parcel I) → List (Parcel I)
parcels_to a ps = filter (λ p. p.to == a) ps

-- the items of each parcel
abbrev pub contents : {I : Type 0} → List (Parcel I) → List (List I)
contents ps = map (λ p. p.items.items) ps

-- pieces are a list cut after each `limit` items: one after another they are the list, none is empty, none is longer
-- than the limit, and each but the last is as long
pub record IsCut {I : Type 0} (limit : ℕ) (xs : List I) (pieces : List (List I)) : Type 0 where
  pub whole : flat_map (λ piece. piece) pieces ≡ xs
  pub some : All (λ piece. 1 ≤ length piece) pieces
  pub most : All (λ piece. length piece ≤ limit) pieces
  pub full : (k : ℕ) (d : List I) → k + 1 < length pieces → length (slice_index_or pieces k d) ≡ limit

-- parcels of one sender by rising addressee, those of each addressee with its items, cut after each `limit`
pub record IsPacked {I : Type 0} (from limit : ℕ) (xs : List (Addressed I)) (ps : List (Parcel I)) : Type 0 where
  pub sender : All (λ p. p.from ≡ from) ps
  pub rising : IsNonDecreasingBy (λ p. p.to) ps
  pub cut : (a : ℕ) → IsCut limit (items_to a xs) (contents (parcels_to a ps))

-- parcels by strictly rising addressee
abbrev pub Rises : {I : Type 0} → List (Parcel I) → Type 0
Rises [] = Unit {0}
Rises (p ∷ ps) = All (λ q. p.to < q.to) ps × Rises ps

-- what was packed so far: parcels that are full, and the last one of each addressee, by rising addressee
pub record IsPacking {I : Type 0} (from limit : ℕ) (xs : List (Addressed I)) (full last : List (Parcel I)) : Type 0 where
  pub full_sender : All (λ p. p.from ≡ from) full
  pub last_sender : All (λ p. p.from ≡ from) last
  pub filled : All (λ p. limit ≤ length p.items.items) full
  pub rises : Rises last
  pub cut : (a : ℕ) → IsCut limit (items_to a xs) (contents (parcels_to a full) ++ contents (parcels_to a last))
  pub all : IsPermutation (sent_from from xs) (all_items full ++ all_items last)
