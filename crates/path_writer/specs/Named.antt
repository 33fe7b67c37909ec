-- Walks by ranks, and the ids that names give them.
use Rattle.std.specs.Prelude.{ℕ, ◌<◌, List, ◌∷◌, length, map, slice_index, decimal, All}
use Rattle.std.specs.List.{concat, join_with_byte}

-- every rank of every walk has a name
abbrev pub AreNamed : List ℕ → List (List ℕ) → Type 0
AreNamed names walks = All (λ walk. All (λ r. r < length names) walk) walks

-- the same walks by ids
abbrev pub named : List ℕ → List (List ℕ) → List (List ℕ)
named names walks = map (map (slice_index names)) walks

-- a space and an id
abbrev pub spaced : ℕ → List ℕ
spaced id = 32 ∷ decimal id

-- the ids of ranks, each after a space
abbrev pub later : List ℕ → List ℕ → List ℕ
later names ranks = concat (map spaced (map (slice_index names) ranks))

-- the ids of a walk with one space between
abbrev pub entries : List ℕ → List ℕ → List ℕ
entries names walk = join_with_byte 32 (map decimal (map (slice_index names) walk))
