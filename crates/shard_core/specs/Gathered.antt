-- Walks and their prints, and where in one list of entries a print belongs.
use Rattle.std.specs.Prelude.{ℕ, suc, ◌≡◌, ◌+◌, List, [], ◌∷◌, ◌++◌, length, sum_by, slice_index_or, slice_set}
use Rattle.std.specs.List.{fold}
use Rattle.walk_model.specs.declared.results.Print.{Print}
use Rattle.walk_model.specs.Prints.{prints_from}

-- the prints of walks whose walkers have the numbers from one on
unfoldable pub prints_since : ℕ → List (List ℕ) → List Print
prints_since walker [] = []
prints_since walker (walk ∷ walks) = prints_from walker 0 walk ++ prints_since (suc walker) walks

-- the prints of all walks: those of walk 0, then those of walk 1, and so on
abbrev pub all_prints : List (List ℕ) → List Print
all_prints walks = prints_since 0 walks

-- the prints are those of the walks, each once, in any order: whatever each print weighs, all
-- together weigh the same
abbrev pub AreAllPrints : List (List ℕ) → List Print → Type 0
AreAllPrints walks prints = (weight : Print → ℕ) → sum_by weight prints ≡ sum_by weight (all_prints walks)

-- the place of a print where its walker's walk begins at a place, or behind an end where there is no
-- such walk
abbrev pub place_of : List ℕ → ℕ → Print → ℕ
place_of begins end p = slice_index_or begins p.walker end + p.step

-- entries with the vertex of a print at its place, if it has one
abbrev pub put : List ℕ → List ℕ → Print → List ℕ
put begins entries p = slice_set entries (place_of begins (length entries) p) p.at

-- entries with the vertices of prints at their places
abbrev pub put_all : List ℕ → List ℕ → List Print → List ℕ
put_all begins entries prints = fold (put begins) entries prints
