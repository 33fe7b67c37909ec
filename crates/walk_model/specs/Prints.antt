-- The prints of walks: who was where after how many steps.
use Rattle.std.specs.Prelude.{ℕ, ◌+◌, List, [], ◌∷◌}
use Rattle.walk_model.specs.declared.results.Print.{Print}
use Rattle.walk_model.specs.Course.{GraphRun}
use Rattle.walk_model.specs.Walk.{walk_of}

-- the prints of a walker's entries from a step on
unfoldable pub prints_from : ℕ → ℕ → List ℕ → List Print
prints_from walker step [] = []
prints_from walker step (x ∷ xs) =
    record { walker = walker; step = step; at = x } ∷ prints_from walker (step + 1) xs

-- the prints of a walker's walk
abbrev pub prints_of : GraphRun → ℕ → List Print
prints_of run walker = prints_from walker 0 (walk_of run walker)
