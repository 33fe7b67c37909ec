-- Runs, and where their walkers start.
use Rattle.std.specs.Prelude.{ℕ, ◌%◌, Bool, true, false, nat_lt, Option, Some, None, unwrap_or}
use Rattle.walk_model.specs.declared.programme.StartRule.{StartRule}
use Rattle.walk_model.specs.declared.programme.StartRule.TheVariants.{Each, Spread, From}

-- a start rule with a start of its own has its rank, which is a vertex; no other has one
abbrev pub start_fits : StartRule → ℕ → Option ℕ → Bool
start_fits Each vertices None = true
start_fits Each vertices (Some start) = false
start_fits (Spread walkers) vertices None = true
start_fits (Spread walkers) vertices (Some start) = false
start_fits (From walkers id) vertices None = false
start_fits (From walkers id) vertices (Some start) = nat_lt start vertices

-- the rank where a walker starts, over so many vertices
abbrev pub start_rank : StartRule → ℕ → Option ℕ → ℕ → ℕ
start_rank Each vertices start walker = walker
start_rank (Spread walkers) vertices start walker = walker % vertices
start_rank (From walkers id) vertices start walker = unwrap_or start 0
