-- Where the walkers of a plan start, in ranks.
use Rattle.std.specs.Prelude.{ℕ, ◌≡◌, List, slice_index, Option, unwrap_or}
use Rattle.walk_model.specs.declared.programme.StartRule.{StartRule}
use Rattle.walk_model.specs.declared.programme.StartRule.TheVariants.{Each, Spread, From}

-- the plan's own start, if it has one, has this rank
abbrev pub IsRankOf : StartRule → List ℕ → Option ℕ → Type 0
IsRankOf Each names start = Unit {0}
IsRankOf (Spread walkers) names start = Unit {0}
IsRankOf (From walkers id) names start = slice_index names (unwrap_or start 0) ≡ id
