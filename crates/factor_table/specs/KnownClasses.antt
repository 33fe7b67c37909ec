-- Classes that are known of a row's edges.
use Rattle.std.specs.Prelude.{ℕ, List, Option, Some, replicate}

-- class 0 is known at each of so many places
abbrev pub all_zero : ℕ → List (Option ℕ)
all_zero n = replicate n (Some 0)
