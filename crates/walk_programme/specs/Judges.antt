-- Which values of a TOML document serve a programme, kind by kind, and what they mean.
use Rattle.std.specs.Prelude.{ℕ, ℤ, pos, negsuc, nat_le, ◌&&◌, if◌then◌else◌, List, [], ◌∷◌, length, codes, Option, Some, None, option_map, option_and_then}
use Rattle.std.specs.Str.{bytes_eq}
use Rattle.toml.specs.Data.{Data, string, Items, no_items, item, as_integer, as_array}
use Rattle.walk_model.specs.Ratio.{Ratio}
use Rattle.walk_programme.specs.Fractions.{such_that, reduced, fraction_of}

-- a number from 0 to a greatest one
abbrev pub up_to : ℕ → ℤ → Option ℕ
up_to most (pos n) = if nat_le n most then Some n else None
up_to most (negsuc n) = None

-- a whole number from 0 to a greatest one
abbrev pub whole : ℕ → Data → Option ℕ
whole most d = option_and_then (up_to most) (as_integer d)

-- how many walkers: none is told by the text `each`
unfoldable pub walkers : Data → Option (Option ℕ)
walkers (string s) = if bytes_eq s (codes "each") then Some None else None
walkers d = option_map Some (whole 16777216 d)

-- a text of a fraction, or a whole number from 0 to 1,000,000
unfoldable pub fraction : Data → Option Ratio
fraction (string s) = fraction_of s
fraction d = option_and_then (λ n. reduced n 1) (whole 1000000 d)

-- a fraction from 0 to 1
abbrev pub chance : Data → Option Ratio
chance d = such_that (λ r. nat_le r.top r.bottom) (fraction d)

-- a fraction above 0
abbrev pub factor : Data → Option Ratio
factor d = such_that (λ r. nat_le 1 r.top) (fraction d)

-- the whole numbers from 0 to 255 that the items are
unfoldable pub types_in : Items → Option (List ℕ)
types_in no_items = Some []
types_in (item d ds) = option_and_then (λ k. option_map (λ ks. k ∷ ks) (types_in ds)) (whole 255 d)

-- an array of 1 to 16 types
unfoldable pub scheme : Data → Option (List ℕ)
scheme d = such_that (λ ks. nat_le 1 (length ks) && nat_le (length ks) 16) (option_and_then types_in (as_array d))

-- the same judge for a key that may be missing
abbrev pub told : {X : Type 0} → (Data → Option X) → Data → Option (Option X)
told judge d = option_map Some (judge d)
