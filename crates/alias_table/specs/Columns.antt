-- What a table keeps.
use Rattle.std.specs.Prelude.{◌≡◌, ℕ, ◌*◌, ◌/◌, ◌^◌, ◌<◌, ◌≤◌, List, length, sum, All}
use Rattle.walk_model.specs.Alias.{own}
use Rattle.alias_table.specs.Filled.{AllFilled, own_part, other_item}
use Rattle.alias_table.specs.declared.columns.Columns.{Columns}
use Rattle.alias_table.specs.declared.columns.Columns.TheVariants.{Whole, Slim, Narrow, Wide}

-- the columns are those of the weights
abbrev pub AreColumns : List ℕ → Columns → Type 0
AreColumns ws Whole = (c : ℕ) → c < length ws → own ws c ≡ sum ws
AreColumns ws (Slim columns) = (length ws * sum ws < 2 ^ 32) × AllFilled (own_part (λ n. n)) other_item ws columns.items
AreColumns ws (Narrow columns) = (length ws * sum ws < 2 ^ 64) × AllFilled (own_part (λ n. n)) other_item ws columns.items
AreColumns ws (Wide columns) = AllFilled (own_part (λ n. n)) other_item ws columns.items

-- weights that a table may be built for: some, and not too many, and none of them zero or too great
pub record IsRow (ws : List ℕ) : Type 0 where
  pub some : 1 ≤ length ws
  pub short : length ws < 2 ^ 31
  pub weights : All (λ w. (1 ≤ w) × (w < 2 ^ 62)) ws

-- a table's fields fit together
pub record IsTable (ws : List ℕ) (whole inverse places_inverse : ℕ) (columns : Columns) : Type 0 where
  pub row : IsRow ws
  pub whole_is : whole ≡ sum ws
  pub inverse_is : whole ≤ 18446744073709551615 → inverse ≡ 18446744073709551615 / whole
  pub places_is : length ws * whole ≤ 18446744073709551615 → places_inverse ≡ 18446744073709551615 / (length ws * whole)
  pub wide_is : 18446744073709551615 < length ws * whole → places_inverse ≡ 0
  pub columns_are : AreColumns ws columns
