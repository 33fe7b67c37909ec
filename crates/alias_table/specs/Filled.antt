-- Columns that are filled step by step.
use Rattle.std.specs.Prelude.{◌≡◌, ℕ, ◌<◌, List, length, sum, slice_index, slice_index_or}
use Rattle.walk_model.specs.Alias.{own, filler, lacks, spares}
use Rattle.alias_table.specs.declared.columns.Column.{Column}

-- the number of weights and their sum
pub record Counted (ws : List ℕ) (count whole : ℕ) : Type 0 where
  pub count_is : count ≡ length ws
  pub whole_is : whole ≡ sum ws

-- a column is the one of an item: its own part, and where that leaves room the item that fills it up
pub record IsColumn (ws : List ℕ) (c : ℕ) (part other : ℕ) : Type 0 where
  pub part_is : part ≡ own ws c
  pub other_is : part < sum ws → other ≡ filler ws c

-- a column's own part, as the number that it is
abbrev pub own_part : {N : Type 0} → (N → ℕ) → Column N → ℕ
own_part value column = value column.own

abbrev pub other_item : {N : Type 0} → Column N → ℕ
other_item column = column.other

-- the column at a place is right, whatever stands past the end
abbrev pub IsRight : {C : Type 0} → (C → ℕ) → (C → ℕ) → List ℕ → List C → ℕ → Type 0
IsRight {C} part other ws columns c = (d : C) → IsColumn ws c (part (slice_index_or columns c d)) (other (slice_index_or columns c d))

-- the columns of light items before one place and of heavy items before another are right, and so are those that are whole
pub record Filled {C : Type 0} (part other : C → ℕ) (ws : List ℕ) (light heavy : ℕ) (columns : List C) : Type 0 where
  pub long : length columns ≡ length ws
  pub lights : (c : ℕ) → c < light → 0 < slice_index (lacks ws) c → IsRight part other ws columns c
  pub heavies : (c : ℕ) → c < heavy → 0 < slice_index (spares ws) c → IsRight part other ws columns c
  pub others : (c : ℕ) → c < length ws → slice_index (lacks ws) c ≡ 0 → slice_index (spares ws) c ≡ 0 → IsRight part other ws columns c

-- all columns are right
pub record AllFilled {C : Type 0} (part other : C → ℕ) (ws : List ℕ) (columns : List C) : Type 0 where
  pub long : length columns ≡ length ws
  pub right : (c : ℕ) → c < length ws → IsRight part other ws columns c
