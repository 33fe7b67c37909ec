-- Workers that pass items to one another in whatever order.
use Rattle.std.specs.Prelude.{◌≡◌, ℕ, ◌+◌, List, [], ◌∷◌, ◌++◌, map, sum_by}
use Rattle.traveller.specs.PartedRuns.{PartedRun}
use Rattle.world_law.specs.Items.{Item}
use Rattle.world_law.specs.Worlds.{Piece, Comes, Goes}
use Rattle.world_law.specs.Histories.{Happening, Unrolls}

-- the shift of one worker: what it had and all that it popped became, by events of its parts and by what it
-- carried between them, what it has and all that it pushed. When it popped or pushed what isn't said
pub record Shift (g : PartedRun) : Type 0 where
  pub had : List Piece
  pub popped : List Item
  pub has : List Piece
  pub pushed : List Item
  pub history : List Happening
  pub unrolls : Unrolls g history (had ++ map Comes popped) (has ++ map Goes pushed)

-- what all workers had, have, popped and pushed
abbrev pub all_had : {g : PartedRun} → List (Shift g) → List Piece
all_had [] = []
all_had (w ∷ ws) = w.had ++ all_had ws

abbrev pub all_have : {g : PartedRun} → List (Shift g) → List Piece
all_have [] = []
all_have (w ∷ ws) = w.has ++ all_have ws

abbrev pub all_popped : {g : PartedRun} → List (Shift g) → List Item
all_popped [] = []
all_popped (w ∷ ws) = w.popped ++ all_popped ws

abbrev pub all_pushed : {g : PartedRun} → List (Shift g) → List Item
all_pushed [] = []
all_pushed (w ∷ ws) = w.pushed ++ all_pushed ws

-- after the join: what was pushed was popped or is left in the rings
abbrev pub AreRings : {g : PartedRun} → List (Shift g) → List Item → Type 0
AreRings ws left = (h : Item → ℕ) → sum_by h (all_pushed ws) ≡ sum_by h (all_popped ws) + sum_by h left
