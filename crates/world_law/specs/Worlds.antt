-- A world as plain data, and its pieces.
use Rattle.std.specs.Prelude.{◌≡◌, ℕ, List, [], ◌∷◌, ◌++◌, map, sum_by}
use Rattle.walk_model.specs.declared.results.Print.{Print}
use Rattle.traveller.specs.Walkers.{Walker}
use Rattle.world_law.specs.Items.{Item}

-- a shard: its part, the walkers that reside there, the items that it set aside, and its prints
pub record ShardData : Type 0 where
  pub part : ℕ
  pub residents : List Walker
  pub aside : List Item
  pub prints : List Print

-- a world: its shards, and the items in flight
pub record WorldData : Type 0 where
  pub shards : List ShardData
  pub flight : List Item

-- a piece of a world: a walker that resides in a part, an item set aside there, a print kept there, an
-- item that comes in flight, and one that was given out and goes into flight
pub data Piece : Type 0 where
  Resident : (part : ℕ) (v : Walker) → Piece
  Aside : (part : ℕ) (i : Item) → Piece
  Printed : (part : ℕ) (p : Print) → Piece
  Comes : (i : Item) → Piece
  Goes : (i : Item) → Piece

-- the pieces of a shard, of several, and of a world
abbrev pub shard_pieces : ShardData → List Piece
shard_pieces s =
    map (Resident s.part) s.residents ++ (map (Aside s.part) s.aside ++ map (Printed s.part) s.prints)

abbrev pub all_pieces : List ShardData → List Piece
all_pieces [] = []
all_pieces (s ∷ ss) = shard_pieces s ++ all_pieces ss

abbrev pub world_pieces : WorldData → List Piece
world_pieces w = all_pieces w.shards ++ map Comes w.flight

-- the same pieces in any order: whatever is counted of them, and with whatever weights, is the same
abbrev pub Same : List Piece → List Piece → Type 0
Same xs ys = (h : Piece → ℕ) → sum_by h xs ≡ sum_by h ys

-- what holds of each piece
abbrev pub Each : (Piece → Type 0) → List Piece → Type 0
Each P [] = Unit {0}
Each P (x ∷ xs) = P x × Each P xs
