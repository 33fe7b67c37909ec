-- What contracts see of the carriers in memory.
use Rattle.std.specs.Prelude.{ℕ, ◌+◌, ◌*◌, ◌^◌, ◌%◌, List}
use Rattle.walk_model.specs.declared.messages.Letter.{Letter}
use Rattle.walker_mail.specs.declared.parcels.Posted.{Posted}

-- a carrier's items, the oldest first, and how many were ever posted
pub record Bag (I : Type 0) : Type 0 where
  pub held : List (Posted I)
  pub carried : ℕ

-- the same, with a seed and how often an item was handed over, modulo 2^64
pub record Shuffle (I : Type 0) : Type 0 where
  pub held : List (Posted I)
  pub carried : ℕ
  pub seed : ℕ
  pub turns : ℕ

-- a carrier round another one, with the letters of all items that it posted
pub record Recorded (C : Type 0) : Type 0 where
  pub inner : C
  pub letters : List Letter

-- the place of the item that is handed over next among so many, by the seed and how often one was handed over
abbrev pub place_by : (seed turns count : ℕ) → ℕ
place_by seed turns count = (seed + turns * 6364136223846793005) % 2 ^ 64 % count
