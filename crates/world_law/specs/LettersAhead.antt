-- The letters that a walker has not yet taken in.
use Rattle.std.specs.Prelude.{◌≡◌, ◌∷◌, ℕ, ◌+◌, ◌-◌, ◌==◌, if◌then◌else◌, List, length, drop, sum_by, Option, Some, None}
use Rattle.walk_model.specs.declared.messages.Letter.{Letter}
use Rattle.traveller.specs.PartedRuns.{PartedRun, letters_in}
use Rattle.traveller.specs.Walkers.{Walker}
use Rattle.world_law.specs.Items.{Item, Travels, Asks, Replies, letter_of}
use Rattle.world_law.specs.LettersLeft.{letters_from}
use Rattle.world_law.specs.Worlds.{Piece, Resident, Aside, Printed, Comes, Goes}

-- how many letters of a walker are still to come after its own data, for walker i
abbrev pub walker_ahead : PartedRun → ℕ → Walker → ℕ
walker_ahead g i v = if v.number == i then length (letters_from g v) else 0

-- how many letters an item of walker i stands for: its own, and after an ask the reply; and those to come
-- after a walker
abbrev pub item_ahead : PartedRun → ℕ → Item → ℕ
item_ahead g i (Travels v from to) = (if v.number == i then 1 else 0) + walker_ahead g i v
item_ahead g i (Asks ask to) = if ask.walker == i then 2 else 0
item_ahead g i (Replies reply from) = if reply.ask.walker == i then 1 else 0

abbrev pub piece_ahead : PartedRun → ℕ → Piece → ℕ
piece_ahead g i (Resident k v) = walker_ahead g i v
piece_ahead g i (Aside k m) = item_ahead g i m
piece_ahead g i (Printed k p) = 0
piece_ahead g i (Comes m) = item_ahead g i m
piece_ahead g i (Goes m) = item_ahead g i m

-- how many letters of walker i have not yet been taken in
abbrev pub count_ahead : PartedRun → ℕ → List Piece → ℕ
count_ahead g i ps = sum_by (piece_ahead g i) ps

-- the last n items of a list
abbrev pub last_of : {X : Type 0} → ℕ → List X → List X
last_of n xs = drop (length xs - n) xs

-- the letters of walker i that have not yet been taken in: that many from the end of its walk's letters
abbrev pub ahead : PartedRun → List Piece → ℕ → List Letter
ahead g ps i = last_of (count_ahead g i ps) (letters_in g i)

-- 1 where a letter is one of walker i
abbrev pub count_in : ℕ → Option Letter → ℕ
count_in i None = 0
count_in i (Some l) = if l.walker == i then 1 else 0

-- 1 for an item of walker i that has come: in flight towards a part, or set aside there
abbrev pub item_of : ℕ → Item → ℕ
item_of i m = if (letter_of m).walker == i then 1 else 0

abbrev pub of_come : ℕ → Piece → ℕ
of_come i (Comes m) = item_of i m
of_come i (Aside k m) = item_of i m
of_come i _ = 0

-- and for one that was given out
abbrev pub of_gone : ℕ → Piece → ℕ
of_gone i (Goes m) = item_of i m
of_gone i _ = 0

-- a letter is the first of some
abbrev pub Begins : Letter → List Letter → Type 0
Begins l ls = (rest : List Letter) × (ls ≡ l ∷ rest)
