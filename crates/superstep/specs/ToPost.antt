-- What is still to be posted of the letters of walks that are on their way.
use Rattle.std.specs.Prelude.{ℕ, List, drop, sum_by}
use Rattle.walk_model.specs.declared.messages.Letter.{Letter}
use Rattle.traveller.specs.PartedRuns.{PartedRun}
use Rattle.world_law.specs.LettersAhead.{ahead, item_of}
use Rattle.world_law.specs.Worlds.{Piece, Aside}

-- 1 for an item of walker i that was set aside
abbrev pub of_aside : ℕ → Piece → ℕ
of_aside i (Aside k m) = item_of i m
of_aside i _ = 0

-- the letters of walker i that have not yet been posted where what is in flight hasn't been either: those that have
-- not been taken in, without the one that was set aside, if one was
abbrev pub to_post : PartedRun → List Piece → ℕ → List Letter
to_post g ps i = drop (sum_by (of_aside i) ps) (ahead g ps i)
