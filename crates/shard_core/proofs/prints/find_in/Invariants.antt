use Rattle.std.proofs.Common.{◌≡◌, ◌+◌, length, take}
use Rattle.shard_core.specs.Pieces.{all_of}
use Rattle.shard_core.proofs.prints.find_in.Given as goal

abbrev pub invariant-loop-piece : goal.invariant-loop-piece
invariant-loop-piece l = length (all_of (take l.piece-index l.pieces)) + l.left ≡ l.index
