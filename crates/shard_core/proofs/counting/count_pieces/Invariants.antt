use Rattle.std.proofs.Common.{◌≡◌, take}
use Rattle.shard_core.specs.Counted.{count_all}
use Rattle.shard_core.specs.Pieces.{all_of}
use Rattle.shard_core.proofs.counting.count_pieces.Given as goal

abbrev pub invariant-loop-piece : goal.invariant-loop-piece
invariant-loop-piece l = l.counts ≡ count_all l.initial.counts (all_of (take l.piece-index l.pieces))
