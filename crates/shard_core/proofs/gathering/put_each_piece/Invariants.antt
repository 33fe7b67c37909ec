use Rattle.std.proofs.Common.{◌≡◌, take}
use Rattle.shard_core.specs.Gathered.{put_all}
use Rattle.shard_core.specs.Pieces.{all_of}
use Rattle.shard_core.proofs.gathering.put_each_piece.Given as goal

abbrev pub invariant-loop-piece : goal.invariant-loop-piece
invariant-loop-piece l = l.entries ≡ put_all l.begins l.initial.entries (all_of (take l.piece-index l.pieces))
