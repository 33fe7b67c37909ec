use Rattle.std.proofs.Common.{◌≡◌}
use Rattle.shard_core.specs.Gathered.{put_all}
use Rattle.shard_core.specs.Pieces.{all_of}
use Rattle.shard_core.proofs.finishing.put_pieces.Given as goal

abbrev pub invariant-loop-piece : goal.invariant-loop-piece
invariant-loop-piece l = l.entries ≡ put_all l.begins l.initial.entries (all_of l.yielded)
