use Rattle.std.proofs.Common.{◌≡◌, take}
use Rattle.shard_core.specs.Gathered.{put_all}
use Rattle.shard_core.proofs.finishing.put_piece.Given as goal

abbrev pub invariant-loop-print : goal.invariant-loop-print
invariant-loop-print l = l.entries ≡ put_all l.begins l.initial.entries (take l.print-index l.piece)
