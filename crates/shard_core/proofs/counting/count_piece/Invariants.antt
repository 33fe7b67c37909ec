use Rattle.std.proofs.Common.{◌≡◌, take}
use Rattle.shard_core.specs.Counted.{count_all}
use Rattle.shard_core.proofs.counting.count_piece.Given as goal

abbrev pub invariant-loop-print : goal.invariant-loop-print
invariant-loop-print l = l.counts ≡ count_all l.initial.counts (take l.print-index l.piece)
