use Rattle.std.proofs.Common.{arith}
use Rattle.shard_core.proofs.PieceLemmas.{found}
use Rattle.shard_core.proofs.prints.find_in.Goals as goal

pub returns-then-left-len-clause-found : goal.returns-then-left-len-clause-found
returns-then-left-len-clause-found c =
    found c.args.pieces.now c.loop-piece.piece-index c.loop-piece.left c.args.index c.piece-item.result c.index.result.now
    c.loop-piece-test.true c.piece-item.is (omega arith) c.index.ensures c.loop-piece.invariant
