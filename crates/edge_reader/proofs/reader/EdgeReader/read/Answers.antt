use Rattle.std.proofs.Common.{◌<◌, length, refl, arith}
use Rattle.edge_reader.proofs.TakenLemmas.{within-more, within-fault, within-full, within-full_fault, on_ok, if_err}
use Rattle.edge_reader.proofs.reader.EdgeReader.read.Goals as goal

pub returns-then-piece-self-clause-taken : goal.returns-then-piece-self-clause-taken
returns-then-piece-self-clause-taken c =
    on_ok c.read.result (within-more c.args.self.now.left _ c.args.self.now.progress c.read.new.self c.args.piece.now c.if-piece-self.true refl) c.read.ensures.read

pub returns-then-piece-self-clause-fault : goal.returns-then-piece-self-clause-fault
returns-then-piece-self-clause-fault c =
    if_err c.read.result (λ f. within-fault f c.args.self.now.left c.args.self.now.progress c.args.piece.now c.if-piece-self.true) c.read.ensures.fault

pub returns-in-Ok-clause-fault : goal.returns-in-Ok-clause-fault
returns-in-Ok-clause-fault c =
    let over : c.args.self.now.left < length c.args.piece.now = omega arith in
    within-full c.args.self.now.left c.args.self.now.progress _ c.args.piece.now _ over refl c.in-Ok.ensures.read

pub returns-in-Err-clause-fault : goal.returns-in-Err-clause-fault
returns-in-Err-clause-fault c =
    let over : c.args.self.now.left < length c.args.piece.now = omega arith in
    within-full_fault c.in-Err.fault c.args.self.now.left c.args.self.now.progress c.args.piece.now _ over refl c.in-Err.ensures.fault
