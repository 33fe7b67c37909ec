use Rattle.edge_reader.proofs.TakenLemmas.{so_far-none, so_far-fault}
use Rattle.edge_reader.proofs.reader.EdgeReader.feed.Goals as goal

pub returns-in-Ok-clause-so_far : goal.returns-in-Ok-clause-so_far
returns-in-Ok-clause-so_far c = λ u limits input took.
    so_far-none u limits input c.args.piece.now c.args.self.now _ _ took c.in-None.is c.in-Ok.ensures.taken

pub returns-in-Err-clause-so_far : goal.returns-in-Err-clause-so_far
returns-in-Err-clause-so_far c = λ u limits input took.
    so_far-fault u limits input c.args.piece.now c.args.self.now c.in-Err.fault took c.in-None.is c.in-Err.ensures.fault
