use Rattle.edge_reader.proofs.TextLemmas.{end-edges, end-fault}
use Rattle.edge_reader.proofs.progress.Progress.end.Goals as goal

pub returns-clause-edges : goal.returns-clause-edges
returns-clause-edges c = end-edges c.args.self.now c.end_line.new.self c.end_line.result c.end_line.ensures.added

pub returns-clause-fault : goal.returns-clause-fault
returns-clause-fault c = end-fault c.args.self.now c.end_line.result c.end_line.ensures.fault
