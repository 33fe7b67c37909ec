use Rattle.std.proofs.Common.{sym, ◌∙◌}
use Rattle.edge_reader.proofs.TextLemmas.{in_front-fault}
use Rattle.edge_reader.proofs.progress.Progress.end_line.Goals as goal

pub returns-in-Err-add_edge-clause-fault : goal.returns-in-Err-add_edge-clause-fault
returns-in-Err-add_edge-clause-fault c = λ es later.
    rw (sym c.edge.ensures ∙ c.in-Ok-Some.is, c.in-Ok-Some.field-0-is)
    (in_front-fault es _ _ (c.in-Err-add_edge.ensures.fault c.args.self.now.number later))
