use Rattle.edge_reader.proofs.TakenLemmas.{met-fault, ends-edges, ends-fault}
use Rattle.edge_reader.proofs.GraphLemmas.{graph_of-few, graph_of-weights}
use Rattle.edge_reader.proofs.reader.EdgeReader.finish.Goals as goal

pub returns-in-Some-clause-fault : goal.returns-in-Some-clause-fault
returns-in-Some-clause-fault c = λ u limits input took. met-fault u limits input c.args.self c.in-Some.fault took c.in-Some.is

pub returns-in-Ok-clause-edges : goal.returns-in-Ok-clause-edges
returns-in-Ok-clause-edges c = λ u limits input took. ends-edges u limits input c.args.self _ took c.in-None.is c.in-Ok.ensures.edges

pub returns-in-Ok-clause-few : goal.returns-in-Ok-clause-few
returns-in-Ok-clause-few c = λ u limits input took.
    graph_of-few u limits input _ (ends-edges u limits input c.args.self _ took c.in-None.is c.in-Ok.ensures.edges)

pub returns-in-Ok-clause-weights : goal.returns-in-Ok-clause-weights
returns-in-Ok-clause-weights c = λ u limits input took.
    graph_of-weights u limits input _ (ends-edges u limits input c.args.self _ took c.in-None.is c.in-Ok.ensures.edges)

pub returns-in-Err-clause-fault : goal.returns-in-Err-clause-fault
returns-in-Err-clause-fault c = λ u limits input took. ends-fault u limits input c.args.self c.in-Err.fault took c.in-None.is c.in-Err.ensures.fault
