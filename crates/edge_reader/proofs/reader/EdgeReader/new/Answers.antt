use Rattle.std.proofs.Common.{refl}
use Rattle.edge_reader.proofs.TakenLemmas.{took-none}
use Rattle.edge_reader.proofs.reader.EdgeReader.new.Goals as goal

pub returns-clause-took : goal.returns-clause-took
returns-clause-took c = took-none c.args.undirected c.args.limits _ refl refl refl refl refl c.new.ensures.items c.start.ensures
