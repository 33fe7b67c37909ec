use Rattle.std.proofs.Common.{refl}
use Rattle.edge_reader.proofs.ByteLemmas.{start-is}
use Rattle.edge_reader.proofs.unfinished.Line.start.Goals as goal

pub returns : goal.returns
returns c = λ text. start-is _ text refl refl c.none-2.ensures.none c.none-2.ensures.fields
