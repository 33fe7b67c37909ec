use Rattle.edge_reader.proofs.ByteLemmas.{kept-more}
use Rattle.edge_reader.proofs.unfinished.give_back.Goals as goal

pub returns-then-line-clause-goes_on : goal.returns-then-line-clause-goes_on
returns-then-line-clause-goes_on c = λ b rest.
    kept-more c.args.line.now c.take_solid.new.line b rest c.if-line.true c.take_solid.ensures.returned c.take_solid.ensures.goes_on
