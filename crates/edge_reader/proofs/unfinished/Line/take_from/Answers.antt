use Rattle.edge_reader.proofs.TextLemmas.{lines_with-next}
use Rattle.edge_reader.proofs.unfinished.Line.take_from.Goals as goal

pub returns-in_default-clause-taken : goal.returns-in_default-clause-taken
returns-in_default-clause-taken c = λ u n r whole text.
    lines_with-next u n r c.args.self.now c.take.new.self whole c.args.at c.args.piece.now text c.requires.within c.requires.inside c.take.ensures
