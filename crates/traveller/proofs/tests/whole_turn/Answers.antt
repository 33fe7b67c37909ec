use Rattle.std.proofs.Common.{rules}
use Rattle.traveller.proofs.tests.whole_turn.Goals as goal

pub hear-requires-clause-stands : goal.hear-requires-clause-stands
hear-requires-clause-stands g c = let here = c.if-owner-part.false in c.advance-turn.ensures.stands (search rules)
