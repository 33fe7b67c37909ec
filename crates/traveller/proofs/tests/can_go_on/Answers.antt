use Rattle.std.proofs.Common.{rules}
use Rattle.traveller.proofs.tests.can_go_on.Goals as goal

pub returns-then-not-waits-clause-stands : goal.returns-then-not-waits-clause-stands
returns-then-not-waits-clause-stands c = λ yes. c.requires.stands (search rules)
