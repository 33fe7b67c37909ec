use Rattle.world_law.proofs.LeadLemmas.{becomes-true, becomes-given}
use Rattle.world_law.proofs.laws.round_law.Goals as goal

pub returns-clause-holds : goal.returns-clause-holds
returns-clause-holds c = becomes-true

pub returns-clause-given : goal.returns-clause-given
returns-clause-given c = becomes-given
