use Rattle.world_law.proofs.StepLaws.{first-true, turn-of, turn-true}
use Rattle.world_law.proofs.SoundLemmas.{hear-true}
use Rattle.world_law.proofs.LeftLemmas.{advance-left}
use Rattle.world_law.proofs.KnownLemmas.{advance-part, hear-part}
use Rattle.world_law.proofs.laws.turn_law.Goals as goal

pub returns-clause-first : goal.returns-clause-first
returns-clause-first c = first-true

pub returns-clause-turn : goal.returns-clause-turn
returns-clause-turn c = turn-of

pub returns-clause-holds : goal.returns-clause-holds
returns-clause-holds c = turn-true

pub returns-clause-heard : goal.returns-clause-heard
returns-clause-heard c = hear-true

pub returns-clause-part : goal.returns-clause-part
returns-clause-part c = λ g k known v rows own. advance-part g k known rows v own

pub returns-clause-part_heard : goal.returns-clause-part_heard
returns-clause-part_heard c = λ g k known v answer rows own. hear-part g k known rows v answer own

pub returns-clause-left : goal.returns-clause-left
returns-clause-left c = advance-left
