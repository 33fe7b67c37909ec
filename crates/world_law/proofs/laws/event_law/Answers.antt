use Rattle.world_law.proofs.LeadLemmas.{sound-same, sound-event, event-one}
use Rattle.world_law.proofs.LetterLaws.{first-letter}
use Rattle.world_law.proofs.laws.event_law.Goals as goal

pub returns-clause-sound : goal.returns-clause-sound
returns-clause-sound c = sound-event

pub returns-clause-first : goal.returns-clause-first
returns-clause-first c = first-letter

pub returns-clause-one : goal.returns-clause-one
returns-clause-one c = event-one

pub returns-clause-order : goal.returns-clause-order
returns-clause-order c = sound-same
