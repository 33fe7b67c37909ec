use Rattle.world_law.proofs.CrewLemmas.{crew-sound, crew-ahead, crew-suffix, crew-steps}
use Rattle.world_law.proofs.laws.crew_law.Goals as goal

pub returns-clause-sound : goal.returns-clause-sound
returns-clause-sound c = crew-sound

pub returns-clause-ahead : goal.returns-clause-ahead
returns-clause-ahead c = crew-ahead

pub returns-clause-steps : goal.returns-clause-steps
returns-clause-steps c = crew-steps

pub returns-clause-suffix : goal.returns-clause-suffix
returns-clause-suffix c = crew-suffix
