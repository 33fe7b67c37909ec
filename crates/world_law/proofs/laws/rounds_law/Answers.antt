use Rattle.world_law.proofs.AsideLaws.{aside-empty}
use Rattle.world_law.proofs.RoundLaws.{rounds-sound, rounds-given, rounds-onward}
use Rattle.world_law.proofs.laws.rounds_law.Goals as goal

pub returns-clause-sound : goal.returns-clause-sound
returns-clause-sound c = rounds-sound

pub returns-clause-given : goal.returns-clause-given
returns-clause-given c = rounds-given

pub returns-clause-aside : goal.returns-clause-aside
returns-clause-aside c = aside-empty

pub returns-clause-onward : goal.returns-clause-onward
returns-clause-onward c = rounds-onward
