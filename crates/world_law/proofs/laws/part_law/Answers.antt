use Rattle.world_law.proofs.BecomeLemmas.{becomes-sound}
use Rattle.world_law.proofs.KnownLemmas.{becomes-part}
use Rattle.world_law.proofs.PartLemmas.{part-rows}
use Rattle.world_law.proofs.laws.part_law.Goals as goal

pub returns-clause-rows : goal.returns-clause-rows
returns-clause-rows c = part-rows

pub returns-clause-whole : goal.returns-clause-whole
returns-clause-whole c = λ g k known before after rows b. becomes-part g k known rows before after b

pub returns-clause-sound : goal.returns-clause-sound
returns-clause-sound c = becomes-sound
