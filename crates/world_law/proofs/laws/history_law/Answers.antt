use Rattle.world_law.proofs.HistoryLemmas.{history-sound}
use Rattle.world_law.proofs.HistoryLetters.{history-letters}
use Rattle.world_law.proofs.laws.history_law.Goals as goal

pub returns-clause-sound : goal.returns-clause-sound
returns-clause-sound c = history-sound

pub returns-clause-letters : goal.returns-clause-letters
returns-clause-letters c = history-letters
