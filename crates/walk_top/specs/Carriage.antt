-- What a task has carried between the parts that its words ask for.
use Rattle.std.specs.Prelude.{◌≡◌, ℕ, ◌+◌, List, Option, Some, None}
use Rattle.walk_model.specs.declared.messages.Letter.{Letter}
use Rattle.traveller.specs.PartedRuns.{letters_in}
use Rattle.superstep.specs.Carried.{IsLogged, count_letters}
use Rattle.walk_top.specs.Jobs.{Job, parts_of}
use Rattle.walk_top.specs.Outcomes.{Cause, OfWords, OfFiles, OfReading, OfWriting, OfMemory}
use Rattle.walk_top.specs.PartedTasks.{parted_run}
use Rattle.walk_top.specs.Verdicts.{Task}

-- words that ask for one part, or for nothing
abbrev pub AskForOne : Option Job → Type 0
AskForOne None = Unit {0}
AskForOne (Some j) = parts_of j ≡ 1

-- the letters of so many walkers were carried, and no others: the count rose by their number, and a log that is told
-- was extended by them, those of each walker in their order
pub record HasCarried (walkers : ℕ) (letters : ℕ → List Letter) (count count_after : ℕ) (log log_after : Option (List Letter)) : Type 0 where
  pub carried : count_after ≡ count + count_letters walkers letters
  pub logged : IsLogged walkers letters log log_after

-- what was carried are the letters of a task's walks: their moves, and what they asked with the reply to each ask
abbrev pub CarriesTask : Task → ℕ → ℕ → Option (List Letter) → Option (List Letter) → Type 0
CarriesTask task = HasCarried (parted_run task).walkers (letters_in (parted_run task))

-- what a cause leaves of a carrier: it is untouched, but for a failed write, before which all was carried, and for want of memory
abbrev pub LeavesCarrier : {S : Type 0} → Type 0 → S → S → Cause → Type 0
LeavesCarrier all old new OfWords = new ≡ old
LeavesCarrier all old new OfFiles = new ≡ old
LeavesCarrier all old new (OfReading name) = new ≡ old
LeavesCarrier all old new OfWriting = all
LeavesCarrier all old new OfMemory = Unit {0}
