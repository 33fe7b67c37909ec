-- How a call of `serve` may end.
use Rattle.std.specs.Prelude.{ℕ, ◌≡◌, List, Option, Some, None, Contains}
use Rattle.walk_io.specs.Causes.{Rose}
use Rattle.walk_model.specs.declared.faults.WalkFault.{WalkFault}
use Rattle.path_writer.specs.Gains.{GainsFront}
use Rattle.walk_top.specs.Verdicts.{Finding, Found, Refused, Lacks, Untold, MayRefuse}
use Rattle.walk_top.specs.Outcomes.{Call, Cause, OfWords, OfFiles, OfReading, OfWriting, OfMemory, cause_of, without, MayEndWell}
use Rattle.walk_top.specs.ServeJobs.{ServeJob, serve_job, serve_files}
use Rattle.walk_top.specs.ServeVerdicts.{ServeTask, serve_verdict, serve_output}

-- a name is one of the files of a job
abbrev pub IsServeFile : Option ServeJob → List ℕ → Type 0
IsServeFile None name = ⊥
IsServeFile (Some j) name = Contains (serve_files j) name

-- the count of a file that the words name rose
abbrev pub RoseServed : List (List ℕ) → (List ℕ → ℕ) → (List ℕ → ℕ) → Type 0
RoseServed words before now = (name : List ℕ) × IsServeFile (serve_job words) name × Rose (before name) (now name)

-- a read of a named file failed, and nothing is refused before that file's contents count
pub record FailsToServe (c : Call) (name : List ℕ) : Type 0 where
  pub named : IsServeFile (serve_job c.words) name
  pub rose : Rose (c.reads name) (c.reads_after name)
  pub not_before : serve_verdict c.words (without name c.told) ≡ Untold

-- a cause has come about in a call, for a fault
abbrev pub ServeCameAbout : Call → WalkFault → Cause → Type 0
ServeCameAbout c f OfWords = serve_job c.words ≡ None
ServeCameAbout c f OfFiles = MayRefuse (serve_verdict c.words c.told) f
ServeCameAbout c f (OfReading name) = FailsToServe c name
ServeCameAbout c f OfWriting = Rose c.writes c.writes_after × MayEndWell (serve_verdict c.words c.told)
ServeCameAbout c f OfMemory = Unit {0}

-- the cause of a fault has come about
abbrev pub IsServeCaused : Call → WalkFault → Type 0
IsServeCaused c f = ServeCameAbout c f (cause_of f)

-- the sink has gained bytes from the front of an accepted task's replies; where none is accepted it is untouched
abbrev pub BeginsReplies : {S : Type 0} → (S → Option (List ℕ)) → Finding ServeTask → S → S → Type 0
BeginsReplies bytes (Found task) old new = GainsFront (bytes old) (bytes new) (serve_output task)
BeginsReplies bytes (Refused f) old new = new ≡ old
BeginsReplies bytes (Lacks name) old new = new ≡ old
BeginsReplies bytes Untold old new = Unit {0}

-- what a cause leaves of the sink of a call: it is untouched, but for a failed write and for want of memory, after which an accepted
-- task's replies may have been begun
abbrev pub LeavesReplies : {S : Type 0} → (S → Option (List ℕ)) → Finding ServeTask → S → S → Cause → Type 0
LeavesReplies bytes v old new OfWords = new ≡ old
LeavesReplies bytes v old new OfFiles = new ≡ old
LeavesReplies bytes v old new (OfReading name) = new ≡ old
LeavesReplies bytes v old new OfWriting = BeginsReplies bytes v old new
LeavesReplies bytes v old new OfMemory = BeginsReplies bytes v old new
