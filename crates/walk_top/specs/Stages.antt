-- How a stage of a call may fail: a stage finds something by what is told of the files that it reads.
use Rattle.std.specs.Prelude.{ℕ, ◌≡◌, List, Contains}
use Rattle.walk_io.specs.Causes.{Rose}
use Rattle.walk_io.specs.Files.{Told}
use Rattle.walk_model.specs.declared.faults.WalkFault.{WalkFault}
use Rattle.walk_top.specs.Verdicts.{Finding, Untold, MayRefuse}
use Rattle.walk_top.specs.Outcomes.{Cause, OfWords, OfFiles, OfReading, OfWriting, OfMemory, cause_of, without}

-- the names that a stage reads, what is told of files, and what has become of the counts of their faults
pub record Stage : Type 0 where
  pub names : List (List ℕ)
  pub told : List ℕ → Told
  pub reads : List ℕ → ℕ
  pub reads_after : List ℕ → ℕ

-- a read of one of the names failed, and nothing is found without that file's contents
pub record StopsAt {A : Type 0} (find : (List ℕ → Told) → Finding A) (s : Stage) (name : List ℕ) : Type 0 where
  pub named : Contains s.names name
  pub rose : Rose (s.reads name) (s.reads_after name)
  pub not_before : find (without name s.told) ≡ Untold

-- a cause has come about in a stage, for a fault
abbrev pub ComesIn : {A : Type 0} → ((List ℕ → Told) → Finding A) → Stage → WalkFault → Cause → Type 0
ComesIn find s f OfWords = ⊥
ComesIn find s f OfFiles = MayRefuse (find s.told) f
ComesIn find s f (OfReading name) = StopsAt find s name
ComesIn find s f OfWriting = ⊥
ComesIn find s f OfMemory = Unit {0}

-- the cause of a fault has come about in a stage
abbrev pub IsFaultIn : {A : Type 0} → ((List ℕ → Told) → Finding A) → Stage → WalkFault → Type 0
IsFaultIn find s f = ComesIn find s f (cause_of f)

-- a fault is what is refused, or there was no memory
abbrev pub Refuses : {A : Type 0} → Finding A → WalkFault → Cause → Type 0
Refuses m f OfWords = ⊥
Refuses m f OfFiles = MayRefuse m f
Refuses m f (OfReading name) = ⊥
Refuses m f OfWriting = ⊥
Refuses m f OfMemory = Unit {0}

abbrev pub IsRefusal : {A : Type 0} → Finding A → WalkFault → Type 0
IsRefusal m f = Refuses m f (cause_of f)
