-- What the cause of a fault says of a call.
use Rattle.std.proofs.Common.{◌≡◌, ◌≤◌, ◌⊎◌, ℕ, List, Option, None, refl, ap, sym, subst, inl, inr, arith}
use Rattle.walk_io.specs.Causes.{Rose}
use Rattle.walk_model.specs.declared.faults.WalkFault.{WalkFault}
use Rattle.walk_model.specs.declared.faults.WalkFault.TheVariants as fault
use Rattle.walk_model.specs.Status.{status_of}
use Rattle.walk_top.specs.Jobs.{job}
use Rattle.path_writer.specs.Gains.{GainsFront}
use Rattle.walk_top.specs.Outputs.{output}
use Rattle.walk_top.specs.Verdicts.{Finding, Found, Refused, Lacks, Untold, Task, verdict, task_of, job_found, and_then, MayBe, MayRefuse}
use Rattle.walk_top.specs.Outcomes.{IfAccepted, IfRefused, IfLacking, MayEndWell, IsRefusedWith, Call, Cause, OfWords, OfFiles, OfReading, OfWriting, OfMemory, cause_of, CameAbout, FailsToRead, RoseNamed, BeginsText, LeavesSink}
use Rattle.path_writer.proofs.GainLemmas.{front-nothing}

-- the statuses that a cause can have
abbrev pub IsStatusOf : Cause → ℕ → Type 0
IsStatusOf OfWords s = s ≡ 2
IsStatusOf OfFiles s = (3 ≤ s) × (s ≤ 5)
IsStatusOf (OfReading name) s = s ≡ 6
IsStatusOf OfWriting s = s ≡ 7
IsStatusOf OfMemory s = s ≡ 8

pub status-of-cause : (f : WalkFault) → IsStatusOf (cause_of f) (status_of f)
status-of-cause fault.Words = refl
status-of-cause (fault.Programme f) = (omega arith, omega arith)
status-of-cause (fault.Line n why) = (omega arith, omega arith)
status-of-cause (fault.Limit what) = (omega arith, omega arith)
status-of-cause (fault.NoStart id) = (omega arith, omega arith)
status-of-cause (fault.Overflow id) = (omega arith, omega arith)
status-of-cause (fault.Read name) = refl
status-of-cause fault.Write = refl
status-of-cause fault.Memory = refl

-- without a job the words are refused
pub verdict-words : (words : List (List ℕ)) (told : List ℕ → _) → job words ≡ None → verdict words told ≡ Refused fault.Words
unfolding verdict
verdict-words words told none = ap (λ o. and_then (job_found o) (task_of told)) none

-- what may be accepted may end well
pub ends-well : {A : Type 0} (v : Finding A) (task : A) → MayBe v task → MayEndWell v
ends-well (Found t) task is = tt
ends-well (Refused f) task is = absurd is
ends-well (Lacks name) task is = absurd is
ends-well Untold task is = tt

-- a fact on the only task that may be accepted
pub accepted-is : {A : Type 0} (v : Finding A) (task : A) (P : A → Type 0) → MayBe v task → P task → IfAccepted v P
accepted-is (Found t) task P is here = subst P (sym is) here
accepted-is (Refused f) task P is here = tt
accepted-is (Lacks name) task P is here = tt
accepted-is Untold task P is here = tt

-- the text of the only task that may be accepted is begun
pub begins : {S : Type 0} (bytes : S → Option (List ℕ)) (v : Finding Task) (old new : S) (task : Task) → MayBe v task
    → GainsFront (bytes old) (bytes new) (output task) → BeginsText bytes v old new
begins bytes (Found t) old new task is front = subst (λ (x : Task). GainsFront (bytes old) (bytes new) (output x)) (sym is) front
begins bytes (Refused f) old new task is front = absurd is
begins bytes (Lacks name) old new task is front = absurd is
begins bytes Untold old new task is front = tt

-- nothing has been written
pub begins-nothing : {S : Type 0} (bytes : S → Option (List ℕ)) (v : Finding Task) (old new : S) → new ≡ old → BeginsText bytes v old new
begins-nothing bytes (Found t) old new same = front-nothing (bytes old) (bytes new) (output t) (ap bytes same)
begins-nothing bytes (Refused f) old new same = same
begins-nothing bytes (Lacks name) old new same = same
begins-nothing bytes Untold old new same = tt

pub leaves-untouched : {S : Type 0} (bytes : S → Option (List ℕ)) (v : Finding Task) (old new : S) (c : Cause) → new ≡ old → LeavesSink bytes v old new c
leaves-untouched bytes v old new OfWords same = same
leaves-untouched bytes v old new OfFiles same = same
leaves-untouched bytes v old new (OfReading name) same = same
leaves-untouched bytes v old new OfWriting same = begins-nothing bytes v old new same
leaves-untouched bytes v old new OfMemory same = begins-nothing bytes v old new same

pub refused-with : {A : Type 0} (v : Finding A) (f : WalkFault) → MayRefuse v f → IsRefusedWith v (status_of f)
refused-with (Found t) f is = absurd is
refused-with (Refused g) f is = ap status_of is
refused-with (Lacks name) f is = absurd is
refused-with Untold f is = tt

words-refused : (c : Call) → job c.words ≡ None → MayRefuse (verdict c.words c.told) fault.Words
words-refused c none = rw (verdict-words c.words c.told none) refl

-- what is refused isn't accepted, nor does it lack a file
pub accepted-not : {A : Type 0} (v : Finding A) (f : WalkFault) (P : A → Type 0) → MayRefuse v f → IfAccepted v P
accepted-not (Found t) f P is = absurd is
accepted-not (Refused g) f P is = tt
accepted-not (Lacks name) f P is = tt
accepted-not Untold f P is = tt

pub lacking-not : {A : Type 0} (v : Finding A) (f : WalkFault) (P : Type 0) → MayRefuse v f → IfLacking v P
lacking-not (Found t) f P is = tt
lacking-not (Refused g) f P is = tt
lacking-not (Lacks name) f P is = absurd is
lacking-not Untold f P is = tt

pub well-not_lacking : {A : Type 0} (v : Finding A) (P : Type 0) → MayEndWell v → IfLacking v P
well-not_lacking (Found t) P well = tt
well-not_lacking (Refused g) P well = tt
well-not_lacking (Lacks name) P well = absurd well
well-not_lacking Untold P well = tt

pub lacking-all : {A : Type 0} (v : Finding A) (P : Type 0) → P → IfLacking v P
lacking-all (Found t) P all = tt
lacking-all (Refused g) P all = tt
lacking-all (Lacks name) P all = all
lacking-all Untold P all = tt

pub accepted-all : {A : Type 0} (v : Finding A) (P : A → Type 0) → ((t : A) → P t) → IfAccepted v P
accepted-all (Found t) P all = all t
accepted-all (Refused g) P all = tt
accepted-all (Lacks name) P all = tt
accepted-all Untold P all = tt

pub refused-all : {A : Type 0} (v : Finding A) (P : WalkFault → Type 0) → ((f : WalkFault) → P f) → IfRefused v P
refused-all (Found t) P all = tt
refused-all (Refused g) P all = all g
refused-all (Lacks name) P all = tt
refused-all Untold P all = tt

pub well-not_refused : {A : Type 0} (v : Finding A) (P : WalkFault → Type 0) → MayEndWell v → IfRefused v P
well-not_refused (Found t) P well = tt
well-not_refused (Refused g) P well = absurd well
well-not_refused (Lacks name) P well = tt
well-not_refused Untold P well = tt

pub refused-is : {A : Type 0} (v : Finding A) (f : WalkFault) (P : WalkFault → Type 0) → MayRefuse v f → P f → IfRefused v P
refused-is (Found t) f P is here = absurd is
refused-is (Refused g) f P is here = subst P (sym is) here
refused-is (Lacks name) f P is here = tt
refused-is Untold f P is here = tt

named : (c : Call) (name : List ℕ) → FailsToRead c name → RoseNamed c.words c.reads c.reads_after
named c name fails = (name, fails.named, fails.rose)

-- a status from 2 to 5 is that of the verdict
pub caused-refused : (c : Call) (f : WalkFault) (s : Cause) → CameAbout c f s → IsStatusOf s (status_of f) → cause_of f ≡ s
    → status_of f ≤ 5 → IsRefusedWith (verdict c.words c.told) (status_of f)
caused-refused c f OfWords is status by low =
    rw (verdict-words c.words c.told is) (sym status)
caused-refused c f OfFiles is status by low = refused-with (verdict c.words c.told) f is
caused-refused c f (OfReading name) is status by low = absurd (omega arith)
caused-refused c f OfWriting is status by low = absurd (omega arith)
caused-refused c f OfMemory is status by low = absurd (omega arith)

-- an accepted job without a counted fault
pub caused-complete : (c : Call) (f : WalkFault) (s : Cause) → CameAbout c f s → IsStatusOf s (status_of f)
    → IfAccepted (verdict c.words c.told) (λ _. (RoseNamed c.words c.reads c.reads_after → ⊥) → (Rose c.writes c.writes_after → ⊥)
    → (status_of f ≡ 0) ⊎ (status_of f ≡ 8))
caused-complete c f OfWords is status = accepted-not (verdict c.words c.told) fault.Words _ (words-refused c is)
caused-complete c f OfFiles is status = accepted-not (verdict c.words c.told) f _ is
caused-complete c f (OfReading name) is status = accepted-all (verdict c.words c.told) _ (λ t quiet taken. absurd (quiet (named c name is)))
caused-complete c f OfWriting is status = accepted-all (verdict c.words c.told) _ (λ t quiet taken. absurd (taken is.0))
caused-complete c f OfMemory is status = accepted-all (verdict c.words c.told) _ (λ t quiet taken. inr status)

-- an accepted job whose files were read without a counted fault
pub caused-written : (c : Call) (f : WalkFault) (s : Cause) → CameAbout c f s → IsStatusOf s (status_of f)
    → IfAccepted (verdict c.words c.told) (λ _. (RoseNamed c.words c.reads c.reads_after → ⊥)
    → (status_of f ≡ 0) ⊎ (7 ≤ status_of f))
caused-written c f OfWords is status = accepted-not (verdict c.words c.told) fault.Words _ (words-refused c is)
caused-written c f OfFiles is status = accepted-not (verdict c.words c.told) f _ is
caused-written c f (OfReading name) is status = accepted-all (verdict c.words c.told) _ (λ t quiet. absurd (quiet (named c name is)))
caused-written c f OfWriting is status = accepted-all (verdict c.words c.told) _ (λ t quiet. inr (omega arith))
caused-written c f OfMemory is status = accepted-all (verdict c.words c.told) _ (λ t quiet. inr (omega arith))

-- a refused job whose files were read without a counted fault
pub caused-refusal : (c : Call) (f : WalkFault) (s : Cause) → CameAbout c f s → IsStatusOf s (status_of f)
    → IfRefused (verdict c.words c.told) (λ r. (RoseNamed c.words c.reads c.reads_after → ⊥)
    → (status_of f ≡ status_of r) ⊎ (status_of f ≡ 8))
caused-refusal c f OfWords is status =
    refused-is (verdict c.words c.told) fault.Words _ (words-refused c is) (λ quiet. inl status)
caused-refusal c f OfFiles is status = refused-is (verdict c.words c.told) f _ is (λ quiet. inl refl)
caused-refusal c f (OfReading name) is status = refused-all (verdict c.words c.told) _ (λ r quiet. absurd (quiet (named c name is)))
caused-refusal c f OfWriting is status = well-not_refused (verdict c.words c.told) _ is.1
caused-refusal c f OfMemory is status = refused-all (verdict c.words c.told) _ (λ r quiet. inr status)

-- a job that lacks a file
pub caused-lacking : (c : Call) (f : WalkFault) (s : Cause) → CameAbout c f s → IsStatusOf s (status_of f)
    → IfLacking (verdict c.words c.told) ((status_of f ≡ 6) ⊎ (status_of f ≡ 8))
caused-lacking c f OfWords is status = lacking-not (verdict c.words c.told) fault.Words _ (words-refused c is)
caused-lacking c f OfFiles is status = lacking-not (verdict c.words c.told) f _ is
caused-lacking c f (OfReading name) is status = lacking-all (verdict c.words c.told) _ (inl status)
caused-lacking c f OfWriting is status = well-not_lacking (verdict c.words c.told) _ is.1
caused-lacking c f OfMemory is status = lacking-all (verdict c.words c.told) _ (inr status)
