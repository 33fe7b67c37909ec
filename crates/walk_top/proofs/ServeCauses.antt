-- What the cause of a fault says of a call of `serve`.
use Rattle.std.proofs.Common.{◌≡◌, ◌≤◌, ◌⊎◌, ℕ, List, Option, None, refl, ap, sym, subst, inl, inr, arith}
use Rattle.walk_io.specs.Causes.{Rose}
use Rattle.walk_model.specs.declared.faults.WalkFault.{WalkFault}
use Rattle.walk_model.specs.declared.faults.WalkFault.TheVariants as fault
use Rattle.walk_model.specs.Status.{status_of}
use Rattle.path_writer.specs.Gains.{GainsFront}
use Rattle.path_writer.proofs.GainLemmas.{front-nothing}
use Rattle.walk_top.specs.Verdicts.{Finding, Found, Refused, Lacks, Untold, and_then, MayBe, MayRefuse}
use Rattle.walk_top.specs.Outcomes.{IfAccepted, IfRefused, IfLacking, IsRefusedWith, Call, Cause, OfWords, OfFiles, OfReading, OfWriting, OfMemory, cause_of}
use Rattle.walk_top.specs.ServeJobs.{serve_job}
use Rattle.walk_top.specs.ServeVerdicts.{ServeTask, serve_found, serve_task, serve_verdict, serve_output}
use Rattle.walk_top.specs.ServeOutcomes.{ServeCameAbout, FailsToServe, RoseServed, BeginsReplies, LeavesReplies}
use Rattle.walk_top.proofs.CauseLemmas.{IsStatusOf, refused-with, accepted-not, accepted-all, lacking-not, lacking-all, well-not_lacking, refused-all, well-not_refused, refused-is}

-- without a job the words are refused
verdict-words : (words : List (List ℕ)) (told : List ℕ → _) → serve_job words ≡ None → serve_verdict words told ≡ Refused fault.Words
unfolding serve_verdict
verdict-words words told none = ap (λ o. and_then (serve_found o) (serve_task told)) none

words-refused : (c : Call) → serve_job c.words ≡ None → MayRefuse (serve_verdict c.words c.told) fault.Words
words-refused c none = rw (verdict-words c.words c.told none) refl

-- the replies of the only task that may be accepted are begun
pub begins : {S : Type 0} (bytes : S → Option (List ℕ)) (v : Finding ServeTask) (old new : S) (task : ServeTask) → MayBe v task
    → GainsFront (bytes old) (bytes new) (serve_output task) → BeginsReplies bytes v old new
begins bytes (Found t) old new task is front = subst (λ (x : ServeTask). GainsFront (bytes old) (bytes new) (serve_output x)) (sym is) front
begins bytes (Refused f) old new task is front = absurd is
begins bytes (Lacks name) old new task is front = absurd is
begins bytes Untold old new task is front = tt

-- nothing has been written
begins-nothing : {S : Type 0} (bytes : S → Option (List ℕ)) (v : Finding ServeTask) (old new : S) → new ≡ old → BeginsReplies bytes v old new
begins-nothing bytes (Found t) old new same = front-nothing (bytes old) (bytes new) (serve_output t) (ap bytes same)
begins-nothing bytes (Refused f) old new same = same
begins-nothing bytes (Lacks name) old new same = same
begins-nothing bytes Untold old new same = tt

pub leaves-untouched : {S : Type 0} (bytes : S → Option (List ℕ)) (v : Finding ServeTask) (old new : S) (c : Cause) → new ≡ old → LeavesReplies bytes v old new c
leaves-untouched bytes v old new OfWords same = same
leaves-untouched bytes v old new OfFiles same = same
leaves-untouched bytes v old new (OfReading name) same = same
leaves-untouched bytes v old new OfWriting same = begins-nothing bytes v old new same
leaves-untouched bytes v old new OfMemory same = begins-nothing bytes v old new same

named : (c : Call) (name : List ℕ) → FailsToServe c name → RoseServed c.words c.reads c.reads_after
named c name fails = (name, fails.named, fails.rose)

-- a status from 2 to 5 is that of the verdict
pub caused-refused : (c : Call) (f : WalkFault) (s : Cause) → ServeCameAbout c f s → IsStatusOf s (status_of f)
    → status_of f ≤ 5 → IsRefusedWith (serve_verdict c.words c.told) (status_of f)
caused-refused c f OfWords is status low = rw (verdict-words c.words c.told is) (sym status)
caused-refused c f OfFiles is status low = refused-with (serve_verdict c.words c.told) f is
caused-refused c f (OfReading name) is status low = absurd (omega arith)
caused-refused c f OfWriting is status low = absurd (omega arith)
caused-refused c f OfMemory is status low = absurd (omega arith)

-- an accepted job without a counted fault
pub caused-complete : (c : Call) (f : WalkFault) (s : Cause) → ServeCameAbout c f s → IsStatusOf s (status_of f)
    → IfAccepted (serve_verdict c.words c.told) (λ _. (RoseServed c.words c.reads c.reads_after → ⊥) → (Rose c.writes c.writes_after → ⊥)
    → (status_of f ≡ 0) ⊎ (status_of f ≡ 8))
caused-complete c f OfWords is status = accepted-not (serve_verdict c.words c.told) fault.Words _ (words-refused c is)
caused-complete c f OfFiles is status = accepted-not (serve_verdict c.words c.told) f _ is
caused-complete c f (OfReading name) is status = accepted-all (serve_verdict c.words c.told) _ (λ t quiet taken. absurd (quiet (named c name is)))
caused-complete c f OfWriting is status = accepted-all (serve_verdict c.words c.told) _ (λ t quiet taken. absurd (taken is.0))
caused-complete c f OfMemory is status = accepted-all (serve_verdict c.words c.told) _ (λ t quiet taken. inr status)

-- an accepted job whose files were read without a counted fault
pub caused-written : (c : Call) (f : WalkFault) (s : Cause) → ServeCameAbout c f s → IsStatusOf s (status_of f)
    → IfAccepted (serve_verdict c.words c.told) (λ _. (RoseServed c.words c.reads c.reads_after → ⊥)
    → (status_of f ≡ 0) ⊎ (7 ≤ status_of f))
caused-written c f OfWords is status = accepted-not (serve_verdict c.words c.told) fault.Words _ (words-refused c is)
caused-written c f OfFiles is status = accepted-not (serve_verdict c.words c.told) f _ is
caused-written c f (OfReading name) is status = accepted-all (serve_verdict c.words c.told) _ (λ t quiet. absurd (quiet (named c name is)))
caused-written c f OfWriting is status = accepted-all (serve_verdict c.words c.told) _ (λ t quiet. inr (omega arith))
caused-written c f OfMemory is status = accepted-all (serve_verdict c.words c.told) _ (λ t quiet. inr (omega arith))

-- a refused job whose files were read without a counted fault
pub caused-refusal : (c : Call) (f : WalkFault) (s : Cause) → ServeCameAbout c f s → IsStatusOf s (status_of f)
    → IfRefused (serve_verdict c.words c.told) (λ r. (RoseServed c.words c.reads c.reads_after → ⊥)
    → (status_of f ≡ status_of r) ⊎ (status_of f ≡ 8))
caused-refusal c f OfWords is status =
    refused-is (serve_verdict c.words c.told) fault.Words _ (words-refused c is) (λ quiet. inl status)
caused-refusal c f OfFiles is status = refused-is (serve_verdict c.words c.told) f _ is (λ quiet. inl refl)
caused-refusal c f (OfReading name) is status = refused-all (serve_verdict c.words c.told) _ (λ r quiet. absurd (quiet (named c name is)))
caused-refusal c f OfWriting is status = well-not_refused (serve_verdict c.words c.told) _ is.1
caused-refusal c f OfMemory is status = refused-all (serve_verdict c.words c.told) _ (λ r quiet. inr status)

-- a job that lacks a file
pub caused-lacking : (c : Call) (f : WalkFault) (s : Cause) → ServeCameAbout c f s → IsStatusOf s (status_of f)
    → IfLacking (serve_verdict c.words c.told) ((status_of f ≡ 6) ⊎ (status_of f ≡ 8))
caused-lacking c f OfWords is status = lacking-not (serve_verdict c.words c.told) fault.Words _ (words-refused c is)
caused-lacking c f OfFiles is status = lacking-not (serve_verdict c.words c.told) f _ is
caused-lacking c f (OfReading name) is status = lacking-all (serve_verdict c.words c.told) _ (inl status)
caused-lacking c f OfWriting is status = well-not_lacking (serve_verdict c.words c.told) _ is.1
caused-lacking c f OfMemory is status = lacking-all (serve_verdict c.words c.told) _ (inr status)
