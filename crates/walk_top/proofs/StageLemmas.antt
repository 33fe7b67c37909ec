-- Faults of stages, as those of the stages that are put together from them.
use Rattle.std.proofs.Common.{◌≡◌, ◌≤◌, ◌⊎◌, ℕ, List, refl, ap, subst, ◌∙◌, inl, inr, arith}
use Rattle.std.specs.Prelude.{Contains}
use Rattle.walk_io.specs.Causes.{Rose}
use Rattle.walk_io.specs.Files.{Told}
use Rattle.walk_model.specs.declared.faults.WalkFault.{WalkFault}
use Rattle.walk_top.specs.Verdicts.{Finding, Found, Refused, Lacks, Untold, and_then, MayBe, MayRefuse}
use Rattle.walk_top.specs.Outcomes.{Cause, OfWords, OfFiles, OfReading, OfWriting, OfMemory, cause_of, without}
use Rattle.walk_top.specs.Stages.{Stage, ComesIn, IsFaultIn, Refuses, IsRefusal}
use Rattle.walk_top.proofs.FindingLemmas.{and_then-refused, and_then-refused_first}

comes-first : {A B : Type 0} (find : (List ℕ → Told) → Finding A) (later : (List ℕ → Told) → A → Finding B) (s : Stage) (f : WalkFault) (c : Cause)
    → ComesIn find s f c → ComesIn (λ told. and_then (find told) (later told)) s f c
comes-first find later s f OfWords h = h
comes-first find later s f OfFiles h = and_then-refused_first (find s.told) (later s.told) f h
comes-first find later s f (OfReading name) h = record {
  named = h.named;
  rose = h.rose;
  not_before = ap (λ m. and_then m (later (without name s.told))) h.not_before;
}
comes-first find later s f OfWriting h = h
comes-first find later s f OfMemory h = h

-- the fault of a stage is that of what follows from it
pub in-first : {A B : Type 0} (find : (List ℕ → Told) → Finding A) (later : (List ℕ → Told) → A → Finding B) (s : Stage) (f : WalkFault)
    → IsFaultIn find s f → IsFaultIn (λ told. and_then (find told) (later told)) s f
in-first find later s f h = comes-first find later s f (cause_of f) h

-- without a file a stage finds nothing, or what it finds with it
abbrev pub HidesOrKeeps : {A : Type 0} → ((List ℕ → Told) → Finding A) → (List ℕ → Told) → List ℕ → Type 0
HidesOrKeeps find told name = (find (without name told) ≡ Untold) ⊎ (find (without name told) ≡ find told)

untold-later : {A B : Type 0} (m n : Finding A) (later : A → Finding B) (x : A) → MayBe m x → (n ≡ Untold) ⊎ (n ≡ m)
    → later x ≡ Untold → and_then n later ≡ Untold
untold-later {A = A} m n later x is way rest =
    elim way as (λ _. and_then n later ≡ Untold) [
      | inl hidden ↦ ap (λ k. and_then k later) hidden
      | inr kept ↦ ap (λ k. and_then k later) kept ∙ here m is
    ]
  where
    here : (k : Finding A) → MayBe k x → and_then k later ≡ Untold
    here (Found y) same = ap later same ∙ rest
    here (Refused g) same = absurd same
    here (Lacks name) same = absurd same
    here Untold same = refl

comes-later : {A B : Type 0} (find : (List ℕ → Told) → Finding A) (later : (List ℕ → Told) → A → Finding B) (s : Stage) (f : WalkFault) (x : A) (c : Cause)
    → MayBe (find s.told) x → ((name : List ℕ) → HidesOrKeeps find s.told name)
    → ComesIn (λ told. later told x) s f c → ComesIn (λ told. and_then (find told) (later told)) s f c
comes-later find later s f x OfWords is keeps h = h
comes-later find later s f x OfFiles is keeps h = and_then-refused (find s.told) (later s.told) x f is h
comes-later find later s f x (OfReading name) is keeps h = record {
  named = h.named;
  rose = h.rose;
  not_before = untold-later (find s.told) (find (without name s.told)) (later (without name s.told)) x is (keeps name) h.not_before;
}
comes-later find later s f x OfWriting is keeps h = h
comes-later find later s f x OfMemory is keeps h = h

-- the fault of what follows from something that was found
pub in-later : {A B : Type 0} (find : (List ℕ → Told) → Finding A) (later : (List ℕ → Told) → A → Finding B) (s : Stage) (f : WalkFault) (x : A)
    → MayBe (find s.told) x → ((name : List ℕ) → HidesOrKeeps find s.told name)
    → IsFaultIn (λ told. later told x) s f → IsFaultIn (λ told. and_then (find told) (later told)) s f
in-later find later s f x is keeps h = comes-later find later s f x (cause_of f) is keeps h

-- a count that rose between two moments rose between an earlier and a later one
pub rose-wider : (a b c d : ℕ) → a ≤ b → c ≤ d → Rose b c → Rose a d
rose-wider a b c d low high rose = omega (arith, low, high, rose)

-- a stage within a longer one, which reads more files
pub record IsPartOf (s t : Stage) : Type 0 where
  pub told : s.told ≡ t.told
  pub names : (n : List ℕ) → Contains s.names n → Contains t.names n
  pub before : (n : List ℕ) → t.reads n ≤ s.reads n
  pub after : (n : List ℕ) → s.reads_after n ≤ t.reads_after n

comes-wider : {A : Type 0} (find : (List ℕ → Told) → Finding A) (s t : Stage) (f : WalkFault) (c : Cause) → IsPartOf s t
    → ComesIn find s f c → ComesIn find t f c
comes-wider find s t f OfWords p h = h
comes-wider find s t f OfFiles p h = subst (λ (told : List ℕ → Told). MayRefuse (find told) f) p.told h
comes-wider find s t f (OfReading name) p h = record {
  named = p.names name h.named;
  rose = rose-wider (t.reads name) (s.reads name) (s.reads_after name) (t.reads_after name) (p.before name) (p.after name) h.rose;
  not_before = subst (λ (told : List ℕ → Told). find (without name told) ≡ Untold) p.told h.not_before;
}
comes-wider find s t f OfWriting p h = h
comes-wider find s t f OfMemory p h = h

-- a fault within a stage is one within a longer stage
pub in-wider : {A : Type 0} (find : (List ℕ → Told) → Finding A) (s t : Stage) (f : WalkFault) → IsPartOf s t
    → IsFaultIn find s f → IsFaultIn find t f
in-wider find s t f p h = comes-wider find s t f (cause_of f) p h

refuses-in : {A : Type 0} (find : (List ℕ → Told) → Finding A) (s : Stage) (f : WalkFault) (c : Cause)
    → Refuses (find s.told) f c → ComesIn find s f c
refuses-in find s f OfWords h = h
refuses-in find s f OfFiles h = h
refuses-in find s f (OfReading name) h = absurd h
refuses-in find s f OfWriting h = h
refuses-in find s f OfMemory h = tt

-- what is refused by what is told
pub in-refused : {A : Type 0} (find : (List ℕ → Told) → Finding A) (s : Stage) (f : WalkFault) → IsRefusal (find s.told) f → IsFaultIn find s f
in-refused find s f h = refuses-in find s f (cause_of f) h
