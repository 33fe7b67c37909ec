-- The letters of whole histories.
use Rattle.std.proofs.Common.{◌≡◌, ℕ, zero, suc, ◌+◌, ◌-◌, ◌<◌, Bool, true, false, cond, List, [], ◌∷◌, ◌++◌, length, refl, ap, sym, ◌∙◌, arith, None, Some, subst}
use Rattle.std.specs.Prelude.{Option, sum_by, ◌==◌, nat_lt, if◌then◌else◌}
use Rattle.std.proofs.lemmas.Bool.{eqb-true, lt-ltb}
use Rattle.std.proofs.lemmas.Bool.Decides.{nat_tests}
use Rattle.std.proofs.lemmas.List.{append_assoc}
use Rattle.std.proofs.lemmas.List.Sums.{sum_by-cons}
use Rattle.walk_model.specs.declared.messages.Letter.{Letter}
use Rattle.walk_model.specs.Walk.{first_state}
use Rattle.traveller.specs.PartedRuns.{PartedRun, journey_in, letters_in}
use Rattle.traveller.specs.Ahead.{print_of}
use Rattle.world_law.specs.LettersLeft.{letters_from}
use Rattle.world_law.specs.Worlds.{Piece, Resident, Printed, Comes, Goes, Same}
use Rattle.world_law.specs.Events.{Event, letter_in}
use Rattle.world_law.specs.Soundness.{IsSound}
use Rattle.world_law.specs.LettersAhead.{walker_ahead, piece_ahead, count_ahead, last_of, ahead, count_in}
use Rattle.world_law.specs.Histories.{Happening, InPart, Carries, CanHappen, pieces_taken, pieces_given, letter_taken, Unrolls, letter_for, letters_taken, starter, starters, begin_pieces}
use Rattle.world_law.proofs.TruthLemmas.{letters_within-fresh}
use Rattle.world_law.proofs.LeadLemmas.{sound-same}
use Rattle.world_law.proofs.LetterLaws.{first-letter, other-letters}
use Rattle.world_law.proofs.HistoryLemmas.{sound-happening, begin-sound}

-- the same pieces have the same letters to come
ahead-same : (g : PartedRun) (i : ℕ) (xs ys : List Piece) → Same xs ys → ahead g xs i ≡ ahead g ys i
ahead-same g i xs ys same = ap (λ n. last_of n (letters_in g i)) (same (piece_ahead g i))

event-letters : (g : PartedRun) (k i : ℕ) (e : Event) (others : List Piece) → CanHappen g (InPart k e)
    → IsSound g (pieces_taken (InPart k e) ++ others)
    → letter_for i (letter_in e) ++ ahead g (pieces_given g (InPart k e) ++ others) i ≡ ahead g (pieces_taken (InPart k e) ++ others) i
event-letters g k i e others may h = by (letter_in e) refl
  where
    test : (l : Letter) (b : Bool) → letter_in e ≡ Some l → (l.walker == i) ≡ b
        → (if b then l ∷ [] else []) ++ ahead g (pieces_given g (InPart k e) ++ others) i ≡ ahead g (pieces_taken (InPart k e) ++ others) i
    test l true is same =
        let mine = eqb-true l.walker i same in
        let first = first-letter g k e others l may h is in
        sym (subst (λ n. ahead g (pieces_taken (InPart k e) ++ others) n ≡ l ∷ ahead g (pieces_given g (InPart k e) ++ others) n) mine first)
    test l false is other =
        let none : count_in i (letter_in e) ≡ 0 = ap (count_in i) is ∙ ap (λ b. cond b (suc zero) zero) other in
        sym (other-letters g k i e others may h none)

    by : (o : Option Letter) → letter_in e ≡ o
        → letter_for i o ++ ahead g (pieces_given g (InPart k e) ++ others) i ≡ ahead g (pieces_taken (InPart k e) ++ others) i
    by None is = sym (other-letters g k i e others may h (ap (count_in i) is))
    by (Some l) is = test l (l.walker == i) is refl

happening-letters : (g : PartedRun) (i : ℕ) (e : Happening) (others : List Piece) → CanHappen g e
    → IsSound g (pieces_taken e ++ others)
    → letter_for i (letter_taken e) ++ ahead g (pieces_given g e ++ others) i ≡ ahead g (pieces_taken e ++ others) i
happening-letters g i (InPart k e) others may h = event-letters g k i e others may h
happening-letters g i (Carries m) others may h =
    let same : count_ahead g i (Comes m ∷ others) ≡ count_ahead g i (Goes m ∷ others) =
    omega (arith, sum_by-cons (piece_ahead g i) (Comes m) others, sum_by-cons (piece_ahead g i) (Goes m) others) in
    ap (λ n. last_of n (letters_in g i)) same

-- the letters that a history takes in, followed by those still to come after it, are those to come before it
pub unrolls-letters : (g : PartedRun) (i : ℕ) (es : List Happening) (before after : List Piece) → Unrolls g es before after
    → IsSound g before → letters_taken i es ++ ahead g after i ≡ ahead g before i
unfolding Unrolls letters_taken
unrolls-letters g i [] before after same h = sym (ahead-same g i before after same)
unrolls-letters g i (e ∷ es) before after step h =
    let others = step.0 in
    let now = sound-same g before (pieces_taken e ++ others) step.2 h in
    let next = sound-happening g e others step.1 now in
    append_assoc (letter_for i (letter_taken e)) (letters_taken i es) (ahead g after i)
    ∙ ap (λ l. letter_for i (letter_taken e) ++ l) (unrolls-letters g i es (pieces_given g e ++ others) after step.3 next)
    ∙ happening-letters g i e others step.1 now
    ∙ sym (ahead-same g i before (pieces_taken e ++ others) step.2)

-- a walker at its start has all letters of its walk to come
starter-letters : (g : PartedRun) (n : ℕ) → letters_from g (starter g n) ≡ letters_in g n
unfolding letters_from
starter-letters g n = letters_within-fresh g.plan.length (journey_in g n) g.plan.length (first_state (g.start n)) (omega arith)

starters-ahead : (g : PartedRun) (i n : ℕ) → sum_by (piece_ahead g i) (starters g n) ≡ cond (nat_lt i n) (length (letters_in g i)) 0
unfolding starters
starters-ahead g i zero = none i (length (letters_in g i))
  where
    none : (i l : ℕ) → 0 ≡ cond (nat_lt i 0) l 0
    none i l = grind (arith, nat_tests)
starters-ahead g i (suc n) =
    let k = g.owner (g.start n) in
    let mine = here (n == i) refl in
    omega (
      arith,
      starters-ahead g i n,
      more i n (length (letters_in g i)),
      sum_by-cons (piece_ahead g i) (Resident k (starter g n)) (Printed k (print_of (starter g n)) ∷ starters g n),
      sum_by-cons (piece_ahead g i) (Printed k (print_of (starter g n))) (starters g n),
    )
  where
    more : (i n l : ℕ) → cond (nat_lt i n) l 0 + cond (n == i) l 0 ≡ cond (nat_lt i (suc n)) l 0
    more i n l = grind (arith, nat_tests)

    here : (b : Bool) → (n == i) ≡ b → walker_ahead g i (starter g n) ≡ cond (n == i) (length (letters_in g i)) 0
    here true e =
        let same = eqb-true n i e in
        ap (λ l. cond (n == i) (length l) zero) (starter-letters g n ∙ ap (letters_in g) same)
    here false e = rw e refl

last-all : (xs : List Letter) (n : ℕ) → n ≡ length xs → last_of n xs ≡ xs
last-all xs n e = let none : length xs - n ≡ 0 = omega arith in rw none refl

-- before any event all letters of its walk are still to come for each walker
pub begin-letters : (g : PartedRun) (i : ℕ) → i < g.walkers → ahead g (begin_pieces g) i ≡ letters_in g i
begin-letters g i h =
    last-all (letters_in g i) (count_ahead g i (begin_pieces g))
    (starters-ahead g i g.walkers ∙ ap (λ b. cond b (length (letters_in g i)) zero) (lt-ltb i g.walkers h))

-- after every history the letters of a walker that were taken in, followed by those still to come, are the
-- letters of its walk
pub history-letters : (g : PartedRun) (i : ℕ) (es : List Happening) (after : List Piece) → i < g.walkers
    → Unrolls g es (begin_pieces g) after → letters_taken i es ++ ahead g after i ≡ letters_in g i
history-letters g i es after h unrolls =
    unrolls-letters g i es (begin_pieces g) after unrolls (begin-sound g) ∙ begin-letters g i h
