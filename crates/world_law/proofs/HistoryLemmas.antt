-- Whole histories of a world.
use Rattle.std.proofs.Common.{◌≡◌, ℕ, zero, suc, ◌<◌, ◌≤◌, List, [], ◌∷◌, ◌++◌, refl, sym, ◌∙◌, arith}
use Rattle.std.specs.Prelude.{sum_by}
use Rattle.std.proofs.lemmas.List.Sums.{sum_by-cons}
use Rattle.walk_model.specs.declared.messages.Ask.{Ask}
use Rattle.walk_model.specs.Counts.{sum_below}
use Rattle.walk_model.specs.Walk.{first_state}
use Rattle.traveller.specs.PartedRuns.{PartedRun, journey_in, state_after}
use Rattle.traveller.specs.Ahead.{print_of}
use Rattle.world_law.specs.Items.{Item}
use Rattle.world_law.specs.Truth.{IsTrueTo}
use Rattle.world_law.specs.Worlds.{Piece, Resident, Printed, Comes, Goes, Each}
use Rattle.world_law.specs.Soundness.{of_walker, of_open, of_sent, of_print, steps_made, IsTruePiece, IsSound}
use Rattle.world_law.specs.Histories.{Happening, InPart, Carries, CanHappen, pieces_taken, pieces_given, Unrolls, starter, starters, begin_pieces}
use Rattle.world_law.proofs.SoundLemmas.{walk-entry}
use Rattle.world_law.proofs.LeadLemmas.{sound-same, sound-event}

-- to carry an item keeps a sound world sound
carries-sound : (g : PartedRun) (i : Item) (others : List Piece) → IsSound g (Goes i ∷ others) → IsSound g (Comes i ∷ others)
carries-sound g i others h = record {
  numbers = λ f.
      let w = of_walker (λ v. f v.number) in
      omega (arith, h.numbers f, sum_by-cons w (Goes i) others, sum_by-cons w (Comes i) others);
  asks = λ f.
      omega (
        arith,
        h.asks f,
        sum_by-cons (of_open g.owner f) (Goes i) others,
        sum_by-cons (of_open g.owner f) (Comes i) others,
        sum_by-cons (of_sent f) (Goes i) others,
        sum_by-cons (of_sent f) (Comes i) others,
      );
  prints = λ f.
      omega (
        arith,
        h.prints f,
        sum_by-cons (of_print f) (Goes i) others,
        sum_by-cons (of_print f) (Comes i) others,
        sum_by-cons (of_walker (steps_made f)) (Goes i) others,
        sum_by-cons (of_walker (steps_made f)) (Comes i) others,
      );
  pieces = (h.pieces.0, h.pieces.1);
}

pub sound-happening : (g : PartedRun) (e : Happening) (others : List Piece) → CanHappen g e
    → IsSound g (pieces_taken e ++ others) → IsSound g (pieces_given g e ++ others)
sound-happening g (InPart k e) others may h = sound-event g k e others may h
sound-happening g (Carries i) others may h = carries-sound g i others h

-- every history keeps a sound world sound
pub sound-unrolls : (g : PartedRun) (es : List Happening) (before after : List Piece) → Unrolls g es before after
    → IsSound g before → IsSound g after
unfolding Unrolls
sound-unrolls g [] before after same h = sound-same g before after same h
sound-unrolls g (e ∷ es) before after step h =
    sound-unrolls g es (pieces_given g e ++ step.0) after step.3
    (sound-happening g e step.0 step.1 (sound-same g before (pieces_taken e ++ step.0) step.2 h))

-- a walker at its start is true
pub starter-true : (g : PartedRun) (n : ℕ) → n < g.walkers → IsTrueTo g (starter g n)
unfolding state_after
starter-true g n h = record {
  number = h;
  start = refl;
  length = refl;
  within = omega arith;
  state = refl;
  mode = tt;
}

-- the first walkers at their starts make up a sound world of their own
starters-numbers : (g : PartedRun) (n : ℕ) (f : ℕ → ℕ) → sum_by (of_walker (λ v. f v.number)) (starters g n) ≡ sum_below n f
unfolding starters sum_below
starters-numbers g zero f = refl
starters-numbers g (suc n) f =
    let w = of_walker (λ v. f v.number) in
    let k = g.owner (g.start n) in
    omega (
      arith,
      starters-numbers g n f,
      sum_by-cons w (Resident k (starter g n)) (Printed k (print_of (starter g n)) ∷ starters g n),
      sum_by-cons w (Printed k (print_of (starter g n))) (starters g n),
    )

starters-open : (g : PartedRun) (n : ℕ) (f : Ask → ℕ) → sum_by (of_open g.owner f) (starters g n) ≡ 0
unfolding starters
starters-open g zero f = refl
starters-open g (suc n) f =
    let w = of_open g.owner f in
    let k = g.owner (g.start n) in
    omega (
      arith,
      starters-open g n f,
      sum_by-cons w (Resident k (starter g n)) (Printed k (print_of (starter g n)) ∷ starters g n),
      sum_by-cons w (Printed k (print_of (starter g n))) (starters g n),
    )

starters-sent : (g : PartedRun) (n : ℕ) (f : Ask → ℕ) → sum_by (of_sent f) (starters g n) ≡ 0
unfolding starters
starters-sent g zero f = refl
starters-sent g (suc n) f =
    let w = of_sent f in
    let k = g.owner (g.start n) in
    omega (
      arith,
      starters-sent g n f,
      sum_by-cons w (Resident k (starter g n)) (Printed k (print_of (starter g n)) ∷ starters g n),
      sum_by-cons w (Printed k (print_of (starter g n))) (starters g n),
    )

starters-prints : (g : PartedRun) (n : ℕ) (f : ℕ → ℕ → ℕ)
    → sum_by (of_print f) (starters g n) ≡ sum_by (of_walker (steps_made f)) (starters g n)
unfolding starters sum_below
starters-prints g zero f = refl
starters-prints g (suc n) f =
    let p = of_print f in
    let w = of_walker (steps_made f) in
    let k = g.owner (g.start n) in
    omega (
      arith,
      starters-prints g n f,
      sum_by-cons p (Resident k (starter g n)) (Printed k (print_of (starter g n)) ∷ starters g n),
      sum_by-cons p (Printed k (print_of (starter g n))) (starters g n),
      sum_by-cons w (Resident k (starter g n)) (Printed k (print_of (starter g n)) ∷ starters g n),
      sum_by-cons w (Printed k (print_of (starter g n))) (starters g n),
    )

starters-true : (g : PartedRun) (n : ℕ) → n ≤ g.walkers → Each (IsTruePiece g) (starters g n)
unfolding starters
starters-true g zero h = tt
starters-true g (suc n) h =
    let here = starter-true g n (omega arith) in (
      (here, refl),
      (
        walk-entry 0 g.plan.length (journey_in g n).course (first_state (g.start n)) (omega arith) here.state,
        starters-true g n (omega arith),
      ),
    )

-- the world in which no walker has made a step is sound
pub begin-sound : (g : PartedRun) → IsSound g (begin_pieces g)
begin-sound g = record {
  numbers = starters-numbers g g.walkers;
  asks = λ f. starters-open g g.walkers f ∙ sym (starters-sent g g.walkers f);
  prints = starters-prints g g.walkers;
  pieces = starters-true g g.walkers (omega arith);
}

-- after every history from there the world is sound
pub history-sound : (g : PartedRun) (es : List Happening) (after : List Piece) → Unrolls g es (begin_pieces g) after
    → IsSound g after
history-sound g es after h = sound-unrolls g es (begin_pieces g) after h (begin-sound g)
