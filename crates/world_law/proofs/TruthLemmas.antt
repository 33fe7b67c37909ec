-- A true walker stays true as it makes a step or comes to rest, and its letters go on.
use Rattle.std.proofs.Common.{◌≡◌, ℕ, zero, suc, ◌+◌, ◌-◌, Bool, true, false, refl, ap, ◌∙◌, arith, None, Some}
use Rattle.std.specs.Prelude.{option_and_then, nat_lt, if◌then◌else◌}
use Rattle.std.proofs.lemmas.Bool.{ltb-true, lt-ltb, le-ltb}
use Rattle.std.proofs.lemmas.Option.{none-some}
use Rattle.walk_model.specs.declared.states.State.{State}
use Rattle.walk_model.specs.Walk.{next_state}
use Rattle.walk_model.specs.Letters.{Journey, letters_after}
use Rattle.traveller.specs.declared.modes.Mode.{Mode}
use Rattle.traveller.specs.declared.modes.Mode.TheVariants.{Fresh}
use Rattle.traveller.specs.PartedRuns.{PartedRun, journey_from, state_after}
use Rattle.traveller.specs.Walkers.{Walker}
use Rattle.traveller.specs.Turns.{stepped}
use Rattle.world_law.specs.Truth.{next_within, Passes, IsTrueTo}
use Rattle.world_law.specs.LettersLeft.{letters_within, letters_from}
use Rattle.world_law.proofs.DartLemmas.{next_state-steps, steps_of_some}

-- a step is made before the walk's length is reached, and leads to the next state
pub step-parts : (j : Journey) (most : ℕ) (s t : State) → next_within j most s ≡ Some t
    → (nat_lt s.steps most ≡ true) × (next_state j.course s ≡ Some t)
step-parts j most s t e = by (nat_lt s.steps most) refl e
  where
    by : (b : Bool) → nat_lt s.steps most ≡ b → (if b then next_state j.course s else None) ≡ Some t
        → (nat_lt s.steps most ≡ true) × (next_state j.course s ≡ Some t)
    by true h e = (h, e)
    by false h e = absurd (none-some t e)

pub step-steps : (j : Journey) (most : ℕ) (s t : State) → next_within j most s ≡ Some t → t.steps ≡ s.steps + 1
step-steps j most s t e =
    steps_of_some (s.steps + 1) (next_state j.course s) t (next_state-steps j.course s) (step-parts j most s t e).1

-- the state after one step more
pub state_after-step : (j : Journey) (most : ℕ) (s t : State) → state_after s.steps j.course ≡ Some s
    → next_within j most s ≡ Some t → state_after t.steps j.course ≡ Some t
unfolding state_after
state_after-step j most s t h e =
    let count = step-steps j most s t e in
    let next : t.steps ≡ suc s.steps = omega arith in
    ap (λ n. state_after n j.course) next ∙ ap (option_and_then (next_state j.course)) h ∙ (step-parts j most s t e).1

-- a true walker that makes its step is true
pub stepped-true : (g : PartedRun) (v : Walker) (t : State) → IsTrueTo g v
    → next_within (journey_from g v.number v.start) v.length v.state ≡ Some t → IsTrueTo g (stepped v (Some t))
stepped-true g v t h e =
    let j = journey_from g v.number v.start in
    let count = step-steps j v.length v.state t e in
    let before = ltb-true v.state.steps v.length (step-parts j v.length v.state t e).0 in
    record {
      number = h.number;
      start = h.start;
      length = h.length;
      within = omega arith;
      state = state_after-step j v.length v.state t h.state e;
      mode = tt;
    }

-- a true walker that comes to a mode that the step passes is true
pub rests-true : (g : PartedRun) (v : Walker) (m : Mode) → IsTrueTo g v
    → Passes (journey_from g v.number v.start) v.length v.state m → IsTrueTo g (record v { mode = m })
rests-true g v m h p = record {
  number = h.number;
  start = h.start;
  length = h.length;
  within = h.within;
  state = h.state;
  mode = p;
}

-- the letters at the beginning of a step are those of the walk from its state on
pub letters_within-fresh : (n : ℕ) (j : Journey) (most : ℕ) (s : State) → n ≡ most - s.steps
    → letters_within j most s Fresh ≡ letters_after n j s
unfolding letters_after
letters_within-fresh zero j most s e =
    let past : nat_lt s.steps most ≡ false = le-ltb s.steps most (omega arith) in rw past refl
letters_within-fresh (suc n) j most s e =
    let going : nat_lt s.steps most ≡ true = lt-ltb s.steps most (omega arith) in
    let rest : most - suc s.steps ≡ n = omega arith in
    rw (going, rest) refl

pub letters_from-stepped : (g : PartedRun) (v : Walker) (t : State) → t.steps ≡ v.state.steps + 1
    → letters_from g (stepped v (Some t))
    ≡ letters_after (v.length - suc v.state.steps) (journey_from g v.number v.start) t
unfolding letters_from
letters_from-stepped g v t e =
    letters_within-fresh (v.length - suc v.state.steps) (journey_from g v.number v.start) v.length t (omega arith)
