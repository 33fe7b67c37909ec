-- One event keeps every piece true.
use Rattle.std.proofs.Common.{◌≡◌, ℕ, zero, suc, ◌+◌, ◌-◌, ◌≤◌, Bool, true, false, List, [], ◌∷◌, drop, refl, ap, sym, ◌∙◌, arith, None, Some, subst}
use Rattle.std.specs.Prelude.{Option, option_map, slice_get, ◌==◌, if◌then◌else◌}
use Rattle.std.proofs.lemmas.Bool.{eqb-true}
use Rattle.std.proofs.lemmas.Option.{none-some, same_Some, option_and_then_some}
use Rattle.walk_model.specs.declared.messages.Ask.{Ask}
use Rattle.walk_model.specs.declared.messages.Question.{Question}
use Rattle.walk_model.specs.declared.states.State.{State}
use Rattle.walk_model.specs.Course.{Course}
use Rattle.walk_model.specs.Walk.{first_state, next_state, entries_after, walk}
use Rattle.walk_model.proofs.WalkLemmas.{entries_after-some}
use Rattle.traveller.specs.declared.modes.Mode.{Mode}
use Rattle.traveller.specs.declared.modes.Mode.TheVariants.{Fresh, Darts, Asked, AskedRow, Chosen, Over}
use Rattle.traveller.specs.PartedRuns.{PartedRun, journey_from, journey_in, state_after}
use Rattle.traveller.specs.Walkers.{Walker, question_of, ask_with, ask_of}
use Rattle.traveller.specs.Turns.{asker_at, board_at, stepped, advance}
use Rattle.traveller.specs.Replies.{found_in, near_by, heard_mode, hear}
use Rattle.traveller.specs.Ahead.{print_of}
use Rattle.world_law.specs.Items.{Travels}
use Rattle.world_law.specs.Truth.{next_within, IsTrueTo}
use Rattle.world_law.specs.Worlds.{Resident, Printed, Goes, Each}
use Rattle.world_law.specs.Events.{Event, Arrives, Turns, Enters, Answered, Hears, May, taken_by, given_by, stays_or_goes, turn_pieces, turn_gives}
use Rattle.world_law.specs.Soundness.{IsTruePiece}
use Rattle.world_law.proofs.TurnLemmas.{IsRest, TrueOutcome, makes, rests, advance-true_outcome}
use Rattle.world_law.proofs.TruthLemmas.{step-parts, step-steps, stepped-true, rests-true}
use Rattle.world_law.proofs.HearLemmas.{heard-mode}

-- the entries of a walk after so many steps
pub drop-entries : (n m most : ℕ) (c : Course) (s : State) → most ≡ n + m → state_after n c ≡ Some s
    → drop n (entries_after most c (first_state c.start)) ≡ entries_after m c s
unfolding state_after
drop-entries zero m most c s e h =
    let same : most ≡ m = omega arith in
    let first = same_Some (first_state c.start) s h in
    rw (same, first) refl
drop-entries (suc n) m most c s e h =
    option_and_then_some (next_state c) (state_after n c) s h
    (λ before h1 h2.
    let all : most ≡ n + suc m = omega arith in
    let earlier = drop-entries n (suc m) most c before all h1 in
    drop_more n (entries_after most c (first_state c.start)) s.at (entries_after m c s)
    (earlier ∙ entries_after-some (suc m) m c before s refl h2))
  where
    drop_more : (n : ℕ) (xs : List ℕ) (y : ℕ) (ys : List ℕ) → drop n xs ≡ y ∷ ys → drop (suc n) xs ≡ ys
    drop_more zero [] y ys e = absurd (cc)
    drop_more zero (x ∷ xs) y ys e = cc
    drop_more (suc n) [] y ys e = absurd (cc)
    drop_more (suc n) (x ∷ xs) y ys e = drop_more n xs y ys e

get_after : (n : ℕ) (xs : List ℕ) (y : ℕ) (ys : List ℕ) → drop n xs ≡ y ∷ ys → slice_get xs n ≡ Some y
get_after zero [] y ys e = absurd (cc)
get_after zero (x ∷ xs) y ys e = cc
get_after (suc n) [] y ys e = absurd (cc)
get_after (suc n) (x ∷ xs) y ys e = get_after n xs y ys e

-- the entry of a walk after so many steps is where its state stands
pub walk-entry : (n most : ℕ) (c : Course) (s : State) → n ≤ most → state_after n c ≡ Some s
    → slice_get (walk c most) n ≡ Some s.at
unfolding state_after
walk-entry zero most c s h e = ap (λ o. o) (ap (λ (t : State). Some t.at) (same_Some (first_state c.start) s e))
walk-entry (suc n) most c s h e =
    option_and_then_some (next_state c) (state_after n c) s e
    (λ before h1 h2.
    let all : most ≡ n + suc (most - suc n) = omega arith in
    let earlier = drop-entries n (suc (most - suc n)) most c before all h1 in
    get_after n (entries_after most c (first_state c.start)) s.at (entries_after (most - suc n) c s)
    (earlier ∙ entries_after-some (suc (most - suc n)) (most - suc n) c before s refl h2))

-- the print of a true walker is true
print-true : (g : PartedRun) (k : ℕ) (w : Walker) → IsTrueTo g w → IsTruePiece g (Printed k (print_of w))
print-true g k w h =
    let entry = walk-entry w.state.steps w.length (journey_from g w.number w.start).course w.state h.within h.state in
    subst (λ n. slice_get (walk (journey_in g w.number).course n) w.state.steps ≡ Some w.state.at) h.length
    (subst (λ start. slice_get (walk (journey_from g w.number start).course w.length) w.state.steps ≡ Some w.state.at) h.start entry)

-- a walker that makes a step stays with its part or goes on its way
stays_or_goes-true : (g : PartedRun) (k : ℕ) (v : Walker) (t : State) → IsTrueTo g v → g.owner v.state.at ≡ k
    → next_within (journey_from g v.number v.start) v.length v.state ≡ Some t
    → IsTruePiece g (stays_or_goes g k (stepped v (Some t)))
stays_or_goes-true g k v t h at e = by (k == g.owner t.at) refl
  where
    by : (b : Bool) → (k == g.owner t.at) ≡ b
        → IsTruePiece g (if b then Resident k (stepped v (Some t)) else Goes (Travels (stepped v (Some t)) k (g.owner t.at)))
    by true same = (stepped-true g v t h e, sym (eqb-true k (g.owner t.at) same))
    by false other = record {
      fresh = refl;
      holds = stepped-true g v t h e;
      came = record {
        before = v.state;
        steps = (let count = step-steps (journey_from g v.number v.start) v.length v.state t e in omega arith);
        reached = h.state;
        step = (step-parts (journey_from g v.number v.start) v.length v.state t e).1;
        left = at;
        comes = refl;
        other = other;
      };
    }

rest-true : (g : PartedRun) (k : ℕ) (w : Walker) (m : Mode) → IsRest m → IsTrueTo g w → g.owner w.state.at ≡ k
    → Each (IsTruePiece g) (turn_pieces g k w m)
rest-true g k w Fresh r h at = absurd r
rest-true g k w (Darts left place) r h at = absurd r
rest-true g k w (Chosen edge place) r h at = absurd r
rest-true g k w (Asked left place q) r h at = ((h, at), (refl, tt))
rest-true g k w (AskedRow place q) r h at = ((h, at), (refl, tt))
rest-true g k w Over r h at = ((h, at), tt)

turn-true : (g : PartedRun) (k : ℕ) (v w : Walker) → IsTrueTo g v → g.owner v.state.at ≡ k
    → TrueOutcome (journey_from g v.number v.start) v v.mode w → Each (IsTruePiece g) (turn_gives g k w)
turn-true g k v w h at (makes t e c l) =
    rw c (print-true g k (stepped v (Some t)) (stepped-true g v t h e), (stays_or_goes-true g k v t h at e, tt))
turn-true g k v w h at (rests m r p c l) =
    rw c (rest-true g k (record v { mode = m }) m r (rests-true g v m h p) at)

-- a true reply keeps a waiting walker true
pub hear-true : (g : PartedRun) (v : Walker) (q : Question) → IsTrueTo g v → question_of v.mode ≡ Some q
    → IsTrueTo g (hear g v (found_in g.edges q))
hear-true g v q h w =
    let j = journey_from g v.number v.start in
    let heard = heard-mode j v.length v.state v.mode q (asker_at j v.state) refl h.mode w in
    rests-true g v (heard_mode (asker_at j v.state) (board_at j v.state) j.course.words v.mode (near_by (found_in g.edges q))) h heard.passes

-- the question of the ask that a walker waits for
pub ask-question : (owner : ℕ → ℕ) (v : Walker) (ask : Ask) → ask_of owner v ≡ Some ask → question_of v.mode ≡ Some ask.question
ask-question owner v ask e = by (question_of v.mode) refl e
  where
    by : (o : Option Question) → question_of v.mode ≡ o → option_map (ask_with owner v) o ≡ Some ask → question_of v.mode ≡ Some ask.question
    by None h e = absurd (none-some ask e)
    by (Some q) h e = h ∙ ap (λ (a : Ask). Some a.question) (same_Some (ask_with owner v q) ask e)

-- an event leaves true pieces where it takes true ones
pub event-true : (g : PartedRun) (k : ℕ) (e : Event) → May g k e → Each (IsTruePiece g) (taken_by k e)
    → Each (IsTruePiece g) (given_by g k e)
event-true g k (Arrives i) may h = ((h.0, may), tt)
event-true g k (Turns v) may h =
    turn-true g k v (advance g v) h.0.0 h.0.1 (advance-true_outcome g v may.0 h.0.0)
event-true g k (Enters v from to) may h = ((h.0.0.holds, h.0.0.came.comes ∙ h.0.1), tt)
event-true g k (Answered ask to) may h = ((may, refl), tt)
event-true g k (Hears v reply from) may h =
    let asked = ask-question g.owner v reply.ask may.1 in
    let kept = hear-true g v reply.ask.question h.0.0 asked in
    let found = h.1.0.0.1 in
    ((rw found kept, h.0.1), tt)
