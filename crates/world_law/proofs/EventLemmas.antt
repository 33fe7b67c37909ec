-- What one event does to each of the sums that a sound world keeps.
use Rattle.std.proofs.Common.{◌≡◌, ℕ, suc, ◌+◌, Bool, true, false, [], ◌∷◌, refl, ap, sym, ◌∙◌, arith, None, Some}
use Rattle.std.specs.Prelude.{option_map, sum_by, ◌==◌, if◌then◌else◌}
use Rattle.std.proofs.lemmas.Bool.{false≢true}
use Rattle.std.proofs.lemmas.List.Sums.{sum_by-cons}
use Rattle.walk_model.specs.declared.messages.Ask.{Ask}
use Rattle.walk_model.specs.declared.states.State.{State}
use Rattle.walk_model.specs.Counts.{sum_below}
use Rattle.walk_model.specs.declared.messages.Found.{Found}
use Rattle.walk_model.specs.declared.messages.Question.{Question}
use Rattle.traveller.specs.declared.modes.Mode.{Mode}
use Rattle.traveller.specs.declared.modes.Mode.TheVariants.{Fresh, Darts, Asked, AskedRow, Chosen, Over}
use Rattle.traveller.specs.PartedRuns.{PartedRun, journey_from}
use Rattle.traveller.specs.Walkers.{Walker, question_of, asked_vertex, is_ready, ask_with}
use Rattle.traveller.specs.Turns.{asker_at, stepped, advance}
use Rattle.traveller.specs.Replies.{found_in, hear}
use Rattle.traveller.specs.Ahead.{print_of}
use Rattle.world_law.specs.Items.{Travels, Asks, Replies}
use Rattle.world_law.specs.Truth.{IsTrueTo}
use Rattle.world_law.specs.Worlds.{Piece, Resident, Aside, Printed, Goes, Each}
use Rattle.world_law.specs.Events.{Event, Arrives, Turns, Enters, Answered, Hears, May, taken_by, given_by, stays_or_goes, turn_pieces, turn_gives}
use Rattle.world_law.specs.Soundness.{of_walker, ask_weight, of_open, of_sent, of_print, steps_made, IsTruePiece}
use Rattle.world_law.proofs.TurnLemmas.{Outcome, makes, rests, IsRest, advance-outcome}
use Rattle.world_law.proofs.HearLemmas.{heard-mode}
use Rattle.world_law.proofs.SoundLemmas.{ask-question}

-- sums of one and of two pieces
pub sum_one : (h : Piece → ℕ) (p : Piece) → sum_by h (p ∷ []) ≡ h p
sum_one h p = omega (arith, sum_by-cons h p [])

pub sum_two : (h : Piece → ℕ) (p q : Piece) → sum_by h (p ∷ q ∷ []) ≡ h p + h q
sum_two h p q = omega (arith, sum_by-cons h p (q ∷ []), sum_by-cons h q [])

walker-stays_or_goes : (g : PartedRun) (k : ℕ) (w : Walker) (h : Walker → ℕ) → of_walker h (stays_or_goes g k w) ≡ h w
walker-stays_or_goes g k w h = by (k == g.owner w.state.at)
  where
    by : (b : Bool) → of_walker h (if b then Resident k w else Goes (Travels w k (g.owner w.state.at))) ≡ h w
    by true = refl
    by false = refl

-- a turn leaves the walker once
pub turn-walkers : (g : PartedRun) (k : ℕ) (w : Walker) (m : Mode) (h : Walker → ℕ)
    → sum_by (of_walker h) (turn_pieces g k w m) ≡ h w
turn-walkers g k w Fresh h = omega (arith, sum_two (of_walker h) (Printed k (print_of w)) (stays_or_goes g k w), walker-stays_or_goes g k w h)
turn-walkers g k w (Asked left place q) h = omega (arith, sum_two (of_walker h) (Resident k w) (Goes (Asks (ask_with g.owner w q) (g.owner (asked_vertex q)))))
turn-walkers g k w (AskedRow place q) h = omega (arith, sum_two (of_walker h) (Resident k w) (Goes (Asks (ask_with g.owner w q) (g.owner (asked_vertex q)))))
turn-walkers g k w (Darts left place) h = sum_one (of_walker h) (Resident k w)
turn-walkers g k w (Chosen edge place) h = sum_one (of_walker h) (Resident k w)
turn-walkers g k w Over h = sum_one (of_walker h) (Resident k w)

outcome-number : (v w : Walker) → Outcome v w → w.number ≡ v.number
outcome-number v w (makes t c e) = ap (λ (u : Walker). u.number) e
outcome-number v w (rests m r e) = ap (λ (u : Walker). u.number) e

-- no event changes which numbers walk
pub event-numbers : (g : PartedRun) (k : ℕ) (e : Event) (f : ℕ → ℕ) → May g k e
    → sum_by (of_walker (λ v. f v.number)) (given_by g k e) ≡ sum_by (of_walker (λ v. f v.number)) (taken_by k e)
event-numbers g k (Arrives i) f may = refl
event-numbers g k (Turns v) f may =
    let w = advance g v in
    let same = ap f (outcome-number v w (advance-outcome g v may.0)) in
    turn-walkers g k w w.mode (λ u. f u.number) ∙ same ∙ sym (sum_one (of_walker (λ u. f u.number)) (Resident k v))
event-numbers g k (Enters v from to) f may = refl
event-numbers g k (Answered ask to) f may = refl
event-numbers g k (Hears v reply from) f may =
    let h = of_walker (λ u. f u.number) in
    sum_one h (Resident k (hear g v reply.found)) ∙ omega (arith, sum_two h (Resident k v) (Aside k (Replies reply from)))

-- who is ready waits for nothing
ready-open : (owner : ℕ → ℕ) (v : Walker) (m : Mode) (f : Ask → ℕ) → is_ready m ≡ true
    → ask_weight f (option_map (ask_with owner v) (question_of m)) ≡ 0
ready-open owner v Fresh f h = refl
ready-open owner v (Darts left place) f h = refl
ready-open owner v (Chosen edge place) f h = refl
ready-open owner v (Asked left place q) f h = absurd (false≢true h)
ready-open owner v (AskedRow place q) f h = absurd (false≢true h)
ready-open owner v Over f h = absurd (false≢true h)

fresh-stays_or_goes : (g : PartedRun) (k : ℕ) (w : Walker) (f : Ask → ℕ) → w.mode ≡ Fresh
    → of_open g.owner f (stays_or_goes g k w) ≡ of_sent f (stays_or_goes g k w)
fresh-stays_or_goes g k w f e = by (k == g.owner w.state.at)
  where
    by : (b : Bool) → of_open g.owner f (if b then Resident k w else Goes (Travels w k (g.owner w.state.at)))
        ≡ of_sent f (if b then Resident k w else Goes (Travels w k (g.owner w.state.at)))
    by true = ap (λ m. ask_weight f (option_map (ask_with g.owner w) (question_of m))) e
    by false = refl

-- a turn leaves as many that wait as asks
turn-asks : (g : PartedRun) (k : ℕ) (w : Walker) (m : Mode) (f : Ask → ℕ) → w.mode ≡ m
    → sum_by (of_open g.owner f) (turn_pieces g k w m) ≡ sum_by (of_sent f) (turn_pieces g k w m)
turn-asks g k w Fresh f e =
    omega (arith, sum_two (of_open g.owner f) (Printed k (print_of w)) (stays_or_goes g k w), sum_two (of_sent f) (Printed k (print_of w)) (stays_or_goes g k w), fresh-stays_or_goes g k w f e)
turn-asks g k w (Asked left place q) f e =
    let same = ap (λ m. ask_weight f (option_map (ask_with g.owner w) (question_of m))) e in
    omega (arith, sum_two (of_open g.owner f) (Resident k w) (Goes (Asks (ask_with g.owner w q) (g.owner (asked_vertex q)))), sum_two (of_sent f) (Resident k w) (Goes (Asks (ask_with g.owner w q) (g.owner (asked_vertex q)))))
turn-asks g k w (AskedRow place q) f e =
    let same = ap (λ m. ask_weight f (option_map (ask_with g.owner w) (question_of m))) e in
    omega (arith, sum_two (of_open g.owner f) (Resident k w) (Goes (Asks (ask_with g.owner w q) (g.owner (asked_vertex q)))), sum_two (of_sent f) (Resident k w) (Goes (Asks (ask_with g.owner w q) (g.owner (asked_vertex q)))))
turn-asks g k w (Darts left place) f e =
    sum_one (of_open g.owner f) (Resident k w) ∙ ap (λ m. ask_weight f (option_map (ask_with g.owner w) (question_of m))) e
    ∙ sym (sum_one (of_sent f) (Resident k w))
turn-asks g k w (Chosen edge place) f e =
    sum_one (of_open g.owner f) (Resident k w) ∙ ap (λ m. ask_weight f (option_map (ask_with g.owner w) (question_of m))) e
    ∙ sym (sum_one (of_sent f) (Resident k w))
turn-asks g k w Over f e =
    sum_one (of_open g.owner f) (Resident k w) ∙ ap (λ m. ask_weight f (option_map (ask_with g.owner w) (question_of m))) e
    ∙ sym (sum_one (of_sent f) (Resident k w))

-- a true walker that has heard a true reply waits no more
heard-open : (g : PartedRun) (v : Walker) (q : Question) (answer : Found) → IsTrueTo g v → question_of v.mode ≡ Some q
    → answer ≡ found_in g.edges q → question_of (hear g v answer).mode ≡ None
heard-open g v q answer h waits found =
    let j = journey_from g v.number v.start in
    let heard = heard-mode j v.length v.state v.mode q (asker_at j v.state) refl h.mode waits in
    rw found heard.free

-- no event of true pieces changes how many more wait with an ask than there are asks and replies
pub event-asks : (g : PartedRun) (k : ℕ) (e : Event) (f : Ask → ℕ) → May g k e → Each (IsTruePiece g) (taken_by k e)
    → sum_by (of_open g.owner f) (given_by g k e) + sum_by (of_sent f) (taken_by k e)
    ≡ sum_by (of_open g.owner f) (taken_by k e) + sum_by (of_sent f) (given_by g k e)
event-asks g k (Arrives i) f may holds = refl
event-asks g k (Turns v) f may holds =
    let w = advance g v in
    let none = ready-open g.owner v v.mode f may.0 in
    omega (arith, turn-asks g k w w.mode f refl, sum_one (of_open g.owner f) (Resident k v), sum_one (of_sent f) (Resident k v))
event-asks g k (Enters v from to) f may holds =
    let none = ap (λ m. ask_weight f (option_map (ask_with g.owner v) (question_of m))) may in
    omega (
      arith,
      sum_one (of_open g.owner f) (Resident k v),
      sum_one (of_sent f) (Resident k v),
      sum_one (of_open g.owner f) (Aside k (Travels v from to)),
      sum_one (of_sent f) (Aside k (Travels v from to)),
    )
event-asks g k (Answered ask to) f may holds = refl
event-asks g k (Hears v reply from) f may holds =
    let w = hear g v reply.found in
    let waits = ask-question g.owner v reply.ask may.1 in
    let none = ap (λ o. ask_weight f (option_map (ask_with g.owner w) o))
    (heard-open g v reply.ask.question reply.found holds.0.0 waits holds.1.0.0.1) in
    let same = ap (ask_weight f) may.1 in
    omega (
      arith,
      sum_one (of_open g.owner f) (Resident k w),
      sum_one (of_sent f) (Resident k w),
      sum_two (of_open g.owner f) (Resident k v) (Aside k (Replies reply from)),
      sum_two (of_sent f) (Resident k v) (Aside k (Replies reply from)),
    )

no_print : (g : PartedRun) (k : ℕ) (w : Walker) (m : Mode) (f : ℕ → ℕ → ℕ) → IsRest m
    → sum_by (of_print f) (turn_pieces g k w m) ≡ 0
no_print g k w Fresh f r = absurd r
no_print g k w (Darts left place) f r = absurd r
no_print g k w (Chosen edge place) f r = absurd r
no_print g k w (Asked left place q) f r = omega (arith, sum_two (of_print f) (Resident k w) (Goes (Asks (ask_with g.owner w q) (g.owner (asked_vertex q)))))
no_print g k w (AskedRow place q) f r = omega (arith, sum_two (of_print f) (Resident k w) (Goes (Asks (ask_with g.owner w q) (g.owner (asked_vertex q)))))
no_print g k w Over f r = sum_one (of_print f) (Resident k w)

print-stays_or_goes : (g : PartedRun) (k : ℕ) (w : Walker) (f : ℕ → ℕ → ℕ) → of_print f (stays_or_goes g k w) ≡ 0
print-stays_or_goes g k w f = by (k == g.owner w.state.at)
  where
    by : (b : Bool) → of_print f (if b then Resident k w else Goes (Travels w k (g.owner w.state.at))) ≡ 0
    by true = refl
    by false = refl

steps_made-more : (f : ℕ → ℕ → ℕ) (v : Walker) (t : State) → t.steps ≡ v.state.steps + 1
    → steps_made f (stepped v (Some t)) ≡ steps_made f v + f v.number t.steps
unfolding sum_below
steps_made-more f v t e =
    let next : t.steps ≡ suc v.state.steps = omega arith in
    ap (λ n. sum_below n (f v.number) + f v.number t.steps) next

-- a turn leaves one print where it makes a step, and none elsewhere
turn-prints : (g : PartedRun) (k : ℕ) (v w : Walker) (f : ℕ → ℕ → ℕ) → Outcome v w
    → sum_by (of_print f) (turn_gives g k w) + steps_made f v ≡ steps_made f w
turn-prints g k v w f (makes t c e) =
    rw e
    (let u = stepped v (Some t) in
    omega (arith, sum_two (of_print f) (Printed k (print_of u)) (stays_or_goes g k u), print-stays_or_goes g k u f, steps_made-more f v t c))
turn-prints g k v w f (rests m r e) =
    rw e (omega (arith, no_print g k (record v { mode = m }) m f r))

-- no event changes how many more prints of a step there are than walkers that have made it
pub event-prints : (g : PartedRun) (k : ℕ) (e : Event) (f : ℕ → ℕ → ℕ) → May g k e
    → sum_by (of_print f) (given_by g k e) + sum_by (of_walker (steps_made f)) (taken_by k e)
    ≡ sum_by (of_print f) (taken_by k e) + sum_by (of_walker (steps_made f)) (given_by g k e)
event-prints g k (Arrives i) f may = refl
event-prints g k (Turns v) f may =
    let w = advance g v in
    let h = of_walker (steps_made f) in
    omega (
      arith,
      turn-prints g k v w f (advance-outcome g v may.0),
      turn-walkers g k w w.mode (steps_made f),
      sum_one h (Resident k v),
      sum_one (of_print f) (Resident k v),
    )
event-prints g k (Enters v from to) f may = refl
event-prints g k (Answered ask to) f may = refl
event-prints g k (Hears v reply from) f may =
    let w = hear g v reply.found in
    let h = of_walker (steps_made f) in
    omega (
      arith,
      sum_one h (Resident k w),
      sum_one (of_print f) (Resident k w),
      sum_two h (Resident k v) (Aside k (Replies reply from)),
      sum_two (of_print f) (Resident k v) (Aside k (Replies reply from)),
    )
