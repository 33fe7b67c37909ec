-- What a turn comes to.
use Rattle.std.proofs.Common.{◌≡◌, ℕ, suc, ◌+◌, ◌-◌, Bool, true, false, List, [], ◌++◌, length, refl, ap, ◌∙◌, arith, None, Some}
use Rattle.std.proofs.lemmas.Bool.{false≢true}
use Rattle.std.specs.Prelude.{Option, option_and_then, ◌==◌, ◌||◌, nat_lt, if◌then◌else◌}
use Rattle.walk_model.specs.declared.programme.Rule.{Rule}
use Rattle.walk_model.specs.declared.programme.Rule.TheVariants.{Plain, Scheme, Node2vec}
use Rattle.walk_model.specs.declared.messages.Letter.{Letter}
use Rattle.walk_model.specs.declared.states.State.{State}
use Rattle.walk_model.specs.Course.{Course}
use Rattle.walk_model.specs.Dart.{Board, darts}
use Rattle.walk_model.specs.Walk.{moved_along, next_state, chosen, restarted}
use Rattle.walk_model.specs.Letters.{Journey, Asker, asker, dart_letters, choice_letters, ask_letters, letters_then, letters_after}
use Rattle.traveller.specs.declared.modes.Mode.{Mode}
use Rattle.traveller.specs.declared.modes.Mode.TheVariants.{Fresh, Darts, Asked, AskedRow, Chosen, Over}
use Rattle.traveller.specs.PartedRuns.{PartedRun, journey_from}
use Rattle.traveller.specs.Walkers.{Walker, is_ready}
use Rattle.traveller.specs.Turns.{stop_coin, restart_coin, row_at, board_at, asker_by, asker_at, choice_mode, throws, stepped, goes, begun, turned, advance}
use Rattle.world_law.specs.Truth.{next_within, Chooses, Came, Decided, Passes, IsTrueTo}
use Rattle.world_law.specs.LettersLeft.{throw_letters, letters_within}
use Rattle.world_law.proofs.DartLemmas.{steps_or, moved_along-steps}
use Rattle.world_law.proofs.ThrowLemmas.{mode_pair, IsForward, Reaches, next_within-chooses, throws-passes, throws-forward, throws-letters, reaches-throws}

-- a mode in which a walker rests after a turn
abbrev pub IsRest : Mode → Type 0
IsRest Fresh = ⊥
IsRest (Darts left place) = ⊥
IsRest (Chosen edge place) = ⊥
IsRest _ = Unit {0}

-- what a turn comes to: a step, or a mode in which the walker rests
pub data Outcome (v w : Walker) : Type 0 where
  makes : (t : State) → t.steps ≡ v.state.steps + 1 → w ≡ stepped v (Some t) → Outcome v w
  rests : (m : Mode) → IsRest m → w ≡ record v { mode = m } → Outcome v w

stepped-outcome : (v : Walker) (o : Option State) → steps_or (v.state.steps + 1) o ≡ v.state.steps + 1
    → Outcome v (stepped v o)
stepped-outcome v None h = rests Over tt refl
stepped-outcome v (Some t) h = makes t h refl

goes-outcome : (j : Journey) (v : Walker) (m : Mode) → IsForward m → Outcome v (goes j v m)
goes-outcome j v Fresh h = absurd h
goes-outcome j v (Darts left place) h = absurd h
goes-outcome j v (Asked left place q) h = rests (Asked left place q) tt refl
goes-outcome j v (AskedRow place q) h = rests (AskedRow place q) tt refl
goes-outcome j v (Chosen edge place) h =
    stepped-outcome v (moved_along v.state (row_at j v.state) (edge, place)) (moved_along-steps v.state (row_at j v.state) (edge, place))
goes-outcome j v Over h = rests Over tt refl

if_outcome : (b : Bool) (v w x : Walker) → Outcome v w → Outcome v x → Outcome v (if b then w else x)
if_outcome true v w x p q = p
if_outcome false v w x p q = q

if_forward : (b : Bool) (m n : Mode) → IsForward m → IsForward n → IsForward (if b then m else n)
if_forward true m n p q = p
if_forward false m n p q = q

pub choice-forward : (j : Journey) (s : State) (place : ℕ) → IsForward (choice_mode j s place)
choice-forward j s place =
    if_forward (length (row_at j s) == 0) Over _ tt
    (throws-forward j.course.plan.retries (asker_at j s) (board_at j s) j.course.words place)

begun-outcome : (j : Journey) (v : Walker) → Outcome v (begun j v)
unfolding begun
begun-outcome j v =
    if_outcome (nat_lt v.state.steps v.length) v _ _
    (if_outcome (stop_coin j v.state).0 v _ _ (rests Over tt refl)
    (if_outcome (restart_coin j v.state).0 v _ _
    (makes (restarted j.course.start v.state (restart_coin j v.state).1) refl refl)
    (goes-outcome j v (choice_mode j v.state (restart_coin j v.state).1) (choice-forward j v.state (restart_coin j v.state).1))))
    (rests Over tt refl)

-- whatever its data, a walker that is ready makes a step or comes to rest
pub turned-outcome : (j : Journey) (v : Walker) (m : Mode) → is_ready m ≡ true → Outcome v (turned j v m)
turned-outcome j v Fresh h = begun-outcome j v
turned-outcome j v (Darts left place) h =
    goes-outcome j v _ (throws-forward left (asker_at j v.state) (board_at j v.state) j.course.words place)
turned-outcome j v (Chosen edge place) h = goes-outcome j v (Chosen edge place) tt
turned-outcome j v (Asked left place q) h = absurd (false≢true h)
turned-outcome j v (AskedRow place q) h = absurd (false≢true h)
turned-outcome j v Over h = absurd (false≢true h)

pub advance-outcome : (g : PartedRun) (v : Walker) → is_ready v.mode ≡ true → Outcome v (advance g v)
advance-outcome g v h = turned-outcome (journey_from g v.number v.start) v v.mode h

-- the same of a walker that is true, with what its walk passes and the letters between
pub data TrueOutcome (j : Journey) (v : Walker) (from : Mode) (w : Walker) : Type 0 where
  makes : (t : State) → next_within j v.length v.state ≡ Some t → w ≡ stepped v (Some t)
      → letters_within j v.length v.state from ≡ letters_then j v.state (Some t) (letters_after (v.length - suc v.state.steps) j)
      → TrueOutcome j v from w
  rests : (m : Mode) → IsRest m → Passes j v.length v.state m → w ≡ record v { mode = m }
      → letters_within j v.length v.state from
      ≡ mode_pair j.course.edges (asker_at j v.state) m ++ letters_within j v.length v.state m
      → TrueOutcome j v from w

stepped-true_outcome : (j : Journey) (v : Walker) (from : Mode) (o : Option State) → next_within j v.length v.state ≡ o
    → letters_within j v.length v.state from ≡ letters_then j v.state o (letters_after (v.length - suc v.state.steps) j)
    → TrueOutcome j v from (stepped v o)
stepped-true_outcome j v from None e l = rests Over tt e refl l
stepped-true_outcome j v from (Some t) e l = makes t e refl l

goes-true_outcome : (j : Journey) (v : Walker) (from m : Mode) → Reaches j v.length v.state from m
    → TrueOutcome j v from (goes j v m)
goes-true_outcome j v from Fresh h = absurd h.forward
goes-true_outcome j v from (Darts left place) h = absurd h.forward
goes-true_outcome j v from (Asked left place q) h = rests (Asked left place q) tt h.passes refl h.letters
goes-true_outcome j v from (AskedRow place q) h = rests (AskedRow place q) tt h.passes refl h.letters
goes-true_outcome j v from (Chosen edge place) h =
    stepped-true_outcome j v from (moved_along v.state (row_at j v.state) (edge, place))
    (next_within-chooses j v.length v.state h.passes.chooses
    ∙ ap (option_and_then (moved_along v.state (row_at j v.state))) h.passes.taken)
    h.letters
goes-true_outcome j v from Over h = rests Over tt h.passes refl h.letters

-- the letters of a choice are those of its darts
pub choice_letters-by : (j : Journey) (s : State) (place : ℕ) (rule : Rule) (previous : Option ℕ)
    → (length (row_at j s) == 0) ≡ false
    → choice_letters j s place rule previous
    ≡ throw_letters j.course.plan.retries j.course (asker_by j s rule previous) (board_at j s) place
unfolding choice_letters
choice_letters-by j s place Plain previous h = refl
choice_letters-by j s place (Scheme kinds) previous h = refl
choice_letters-by j s place (Node2vec p q) None h = refl
choice_letters-by j s place (Node2vec p q) (Some t) h =
    rw h (by_owner (j.owner t == j.owner s.at) j.course.plan.retries j.course (asker j s t p q) (board_at j s) place)
  where
    by_owner : (same : Bool) (left : ℕ) (c : Course) (a : Asker) (b : Board) (place : ℕ)
        → (if same || false then [] else dart_letters left c a b place)
        ≡ throw_letters left c (if same then None else Some a) b place
    by_owner true left c a b place = refl
    by_owner false left c a b place = refl

-- where a row is empty there are no letters
choice_letters-none : (j : Journey) (s : State) (place : ℕ) (rule : Rule) (previous : Option ℕ)
    → (length (row_at j s) == 0) ≡ true → choice_letters j s place rule previous ≡ []
unfolding choice_letters
choice_letters-none j s place Plain previous h = refl
choice_letters-none j s place (Scheme kinds) previous h = refl
choice_letters-none j s place (Node2vec p q) None h = refl
choice_letters-none j s place (Node2vec p q) (Some t) h = rw h (by_owner (j.owner t == j.owner s.at) _)
  where
    by_owner : (same : Bool) (l : List Letter) → (if same || true then [] else l) ≡ []
    by_owner true l = refl
    by_owner false l = refl

-- the letters of a step where no coin falls
pub ask_letters-choice : (j : Journey) (s : State) → (stop_coin j s).0 ≡ false → (restart_coin j s).0 ≡ false
    → ask_letters j s ≡ choice_letters j s (restart_coin j s).1 j.course.plan.rule s.previous
unfolding ask_letters
ask_letters-choice j s h1 h2 = rw (h1, h2) refl

-- the choice of a step where no coin falls
reaches-choice : (j : Journey) (most : ℕ) (s : State) (none : Bool) → nat_lt s.steps most ≡ true
    → (stop_coin j s).0 ≡ false → (restart_coin j s).0 ≡ false → (length (row_at j s) == 0) ≡ none
    → Reaches j most s Fresh (if none then Over else throws j.course.plan.retries (asker_at j s) (board_at j s) j.course.words (restart_coin j s).1)
unfolding next_state chosen
reaches-choice j most s true h1 h2 h3 h4 =
    let ends : next_within j most s ≡ None = rw (h1, h2, h3, h4) refl in
    let silent = ask_letters-choice j s h2 h3
    ∙ choice_letters-none j s (restart_coin j s).1 j.course.plan.rule s.previous h4 in
    record {
      passes = ends;
      forward = tt;
      letters = ap (λ o. (if nat_lt s.steps most then ask_letters j s else []) ++ letters_then j s o (letters_after (most - suc s.steps) j)) ends
          ∙ rw h1 (ap (λ l. l ++ []) silent);
    }
reaches-choice j most s false h1 h2 h3 h4 =
    let m = throws j.course.plan.retries (asker_at j s) (board_at j s) j.course.words (restart_coin j s).1 in
    let chooses : Chooses j most s = record { going = h1; stays = h2; onward = h3; some = h4 } in
    let came : Came j most s j.course.plan.retries (restart_coin j s).1 = record {
      chooses = chooses;
      thrown = 0;
      all = omega arith;
      place = omega arith;
      vain = λ i h. absurd (omega arith);
    } in
    let asks = ask_letters-choice j s h2 h3
    ∙ choice_letters-by j s (restart_coin j s).1 j.course.plan.rule s.previous h4 in
    record {
      passes = throws-passes j.course.plan.retries j most s (restart_coin j s).1 came;
      forward = throws-forward j.course.plan.retries (asker_at j s) (board_at j s) j.course.words (restart_coin j s).1;
      letters = ap (λ o. (if nat_lt s.steps most then ask_letters j s else []) ++ letters_then j s o (letters_after (most - suc s.steps) j)) (next_within-chooses j most s chooses)
          ∙ ap (λ b. (if b then ask_letters j s else []) ++ letters_then j s (option_and_then (moved_along s (row_at j s)) (darts j.course.plan.retries (board_at j s) j.course.words (restart_coin j s).1)) (letters_after (most - suc s.steps) j)) h1
          ∙ ap (λ l. l ++ letters_then j s (option_and_then (moved_along s (row_at j s)) (darts j.course.plan.retries (board_at j s) j.course.words (restart_coin j s).1)) (letters_after (most - suc s.steps) j)) asks
          ∙ throws-letters j.course.plan.retries j most s (restart_coin j s).1;
    }

begun-cases : (j : Journey) (v : Walker) (going stop restart : Bool) → nat_lt v.state.steps v.length ≡ going
    → (stop_coin j v.state).0 ≡ stop → (restart_coin j v.state).0 ≡ restart
    → TrueOutcome j v Fresh
    (if going then (
    if stop then record v { mode = Over }
    else (if restart then stepped v (Some (restarted j.course.start v.state (restart_coin j v.state).1))
    else goes j v (choice_mode j v.state (restart_coin j v.state).1)))
    else record v { mode = Over })
unfolding next_state ask_letters
begun-cases j v false stop restart h1 h2 h3 = rests Over tt (rw h1 refl) refl (rw h1 refl)
begun-cases j v true true restart h1 h2 h3 = rests Over tt (rw (h1, h2) refl) refl (rw (h1, h2) refl)
begun-cases j v true false true h1 h2 h3 =
    makes (restarted j.course.start v.state (restart_coin j v.state).1) (rw (h1, h2, h3) refl) refl (rw (h1, h2, h3) refl)
begun-cases j v true false false h1 h2 h3 =
    goes-true_outcome j v Fresh (choice_mode j v.state (restart_coin j v.state).1)
    (reaches-choice j v.length v.state (length (row_at j v.state) == 0) h1 h2 h3 refl)

begun-true_outcome : (j : Journey) (v : Walker) → TrueOutcome j v Fresh (begun j v)
unfolding begun
begun-true_outcome j v =
    begun-cases j v (nat_lt v.state.steps v.length) (stop_coin j v.state).0 (restart_coin j v.state).0 refl refl refl

reaches-chosen : (j : Journey) (most : ℕ) (s : State) (edge place : ℕ) → Decided j most s edge place
    → Reaches j most s (Chosen edge place) (Chosen edge place)
reaches-chosen j most s edge place h = record { passes = h; forward = tt; letters = refl }

turned-true_outcome : (j : Journey) (v : Walker) (m : Mode) → is_ready m ≡ true → Passes j v.length v.state m
    → TrueOutcome j v m (turned j v m)
turned-true_outcome j v Fresh h p = begun-true_outcome j v
turned-true_outcome j v (Darts left place) h p =
    goes-true_outcome j v (Darts left place) _ (reaches-throws left j v.length v.state place p)
turned-true_outcome j v (Chosen edge place) h p =
    goes-true_outcome j v (Chosen edge place) (Chosen edge place) (reaches-chosen j v.length v.state edge place p)
turned-true_outcome j v (Asked left place q) h p = absurd (false≢true h)
turned-true_outcome j v (AskedRow place q) h p = absurd (false≢true h)
turned-true_outcome j v Over h p = absurd (false≢true h)

pub advance-true_outcome : (g : PartedRun) (v : Walker) → is_ready v.mode ≡ true → IsTrueTo g v
    → TrueOutcome (journey_from g v.number v.start) v v.mode (advance g v)
advance-true_outcome g v h holds = turned-true_outcome (journey_from g v.number v.start) v v.mode h holds.mode
