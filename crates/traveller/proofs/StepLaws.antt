-- A turn that asks nobody comes to the next state of the plain walk.
use Rattle.std.proofs.Common.{◌≡◌, ℕ, suc, ◌+◌, ◌<◌, ◌≤◌, Bool, true, false, List, [], ◌∷◌, ◌++◌, length, Option, Some, None, refl, ap, sym, ◌∙◌, arith}
use Rattle.std.specs.Prelude.{◌==◌, ◌-◌, nat_lt, slice_get, IsTrue, option_map, option_and_then, if◌then◌else◌}
use Rattle.std.proofs.lemmas.Bool.Decides.{nat_tests}
use Rattle.walk_model.specs.declared.graph.Edge.{Edge}
use Rattle.walk_model.specs.declared.states.State.{State}
use Rattle.walk_model.specs.Words.{coin}
use Rattle.walk_model.specs.Graph.{row}
use Rattle.walk_model.specs.Course.{Course}
use Rattle.walk_model.specs.Dart.{board_of, darts}
use Rattle.walk_model.specs.Prints.{prints_from}
use Rattle.walk_model.specs.Walk.{restarted, moved, moved_along, chosen, next_state, entry_and, entries_after}
use Rattle.walk_model.specs.Letters.{Journey}
use Rattle.traveller.specs.declared.modes.Mode.{Mode}
use Rattle.traveller.specs.declared.modes.Mode.TheVariants.{Fresh, Darts, Asked, AskedRow, Chosen, Over}
use Rattle.traveller.specs.Ahead.{left_print, ahead_from, prints_ahead}
use Rattle.traveller.specs.Steps.{step_from}
use Rattle.traveller.specs.Turns.{stop_coin, restart_coin, row_at, board_at, asker_at, chosen_or_over, throws, choice_mode, stepped, goes, begun, turned}
use Rattle.traveller.specs.Walkers.{Walker, is_ready}
use Rattle.traveller.proofs.LocalLemmas.{throws-alone}

-- a walker goes along the edge that is taken, or is at the end of its walk
goes-taken : (j : Journey) (v : Walker) (o : Option (ℕ × ℕ))
    → goes j v (chosen_or_over o) ≡ stepped v (option_and_then (moved_along v.state (row_at j v.state)) o)
goes-taken j v None = refl
goes-taken j v (Some taken) = refl

-- so does one that chooses an edge by darts that ask nobody
goes-darts : (j : Journey) (v : Walker) (n place : ℕ) → asker_at j v.state ≡ None
    → goes j v (throws n (asker_at j v.state) (board_at j v.state) j.course.words place)
    ≡ stepped v (option_and_then (moved_along v.state (row_at j v.state)) (darts n (board_at j v.state) j.course.words place))
goes-darts j v n place none =
    ap (λ r. goes j v (throws n r (board_at j v.state) j.course.words place)) none
    ∙ ap (goes j v) (throws-alone n (board_at j v.state) j.course.words place)
    ∙ goes-taken j v (darts n (board_at j v.state) j.course.words place)

-- the choice among the edges of the row
goes-choice : (j : Journey) (v : Walker) (place : ℕ) → asker_at j v.state ≡ None
    → goes j v (choice_mode j v.state place) ≡ stepped v (chosen j.course v.state (row_at j v.state) place)
unfolding chosen
goes-choice j v place none =
    elim (length (row_at j v.state) == 0) as (λ b.
    goes j v (if b then Over else throws j.course.plan.retries (asker_at j v.state) (board_at j v.state) j.course.words place)
    ≡ stepped v (if b then None
    else option_and_then (moved_along v.state (row_at j v.state)) (darts j.course.plan.retries (board_at j v.state) j.course.words place))) [
      | true ↦ refl
      | false ↦ goes-darts j v j.course.plan.retries place none
    ]

-- a whole step
begun-step : (j : Journey) (v : Walker) → asker_at j v.state ≡ None → begun j v ≡ stepped v (step_from j v Fresh)
unfolding begun next_state
begun-step j v none =
    let choice : goes j v (choice_mode j v.state (restart_coin j v.state).1) ≡ stepped v (chosen j.course v.state (row_at j v.state) (restart_coin j v.state).1) =
    goes-choice j v (restart_coin j v.state).1 none in
    elim (nat_lt v.state.steps v.length) as (λ b.
    (if b then (if (stop_coin j v.state).0 then record v { mode = Over }
    else (if (restart_coin j v.state).0 then stepped v (Some (restarted j.course.start v.state (restart_coin j v.state).1))
    else goes j v (choice_mode j v.state (restart_coin j v.state).1)))
    else record v { mode = Over })
    ≡ stepped v (if b then (if (stop_coin j v.state).0 then None
    else (if (restart_coin j v.state).0 then Some (restarted j.course.start v.state (restart_coin j v.state).1)
    else chosen j.course v.state (row_at j v.state) (restart_coin j v.state).1))
    else None)) [
      | false ↦ refl
      | true ↦
          elim (stop_coin j v.state).0 as (λ b.
          (if b then record v { mode = Over }
          else (if (restart_coin j v.state).0 then stepped v (Some (restarted j.course.start v.state (restart_coin j v.state).1))
          else goes j v (choice_mode j v.state (restart_coin j v.state).1)))
          ≡ stepped v (if b then None
          else (if (restart_coin j v.state).0 then Some (restarted j.course.start v.state (restart_coin j v.state).1)
          else chosen j.course v.state (row_at j v.state) (restart_coin j v.state).1))) [
            | true ↦ refl
            | false ↦
                elim (restart_coin j v.state).0 as (λ b.
                (if b then stepped v (Some (restarted j.course.start v.state (restart_coin j v.state).1))
                else goes j v (choice_mode j v.state (restart_coin j v.state).1))
                ≡ stepped v (if b then Some (restarted j.course.start v.state (restart_coin j v.state).1)
                else chosen j.course v.state (row_at j v.state) (restart_coin j v.state).1)) [
                  | true ↦ refl
                  | false ↦ choice
                ]
          ]
    ]

-- a turn from any mode in which a walker can go on
pub turned-step : (j : Journey) (v : Walker) (m : Mode) → asker_at j v.state ≡ None → IsTrue (is_ready m)
    → turned j v m ≡ stepped v (step_from j v m)
turned-step j v Fresh none ready = begun-step j v none
turned-step j v (Darts left place) none ready = goes-darts j v left place none
turned-step j v (Chosen edge place) none ready = refl
turned-step j v (Asked left place question) none ready = absurd (not_ready ready)
  where
    not_ready : false ≡ true → ⊥
    not_ready e = cc
turned-step j v (AskedRow place question) none ready = absurd (not_ready ready)
  where
    not_ready : false ≡ true → ⊥
    not_ready e = cc
turned-step j v Over none ready = absurd (not_ready ready)
  where
    not_ready : false ≡ true → ⊥
    not_ready e = cc

-- the next state has made one step more
along-more : (s : State) (out : List Edge) (taken : ℕ × ℕ) (t : State) → moved_along s out taken ≡ Some t → t.steps ≡ s.steps + 1
along-more s out taken t is = by (slice_get out taken.0) is
  where
    by : (o : Option Edge) → option_map (moved s taken.1) o ≡ Some t → t.steps ≡ s.steps + 1
    by None e = absurd (cc)
    by (Some edge) e = let same : moved s taken.1 edge ≡ t = cc in sym (ap (λ u. u.steps) same)

chosen-more : (c : Course) (s : State) (out : List Edge) (place : ℕ) (t : State) → chosen c s out place ≡ Some t → t.steps ≡ s.steps + 1
unfolding chosen
chosen-more c s out place t is = by (length out == 0) (darts c.plan.retries (board_of c.edges c.plan s out) c.words place) is
  where
    by : (b : Bool) (o : Option (ℕ × ℕ)) → (if b then None else option_and_then (moved_along s out) o) ≡ Some t → t.steps ≡ s.steps + 1
    by true o e = absurd (cc)
    by false None e = absurd (cc)
    by false (Some taken) e = along-more s out taken t e

pub next-more : (c : Course) (s t : State) → next_state c s ≡ Some t → t.steps ≡ s.steps + 1
unfolding next_state
next-more c s t is = by (coin c.plan.stop c.words s.place).0 (coin c.plan.restart c.words (coin c.plan.stop c.words s.place).1).0 is
  where
    by : (b d : Bool) → (if b then None
        else (if d then Some (restarted c.start s (coin c.plan.restart c.words (coin c.plan.stop c.words s.place).1).1)
        else chosen c s (row c.edges s.at) (coin c.plan.restart c.words (coin c.plan.stop c.words s.place).1).1)) ≡ Some t → t.steps ≡ s.steps + 1
    by true d e = absurd (cc)
    by false true e =
        let same : restarted c.start s (coin c.plan.restart c.words (coin c.plan.stop c.words s.place).1).1 ≡ t = cc in
        sym (ap (λ u. u.steps) same)
    by false false e = chosen-more c s (row c.edges s.at) (coin c.plan.restart c.words (coin c.plan.stop c.words s.place).1).1 t e

-- nothing is ahead at the end of a walk
none-after : (c : Course) (v : Walker) → prints_from v.number (v.state.steps + 1) (entries_after 0 c v.state) ≡ []
unfolding entries_after prints_from
none-after c v = refl

ahead-done : (c : Course) (v : Walker) → v.mode ≡ Fresh → v.length ≤ v.state.steps → prints_ahead c v ≡ []
ahead-done c v is done =
    let none : v.length - v.state.steps ≡ 0 = omega (arith, done) in
    ap (ahead_from c v) is ∙ ap (λ n. prints_from v.number (v.state.steps + 1) (entries_after n c v.state)) none ∙ none-after c v

-- one step more, or the end
ahead-next : (c : Course) (v : Walker) (left : ℕ) (o : Option State) → v.length - v.state.steps ≡ suc left → o ≡ next_state c v.state
    → prints_from v.number (v.state.steps + 1) (entry_and o (entries_after left c))
    ≡ left_print (stepped v o) ++ prints_ahead c (stepped v o)
unfolding prints_from
ahead-next c v left None more is = refl
ahead-next c v left (Some t) more is =
    let one : t.steps ≡ v.state.steps + 1 = next-more c v.state t (sym is) in
    let rest : v.length - t.steps ≡ left = omega (arith, one, more) in
    ap (λ n. record { walker = v.number; step = v.state.steps + 1; at = t.at } ∷ prints_from v.number (v.state.steps + 1 + 1) (entries_after n c t)) (sym rest)
    ∙ ap (λ n. record { walker = v.number; step = n; at = t.at } ∷ prints_from v.number (n + 1) (entries_after (v.length - t.steps) c t)) (sym one)

after-next : (c : Course) (s : State) (left : ℕ) → entries_after (suc left) c s ≡ entry_and (next_state c s) (entries_after left c)
unfolding entries_after
after-next c s left = refl

-- the prints ahead of a walker are that of its next step, if it makes one, and those ahead of it then
pub ahead-step : (c : Course) (v w : Walker) → v.mode ≡ Fresh
    → w ≡ stepped v (if nat_lt v.state.steps v.length then next_state c v.state else None)
    → prints_ahead c v ≡ left_print w ++ prints_ahead c w
ahead-step c v w fresh is = by (nat_lt v.state.steps v.length) refl
  where
    by : (b : Bool) → nat_lt v.state.steps v.length ≡ b → prints_ahead c v ≡ left_print w ++ prints_ahead c w
    by false e =
        let done : v.length ≤ v.state.steps = grind (arith, nat_tests) in
        let over : w ≡ record v { mode = Over } = is ∙ rw e refl in
        ahead-done c v fresh done ∙ sym (ap (λ u. left_print u ++ prints_ahead c u) over)
    by true e =
        let low : v.state.steps < v.length = grind (arith, nat_tests) in
        let more : v.length - v.state.steps ≡ suc (v.length - (v.state.steps + 1)) = omega (arith, low) in
        let next : w ≡ stepped v (next_state c v.state) = is ∙ rw e refl in
        ap (ahead_from c v) fresh
        ∙ ap (λ n. prints_from v.number (v.state.steps + 1) (entries_after n c v.state)) more
        ∙ ap (prints_from v.number (v.state.steps + 1)) (after-next c v.state (v.length - (v.state.steps + 1)))
        ∙ ahead-next c v (v.length - (v.state.steps + 1)) (next_state c v.state) more refl
        ∙ sym (ap (λ u. left_print u ++ prints_ahead c u) next)
