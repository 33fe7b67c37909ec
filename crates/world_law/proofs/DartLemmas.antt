-- Darts one after another, and how many steps a next state has made.
use Rattle.std.proofs.Common.{◌≡◌, ℕ, zero, suc, ◌+◌, ◌<◌, Bool, true, false, List, refl, ap, sym, ◌∙◌, arith, None, Some}
use Rattle.std.specs.Prelude.{Option, option_map, option_and_then, slice_get, length, ◌==◌, if◌then◌else◌}
use Rattle.walk_model.specs.declared.graph.Edge.{Edge}
use Rattle.walk_model.specs.declared.states.State.{State}
use Rattle.walk_model.specs.Course.{Course}
use Rattle.walk_model.specs.Words.{coin}
use Rattle.walk_model.specs.Graph.{row}
use Rattle.walk_model.specs.Dart.{Board, board_of, hit, darts}
use Rattle.walk_model.specs.Walk.{moved, moved_along, chosen, next_state, restarted}
use Rattle.walk_model.proofs.BoardLemmas.{darts-none}

-- darts that were all in vain leave the choice to those after them
pub darts-after : (thrown left first n k : ℕ) (b : Board) (words : ℕ → ℕ)
    → ((i : ℕ) → i < thrown → hit b (words (first + i)) ≡ None)
    → n ≡ thrown + left → k ≡ first + thrown → darts n b words first ≡ darts left b words k
darts-after zero left first n k b words vain e f =
    let count : n ≡ left = omega arith in
    let place : k ≡ first = omega arith in
    rw (count, place) refl
darts-after (suc t) left first n k b words vain e f =
    let count : n ≡ suc (t + left) = omega arith in
    let none : first + 0 ≡ first = omega arith in
    let raw = vain 0 (omega arith) in
    let here : hit b (words first) ≡ None = rw none at raw in
    darts-none n (t + left) b words first count here
    ∙ darts-after t left (first + 1) (t + left) k b words
    (λ i h.
    let next : first + suc i ≡ first + 1 + i = omega arith in
    let later = vain (suc i) (omega arith) in
    rw next at later)
    refl (omega arith)

-- the steps of a state, if there is one
abbrev pub steps_or : ℕ → Option State → ℕ
steps_or d None = d
steps_or d (Some t) = t.steps

if_steps : (b : Bool) (n : ℕ) (x y : Option State) → steps_or n x ≡ n → steps_or n y ≡ n
    → steps_or n (if b then x else y) ≡ n
if_steps true n x y p q = p
if_steps false n x y p q = q

edge_steps : (s : State) (place : ℕ) (o : Option Edge)
    → steps_or (s.steps + 1) (option_map (moved s place) o) ≡ s.steps + 1
edge_steps s place None = refl
edge_steps s place (Some e) = refl

-- a step along an edge is one step
pub moved_along-steps : (s : State) (out : List Edge) (taken : ℕ × ℕ)
    → steps_or (s.steps + 1) (moved_along s out taken) ≡ s.steps + 1
moved_along-steps s out taken = edge_steps s taken.1 (slice_get out taken.0)

chosen-steps : (s : State) (out : List Edge) (d : Option (ℕ × ℕ))
    → steps_or (s.steps + 1) (option_and_then (moved_along s out) d) ≡ s.steps + 1
chosen-steps s out None = refl
chosen-steps s out (Some taken) = moved_along-steps s out taken

-- a next state has made one step more
pub next_state-steps : (c : Course) (s : State) → steps_or (s.steps + 1) (next_state c s) ≡ s.steps + 1
unfolding next_state chosen
next_state-steps c s =
    let stop = coin c.plan.stop c.words s.place in
    let restart = coin c.plan.restart c.words stop.1 in
    let out = row c.edges s.at in
    let taken = darts c.plan.retries (board_of c.edges c.plan s out) c.words restart.1 in
    let last = option_and_then (moved_along s out) taken in
    let choice = if length out == 0 then None else last in
    if_steps stop.0 (s.steps + 1) None (if restart.0 then Some (restarted c.start s restart.1) else choice) refl
    (if_steps restart.0 (s.steps + 1) (Some (restarted c.start s restart.1)) choice refl
    (if_steps (length out == 0) (s.steps + 1) None last refl (chosen-steps s out taken)))

pub steps_of_some : (n : ℕ) (o : Option State) (t : State) → steps_or n o ≡ n → o ≡ Some t → t.steps ≡ n
steps_of_some n o t h e = sym (ap (steps_or n) e) ∙ h
