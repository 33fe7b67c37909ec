-- Lists of edges with the same rows: a walk on one is the walk on the other.
use Rattle.std.proofs.Common.{◌≡◌, ℕ, zero, suc, List, [], ◌∷◌, map, refl, ap, Some, None, Option}
use Rattle.walk_model.specs.declared.graph.Edge.{Edge}
use Rattle.walk_model.specs.declared.programme.Rule.{Rule}
use Rattle.walk_model.specs.declared.programme.Rule.TheVariants.{Plain, Scheme, Node2vec}
use Rattle.walk_model.specs.declared.states.State.{State}
use Rattle.walk_model.specs.Settings.{Settings}
use Rattle.walk_model.specs.Course.{course}
use Rattle.walk_model.specs.Graph.{row, has_edge}
use Rattle.walk_model.specs.Factor.{factor, node_factor}
use Rattle.walk_model.specs.Dart.{board_of}
use Rattle.walk_model.specs.Words.{coin}
use Rattle.walk_model.specs.Walk.{chosen, next_state, entry_and, entries_after, walk, first_state}

-- two lists of edges have the same rows, and the same edges are there
pub record SameRows (es fs : List Edge) : Type 0 where
  pub rows : (v : ℕ) → row es v ≡ row fs v
  pub has : (t x : ℕ) → has_edge es t x ≡ has_edge fs t x

factor-same : (es fs : List Edge) → SameRows es fs → (rule : Rule) (previous : Option ℕ) (phase : ℕ) (e : Edge)
    → factor es rule previous phase e ≡ factor fs rule previous phase e
unfolding factor node_factor
factor-same es fs same Plain previous phase e = refl
factor-same es fs same (Scheme kinds) previous phase e = refl
factor-same es fs same (Node2vec p q) None phase e = refl
factor-same es fs same (Node2vec p q) (Some t) phase e = rw (same.has t e.dst) refl

factors-same : (es fs : List Edge) → SameRows es fs → (rule : Rule) (previous : Option ℕ) (phase : ℕ) (xs : List Edge)
    → map (factor es rule previous phase) xs ≡ map (factor fs rule previous phase) xs
factors-same es fs same rule previous phase [] = refl
factors-same es fs same rule previous phase (x ∷ xs) =
    rw (factor-same es fs same rule previous phase x, factors-same es fs same rule previous phase xs) refl

board_of-same : (es fs : List Edge) → SameRows es fs → (plan : Settings) (s : State) (xs : List Edge)
    → board_of es plan s xs ≡ board_of fs plan s xs
unfolding board_of
board_of-same es fs same plan s xs = rw (factors-same es fs same plan.rule s.previous s.phase xs) refl

chosen-same : (es fs : List Edge) → SameRows es fs → (plan : Settings) (words : ℕ → ℕ) (start : ℕ) (s : State)
    (xs : List Edge) (place : ℕ)
    → chosen (course es plan words start) s xs place ≡ chosen (course fs plan words start) s xs place
unfolding chosen
chosen-same es fs same plan words start s xs place = rw (board_of-same es fs same plan s xs) refl

next_state-same : (es fs : List Edge) → SameRows es fs → (plan : Settings) (words : ℕ → ℕ) (start : ℕ) (s : State)
    → next_state (course es plan words start) s ≡ next_state (course fs plan words start) s
unfolding next_state
next_state-same es fs same plan words start s =
    rw (same.rows s.at, chosen-same es fs same plan words start s (row fs s.at) (coin plan.restart words (coin plan.stop words s.place).1).1) refl

entry_and-same : (o : Option State) (f g : State → List ℕ) → ((t : State) → f t ≡ g t) → entry_and o f ≡ entry_and o g
entry_and-same None f g same = refl
entry_and-same (Some t) f g same = ap (λ l. t.at ∷ l) (same t)

entries_after-same : (es fs : List Edge) → SameRows es fs → (n : ℕ) (plan : Settings) (words : ℕ → ℕ) (start : ℕ) (s : State)
    → entries_after n (course es plan words start) s ≡ entries_after n (course fs plan words start) s
unfolding entries_after
entries_after-same es fs same zero plan words start s = refl
entries_after-same es fs same (suc n) plan words start s =
    rw (next_state-same es fs same plan words start s)
    (entry_and-same (next_state (course fs plan words start) s) (entries_after n (course es plan words start))
    (entries_after n (course fs plan words start)) (λ t. entries_after-same es fs same n plan words start t))

-- a walk goes by rows and by which edges are there
pub walk-same : (es fs : List Edge) → SameRows es fs → (plan : Settings) (words : ℕ → ℕ) (start most : ℕ)
    → walk (course es plan words start) most ≡ walk (course fs plan words start) most
walk-same es fs same plan words start most =
    ap (λ l. start ∷ l) (entries_after-same es fs same most plan words start (first_state start))
