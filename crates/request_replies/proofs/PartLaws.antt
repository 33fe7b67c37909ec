-- Walks on a part that has all vertices, as walks on the graph of which it is a part.
use Rattle.std.proofs.Common.{◌≡◌, ◌<◌, ◌≤◌, ℕ, zero, suc, List, [], ◌∷◌, map, Some, None, Option, refl, ap, sym, subst, ◌∙◌, arith}
use Rattle.std.specs.Prelude.{IfSome}
use Rattle.walk_model.specs.declared.graph.Edge.{Edge}
use Rattle.walk_model.specs.declared.programme.Rule.{Rule}
use Rattle.walk_model.specs.declared.programme.Rule.TheVariants.{Plain, Scheme, Node2vec}
use Rattle.walk_model.specs.declared.states.State.{State}
use Rattle.walk_model.specs.Settings.{Settings}
use Rattle.walk_model.specs.Course.{Course, course}
use Rattle.walk_model.specs.Graph.{row, has_edge}
use Rattle.walk_model.specs.Factor.{factor, node_factor}
use Rattle.walk_model.specs.Dart.{board_of}
use Rattle.walk_model.specs.Words.{coin}
use Rattle.walk_model.specs.Walk.{chosen, next_state, entry_and, entries_after, walk, first_state}
use Rattle.walk_model.proofs.RenameLemmas.{BeforeIn, EndsIn, StandsIn, next_state-in}

-- some edges have the rows of a graph, and the same edges are there, at the vertices that are among some numbers
pub record SameIn (In : ℕ → Type 0) (es fs : List Edge) : Type 0 where
  pub rows : (v : ℕ) → In v → row es v ≡ row fs v
  pub has : (t x : ℕ) → In t → has_edge es t x ≡ has_edge fs t x

factor-same : (In : ℕ → Type 0) (es fs : List Edge) → SameIn In es fs → (rule : Rule) (previous : Option ℕ) (phase : ℕ) (e : Edge)
    → BeforeIn In previous → factor es rule previous phase e ≡ factor fs rule previous phase e
unfolding factor node_factor
factor-same In es fs same Plain previous phase e there = refl
factor-same In es fs same (Scheme kinds) previous phase e there = refl
factor-same In es fs same (Node2vec p q) None phase e there = refl
factor-same In es fs same (Node2vec p q) (Some t) phase e there = rw (same.has t e.dst there) refl

factors-same : (In : ℕ → Type 0) (es fs : List Edge) → SameIn In es fs → (rule : Rule) (previous : Option ℕ) (phase : ℕ) (xs : List Edge)
    → BeforeIn In previous → map (factor es rule previous phase) xs ≡ map (factor fs rule previous phase) xs
factors-same In es fs same rule previous phase [] there = refl
factors-same In es fs same rule previous phase (x ∷ xs) there =
    rw (factor-same In es fs same rule previous phase x there, factors-same In es fs same rule previous phase xs there) refl

board_of-same : (In : ℕ → Type 0) (es fs : List Edge) → SameIn In es fs → (plan : Settings) (s : State) (xs : List Edge)
    → BeforeIn In s.previous → board_of es plan s xs ≡ board_of fs plan s xs
unfolding board_of
board_of-same In es fs same plan s xs there = rw (factors-same In es fs same plan.rule s.previous s.phase xs there) refl

chosen-same : (In : ℕ → Type 0) (es fs : List Edge) → SameIn In es fs → (plan : Settings) (words : ℕ → ℕ) (start : ℕ) (s : State)
    (xs : List Edge) (place : ℕ) → BeforeIn In s.previous
    → chosen (course es plan words start) s xs place ≡ chosen (course fs plan words start) s xs place
unfolding chosen
chosen-same In es fs same plan words start s xs place there = rw (board_of-same In es fs same plan s xs there) refl

next_state-same : (In : ℕ → Type 0) (es fs : List Edge) → SameIn In es fs → (plan : Settings) (words : ℕ → ℕ) (start : ℕ) (s : State) → StandsIn In s
    → next_state (course es plan words start) s ≡ next_state (course fs plan words start) s
unfolding next_state
next_state-same In es fs same plan words start s there =
    rw (same.rows s.at there.at, chosen-same In es fs same plan words start s (row fs s.at) (coin plan.restart words (coin plan.stop words s.place).1).1 there.before) refl

entry_and-same : (In : ℕ → Type 0) (o : Option State) (f g : State → List ℕ) → IfSome o (StandsIn In) → ((t : State) → StandsIn In t → f t ≡ g t)
    → entry_and o f ≡ entry_and o g
entry_and-same In None f g there same = refl
entry_and-same In (Some t) f g there same = ap (λ l. t.at ∷ l) (same t there)

entries_after-same : (In : ℕ → Type 0) (es fs : List Edge) → SameIn In es fs → EndsIn In fs → (n : ℕ) (plan : Settings) (words : ℕ → ℕ) (start : ℕ) → In start
    → (s : State) → StandsIn In s
    → entries_after n (course es plan words start) s ≡ entries_after n (course fs plan words start) s
unfolding entries_after
entries_after-same In es fs same ends zero plan words start begins s there = refl
entries_after-same In es fs same ends (suc n) plan words start begins s there =
    rw (next_state-same In es fs same plan words start s there)
    (entry_and-same In (next_state (course fs plan words start) s) (entries_after n (course es plan words start))
    (entries_after n (course fs plan words start)) (next_state-in In (course fs plan words start) s ends begins there)
    (λ t at. entries_after-same In es fs same ends n plan words start begins t at))

-- a walk from one of these vertices goes by the rows of them alone
pub walk-same : (In : ℕ → Type 0) (es fs : List Edge) → SameIn In es fs → EndsIn In fs → (plan : Settings) (words : ℕ → ℕ) (start most : ℕ) → In start
    → walk (course es plan words start) most ≡ walk (course fs plan words start) most
walk-same In es fs same ends plan words start most begins =
    ap (λ l. start ∷ l) (entries_after-same In es fs same ends most plan words start begins (first_state start) (record { at = begins; before = tt }))
