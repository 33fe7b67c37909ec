-- One class with the factor 1 tells the factors of walks without a rule, and of the first steps of
-- node2vec.
use Rattle.std.proofs.Common.{◌≡◌, ℕ, zero, suc, ◌<◌, List, [], ◌∷◌, length, map, replicate, get_or, refl, arith, ap, sym, ◌∙◌}
use Rattle.std.specs.Prelude.{slice_index, Option, Some, None}
use Rattle.walk_model.specs.declared.graph.Edge.{Edge}
use Rattle.walk_model.specs.declared.programme.Fraction.{Fraction}
use Rattle.walk_model.specs.declared.programme.Rule.TheVariants.{Plain, Node2vec}
use Rattle.walk_model.specs.Factor.{factor}
use Rattle.walk_model.specs.declared.states.State.{State}
use Rattle.walk_model.specs.Settings.{Settings}
use Rattle.walk_model.specs.Graph.{weights_of, ends_of}
use Rattle.walk_model.specs.Dart.{height_of, lift_of, ends_below, ends_at, board_of, darts}
use Rattle.factor_table.specs.KnownClasses.{all_zero}
use Rattle.factor_table.proofs.FlatBoardLaws.{flat_board, darts-flat}

-- class 0 is known of each edge
pub known-zero : (n k : ℕ) → k < n → get_or (all_zero n) k None ≡ Some 0
known-zero zero k h = absurd (omega arith)
known-zero (suc n) zero h = refl
known-zero (suc n) (suc k) h = known-zero n k (omega arith)

-- without a rule each edge has the factor 1
pub factors-plain : (edges : List Edge) (previous : Option ℕ) (phase : ℕ) (out : List Edge)
    → map (slice_index (1 ∷ [])) (replicate (length out) 0) ≡ map (factor edges Plain previous phase) out
unfolding factor
factors-plain edges previous phase [] = refl
factors-plain edges previous phase (e ∷ es) = ap (λ fs. 1 ∷ fs) (factors-plain edges previous phase es)

-- so it has under node2vec where there is no previous vertex
pub factors-first : (edges : List Edge) (p q : Fraction) (phase : ℕ) (out : List Edge)
    → map (slice_index (1 ∷ [])) (replicate (length out) 0) ≡ map (factor edges (Node2vec p q) None phase) out
unfolding factor
factors-first edges p q phase [] = refl
factors-first edges p q phase (e ∷ es) = ap (λ fs. 1 ∷ fs) (factors-first edges p q phase es)

-- the factors of one class
abbrev pub ones : List Edge → List ℕ
ones out = map (slice_index (1 ∷ [])) (replicate (length out) 0)

-- a choice without a rule is one by the board of a single class
pub darts-plain : (n : ℕ) (edges : List Edge) (plan : Settings) (s : State) (out : List Edge) (words : ℕ → ℕ) (place : ℕ)
    → plan.rule ≡ Plain
    → darts n (board_of edges plan s out) words place
    ≡ darts n (flat_board (weights_of plan.weighted out) (ones out) 1 0 0) words place
unfolding board_of height_of lift_of
darts-plain n edges plan s out words place is =
    let ws = weights_of plan.weighted out in
    rw is
    (darts-flat n ws (map (factor edges Plain s.previous s.phase) out) 1
    (ends_below s.previous (ends_of out)) (ends_at s.previous (ends_of out)) words place
    ∙ sym (ap (λ fs. darts n (flat_board ws fs 1 0 0) words place) (factors-plain edges s.previous s.phase out)))

-- so is one under node2vec where there is no previous vertex
pub darts-first : (n : ℕ) (edges : List Edge) (plan : Settings) (s : State) (p q : Fraction) (out : List Edge) (words : ℕ → ℕ) (place : ℕ)
    → plan.rule ≡ Node2vec p q → s.previous ≡ None
    → darts n (board_of edges plan s out) words place
    ≡ darts n (flat_board (weights_of plan.weighted out) (ones out) 1 0 0) words place
unfolding board_of height_of lift_of
darts-first n edges plan s p q out words place is none =
    let ws = weights_of plan.weighted out in
    rw (is, none)
    (darts-flat n ws (map (factor edges (Node2vec p q) None s.phase) out) 1
    (ends_below None (ends_of out)) (ends_at None (ends_of out)) words place
    ∙ sym (ap (λ fs. darts n (flat_board ws fs 1 0 0) words place) (factors-first edges p q s.phase out)))
