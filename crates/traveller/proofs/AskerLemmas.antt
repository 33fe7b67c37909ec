-- Steps after a vertex of another part.
use Rattle.std.proofs.Common.{◌≡◌, ℕ, ◌≤◌, Bool, true, false, List, [], length, Option, Some, refl, ap, sym, ◌∙◌, arith}
use Rattle.std.specs.Prelude.{◌==◌}
use Rattle.std.proofs.lemmas.Bool.Decides.{nat_tests}
use Rattle.walk_model.specs.declared.graph.Edge.{Edge}
use Rattle.walk_model.specs.declared.programme.Fraction.{Fraction}
use Rattle.walk_model.specs.declared.programme.Rule.{Rule}
use Rattle.walk_model.specs.declared.programme.Rule.TheVariants.{Node2vec}
use Rattle.walk_model.specs.declared.states.State.{State}
use Rattle.walk_model.specs.Graph.{weights_of}
use Rattle.walk_model.specs.Dart.{Board}
use Rattle.walk_model.specs.Letters.{Journey, Asker, asker}
use Rattle.walk_model.proofs.BoardLemmas.{length-weights_of}
use Rattle.traveller.specs.declared.modes.Mode.TheVariants.{Over}
use Rattle.traveller.specs.Locals.{row_mode}
use Rattle.traveller.specs.Turns.{asker_by, throws}

-- the walker that must ask
pub asker-some : (j : Journey) (s : State) (rule : Rule) (previous : Option ℕ) (p q : Fraction) (t : ℕ) → rule ≡ Node2vec p q
    → previous ≡ Some t → (j.owner t ≡ j.owner s.at → ⊥) → asker_by j s rule previous ≡ Some (asker j s t p q)
asker-some j s rule previous p q t is before other =
    let differ : (j.owner t == j.owner s.at) ≡ false = grind (arith, nat_tests) in
    rw (is, before, differ) refl

-- what the choice from an empty row comes to
pub row-empty : (left : ℕ) (r : Option Asker) (b : Board) (weighted : Bool) (out : List Edge) (words : ℕ → ℕ) (place : ℕ)
    → weights_of weighted out ≡ [] → row_mode left r b out words place ≡ Over
row-empty left r b weighted out words place is =
    let long : length out ≡ 0 = sym (length-weights_of weighted out) ∙ ap (λ l. length l) is in
    let none : (length out == 0) ≡ true = grind (arith, nat_tests) in
    rw none refl

-- and from one that isn't
pub row-full : (left : ℕ) (r : Option Asker) (b : Board) (weighted : Bool) (out : List Edge) (ws : List ℕ) (words : ℕ → ℕ) (place : ℕ)
    → weights_of weighted out ≡ ws → 1 ≤ length ws → row_mode left r b out words place ≡ throws left r b words place
row-full left r b weighted out ws words place is some =
    let long : length ws ≡ length out = ap (λ l. length l) (sym is) ∙ length-weights_of weighted out in
    let full : (length out == 0) ≡ false = grind (arith, nat_tests) in
    rw full refl
