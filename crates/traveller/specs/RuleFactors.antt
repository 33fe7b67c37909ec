-- The factors that a rule chooses by.
use Rattle.std.specs.Prelude.{◌≡◌, ◌≤◌, [], ◌∷◌}
use Rattle.walk_model.specs.declared.programme.Rule.{Rule}
use Rattle.walk_model.specs.declared.programme.Rule.TheVariants as rule
use Rattle.node2vec_walk.specs.Nearness.{class_factors}
use Rattle.traveller.specs.declared.ruling.TypedFactors.{TypedFactors}
use Rattle.traveller.specs.declared.ruling.TypedFactors.TheVariants as typed
use Rattle.traveller.specs.declared.ruling.RuleFactors.{RuleFactors}

-- a rule's own factors: those of a scheme and its types, those of node2vec, or none
abbrev pub AreTyped : Rule → TypedFactors → Type 0
AreTyped rule.Plain typed.Plain = Unit {0}
AreTyped (rule.Scheme kinds) (typed.Scheme types factors) = (types.now ≡ kinds) × (factors ≡ 1 ∷ 0 ∷ [])
AreTyped (rule.Node2vec p q) (typed.Node2vec factors) = (factors ≡ class_factors p q) × (1 ≤ p.top) × (1 ≤ q.top)
AreTyped _ _ = ⊥

-- besides, the one factor of steps without a rule
pub record AreFactors (r : Rule) (f : RuleFactors) : Type 0 where
  pub one : f.one ≡ 1 ∷ []
  pub typed : AreTyped r f.typed

-- a rule by which it counts what is near the vertex before
abbrev pub CountsNear : Rule → Type 0
CountsNear (rule.Node2vec p q) = Unit {0}
CountsNear _ = ⊥
