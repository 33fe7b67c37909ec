-- When all edges together are too heavy.
use Rattle.std.proofs.Common.{ℕ, ◌*◌, ◌≤◌, ◌<◌, List, [], ◌∷◌, length, arith}
use Rattle.std.specs.Prelude.{sum_by, IsTrue}
use Rattle.std.proofs.lemmas.List.Sums.{sum_by-cons, sum_by_more_le}
use Rattle.std.proofs.Math.Nat.{mul-le-mul_left, mul-le-mul_right}
use Rattle.walk_model.specs.declared.graph.Edge.{Edge}
use Rattle.walk_model.specs.declared.programme.Rule.{Rule}
use Rattle.walk_model.specs.declared.programme.Rule.TheVariants.{Plain, Scheme, Node2vec}
use Rattle.walk_model.specs.Ranges.{rule_in_range}
use Rattle.walk_model.specs.Factor.{greatest_factor}
use Rattle.walk_model.proofs.BoardLemmas.{both_pass}

pub ruleset sum_lemmas = (sum_by_more_le)

-- a rule has some factor
pub greatest-some : (rule : Rule) → IsTrue (rule_in_range rule) → 1 ≤ greatest_factor rule
unfolding greatest_factor
greatest-some Plain h = omega arith
greatest-some (Scheme kinds) h = omega arith
greatest-some (Node2vec p q) h = omega (arith, both_pass p.top q.top h)

-- a sum that is beyond the bound is so with its length and a factor
pub product-great : (n s f bound : ℕ) → bound < s → 1 ≤ n → 1 ≤ f → bound < n * s * f
product-great n s f bound great some factor =
    let longer : 1 * s ≤ n * s = mul-le-mul_right s some in
    let higher : n * s * 1 ≤ n * s * f = mul-le-mul_left (n * s) factor in
    omega (arith, longer, higher)

-- edges that weigh something are some
pub heavy-some : (f : Edge → ℕ) (es : List Edge) → 0 < sum_by f es → 1 ≤ length es
heavy-some f [] some = absurd (omega arith)
heavy-some f (e ∷ es) some = omega arith

pub ruleset small_lemmas = (greatest-some, product-great, heavy-some)
