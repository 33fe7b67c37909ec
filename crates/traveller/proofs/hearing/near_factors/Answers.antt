use Rattle.std.proofs.Common.{◌≡◌, ◌≤◌, ℕ, true, ◌&&◌, List, sym, subst, arith}
use Rattle.std.specs.Prelude.{All, nat_le}
use Rattle.std.proofs.lemmas.Bool.{and_parts}
use Rattle.std.proofs.lemmas.Bool.Decides.{nat_tests}
use Rattle.walk_model.specs.Ranges.{rule_in_range}
use Rattle.walk_model.specs.declared.programme.Rule.{Rule}
use Rattle.traveller.proofs.ToldLemmas.{factors-some}
use Rattle.traveller.proofs.hearing.near_factors.Goals as goal

pub returns-in-Node2vec-clause-some : goal.returns-in-Node2vec-clause-some
returns-in-Node2vec-clause-some c =
    let both : (nat_le 1 c.in-Node2vec.p.top && nat_le 1 c.in-Node2vec.q.top) ≡ true = subst (λ (r : Rule). rule_in_range r ≡ true) c.in-Node2vec.is c.requires.range in
    let first = (and_parts (nat_le 1 c.in-Node2vec.p.top) (nat_le 1 c.in-Node2vec.q.top) both).0 in
    let second = (and_parts (nat_le 1 c.in-Node2vec.p.top) (nat_le 1 c.in-Node2vec.q.top) both).1 in
    let pt : 1 ≤ c.in-Node2vec.p.top = grind (arith, nat_tests) in
    let qt : 1 ≤ c.in-Node2vec.q.top = grind (arith, nat_tests) in
    let pb : 1 ≤ c.in-Node2vec.p.bottom = (let one = c.bottom.ensures.some in let is = c.bottom.ensures.value in omega (arith, one, is)) in
    let qb : 1 ≤ c.in-Node2vec.q.bottom = (let one = c.bottom-in-Node2vec.ensures.some in let is = c.bottom-in-Node2vec.ensures.value in omega (arith, one, is)) in
    subst (λ (fs : List ℕ). All (λ f. 1 ≤ f) fs) (sym c.node_factors.ensures.value) (factors-some c.in-Node2vec.p c.in-Node2vec.q pt pb qt qb)
