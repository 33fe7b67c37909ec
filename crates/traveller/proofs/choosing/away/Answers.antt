use Rattle.std.proofs.Common.{◌≡◌, ◌<◌, ℕ, true, false, Option, sym, subst, ◌∙◌, arith}
use Rattle.std.specs.Prelude.{◌==◌, IfSome}
use Rattle.std.proofs.lemmas.Bool.Decides.{nat_tests}
use Rattle.walk_model.specs.Cuts.{owner}
use Rattle.vertex_partition.specs.PartViews.{Owns}
use Rattle.traveller.specs.RuleFactors.{AreTyped}
use Rattle.traveller.proofs.ChoiceLemmas.{plain-rule, scheme-rule, near-rule}
use Rattle.traveller.proofs.FromLemmas.{local-plain, local-scheme}
use Rattle.traveller.proofs.choosing.away.Goals as goal

pub returns-in-Plain-clause-here : goal.returns-in-Plain-clause-here
returns-in-Plain-clause-here c = λ rule are.
    local-plain c.args.part.now rule c.args.previous (plain-rule rule c.args.typed.now c.in-Plain.is are)

pub returns-in-Scheme-clause-here : goal.returns-in-Scheme-clause-here
returns-in-Scheme-clause-here c = λ rule are.
    (let is = scheme-rule rule c.args.typed.now c.in-Scheme.kinds c.in-Scheme.factors c.in-Scheme.is are in
    local-scheme c.args.part.now rule c.args.previous c.in-Scheme.kinds.now is.0)

pub returns-in-None-clause-here : goal.returns-in-None-clause-here
returns-in-None-clause-here c = λ rule are.
    (let by = near-rule rule c.args.typed.now c.in-Node2vec.factors c.in-Node2vec.is are in
    rw (by.rule, c.in-None.is) tt)

pub returns-then-owns-clause-here : goal.returns-then-owns-clause-here
returns-then-owns-clause-here c = λ rule are.
    (let by = near-rule rule c.args.typed.now c.in-Node2vec.factors c.in-Node2vec.is are in
    let below = subst (λ (o : Option ℕ). IfSome o (λ t. t < c.args.part.now.vertices)) c.in-Some.is c.requires in
    let test : (owner c.args.part.now.cuts c.in-Some.back == c.args.part.now.part) ≡ true = sym c.owns.ensures ∙ c.if-owns.true in
    let is : owner c.args.part.now.cuts c.in-Some.back ≡ c.args.part.now.part = grind (arith, nat_tests) in
    let own : Owns c.args.part.now c.in-Some.back = record { below = below; owner_is = is } in
    rw (by.rule, c.in-Some.is) own)

pub returns-else-owns-clause-there : goal.returns-else-owns-clause-there
returns-else-owns-clause-there c = λ rule are.
    (let test : (owner c.args.part.now.cuts c.in-Some.back == c.args.part.now.part) ≡ false = sym c.owns.ensures ∙ c.if-owns.false in
    record {
      factors_are = subst (AreTyped rule) c.in-Node2vec.is are;
      before = c.in-Some.is;
      other = λ same. absurd (grind (arith, nat_tests));
    })
