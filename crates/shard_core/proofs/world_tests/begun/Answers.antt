use Rattle.std.proofs.Common.{ap, sym, ◌∙◌}
use Rattle.walk_model.specs.Factor.{greatest_factor}
use Rattle.shard_core.proofs.SuitLemmas.{suits-part}
use Rattle.shard_core.proofs.world_tests.begun.Goals as goal

pub begin-requires-clause-suits : goal.begin-requires-clause-suits
begin-requires-clause-suits g c = λ k d low.
    suits-part _ c.in_ok-rows.rows c.plan.inside.weighted c.greatest_factor.result c.in_ok-cuts.cuts.cuts k _
    (c.in_ok-parts.ensures.parts k d low) (sym c.in_ok-rows.ensures.vertices) (ap (λ p. p.weighted) c.plan.view_is)
    (c.greatest_factor.ensures ∙ ap (λ p. greatest_factor p.rule) c.plan.view_is) c.in-None.ensures

pub begin-requires-clause-parts : goal.begin-requires-clause-parts
begin-requires-clause-parts g c = record {
  cuts = c.in_ok-cuts.cuts.cuts;
  count = c.in_ok-parts.ensures.count;
  each = λ k d low. let p = c.in_ok-parts.ensures.parts k d low in (p.part, p.cuts_are);
}
