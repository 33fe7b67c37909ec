use Rattle.std.proofs.Common.{ap, sym, ◌∙◌}
use Rattle.walk_model.specs.Factor.{greatest_factor}
use Rattle.traveller.proofs.StandingLemmas.{suits-part}
use Rattle.traveller.proofs.test_runs.make_ready.Goals as goal

pub returns : goal.returns
returns g c = λ k d low.
    suits-part _ c.in_ok-rows.rows c.plan.inside.weighted c.greatest_factor.result c.args.cuts.now.cuts k _
    (c.in_ok-parts.ensures.parts k d low) (sym c.in_ok-rows.ensures.vertices) (ap (λ p. p.weighted) c.plan.view_is)
    (c.greatest_factor.ensures ∙ ap (λ p. greatest_factor p.rule) c.plan.view_is) c.in-None.ensures
