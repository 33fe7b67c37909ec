use Rattle.std.proofs.Common.{◌<◌, ℕ, ap, length, get_or, subst, sym, ◌∙◌}
use Rattle.walk_model.specs.declared.programme.StartRule.{StartRule}
use Rattle.walk_model.specs.declared.programme.StartRule.TheVariants.{Each}
use Rattle.walk_model.specs.Factor.{greatest_factor}
use Rattle.walk_model.specs.Walk.{walker_count}
use Rattle.vertex_partition.specs.PartViews.{IsPart}
use Rattle.shard_core.proofs.SuitLemmas.{suits-part}
use Rattle.superstep.proofs.worker_tests.begun.Goals as goal

pub begin-requires-clause-suits : goal.begin-requires-clause-suits
begin-requires-clause-suits g c = λ k d low.
    suits-part _ c.in_ok-rows.rows c.plan.inside.weighted c.greatest_factor.result c.in_ok-cuts.cuts.cuts k _
    (c.in_ok-parts.ensures.parts k d low) (sym c.in_ok-rows.ensures.vertices) (ap (λ p. p.weighted) c.plan.view_is)
    (c.greatest_factor.ensures ∙ ap (λ p. greatest_factor p.rule) c.plan.view_is) c.in-None.ensures

pub begin-requires-clause-parts : goal.begin-requires-clause-parts
begin-requires-clause-parts g c = record {
  cuts = c.in_ok-cuts.cuts.cuts;
  count = c.in_ok-parts.ensures.count;
  each = λ k d low. let p = c.in_ok-parts.ensures.parts k d low in (p.part, p.cuts_are);
}

-- where a walker starts at each vertex and there is a walker, there is a vertex
each-some : (n : ℕ) → 0 < walker_count Each n → 0 < n
unfolding walker_count
each-some n low = low

pub begin-requires-clause-some : goal.begin-requires-clause-some
begin-requires-clause-some g c =
    let n = length c.args.costs.now in
    subst (λ (s : StartRule). 0 < walker_count s n → 0 < n) (sym c.requires.start) (each-some n)

pub returns : goal.returns
returns g c = record {
  graph = c.in_ok-rows.rows;
  run = _;
  cuts = c.in_ok-cuts.cuts.cuts;
  begun = c.in_ok-world.ensures c.in_ok-rows.rows c.in_ok-cuts.cuts.cuts (record {
    count = c.in_ok-parts.ensures.count;
    each = λ k d low.
        subst (λ w. IsPart c.in_ok-rows.rows w c.in_ok-cuts.cuts.cuts k (get_or c.in_ok-parts.parts.items k d)) (ap (λ p. p.weighted) c.plan.view_is)
        (c.in_ok-parts.ensures.parts k d low);
  });
}
