use Rattle.std.proofs.Common.{◌<◌, ◌^◌, nat_lt, refl, ap, sym, subst, ◌∙◌, inl}
use Rattle.std.specs.Prelude.{Some, None}
use Rattle.walk_model.specs.Graph.{vertices_of}
use Rattle.walk_model.specs.Factor.{greatest_factor}
use Rattle.walk_model.specs.declared.faults.WalkFault.TheVariants as fault
use Rattle.vertex_partition.specs.Reaches.{row_reach}
use Rattle.walk_top.proofs.ReadyLemmas.{found-low, task-by_rank, ready-for}
use Rattle.walk_top.proofs.readying.make_ready.Goals as goal

pub id-requires : goal.id-requires
id-requires g c =
    subst (λ n. c.in-Some.rank < n) c.in-Ok-rows_of.ensures.vertices
    (found-low (λ v. nat_lt (2 ^ 62) (row_reach c.in-Ok-rows_of.rows c.plan.inside.weighted c.greatest_factor.result v)) c.in-Ok-rows_of.rows.vertices c.in-Some.rank c.in-Some.ensures)

pub returns-in-Some-clause-fault : goal.returns-in-Some-clause-fault
returns-in-Some-clause-fault g c =
    inl (task-by_rank c.args.plan c.args.edges.items c.in-Ok.names c.in-Ok-rows_of.rows c.plan.inside.weighted c.greatest_factor.result (Some c.in-Some.rank)
    (c.in-Ok.ensures.names ∙ ap vertices_of c.deref.ensures.value) c.in-Ok-judge_counts.ensures.none c.in-Ok-rows_of.ensures (ap (λ p. p.weighted) c.plan.view_is)
    (c.greatest_factor.ensures ∙ ap (λ p. greatest_factor p.rule) c.plan.view_is) c.in-Some.ensures
    ∙ ap (λ n. Some (fault.Overflow n)) (sym c.id.ensures.id))

pub returns-clause-none : goal.returns-clause-none
returns-clause-none g c =
    task-by_rank c.args.plan c.args.edges.items c.in-Ok.names c.in-Ok-rows_of.rows c.plan.inside.weighted c.greatest_factor.result None
    (c.in-Ok.ensures.names ∙ ap vertices_of c.deref.ensures.value) c.in-Ok-judge_counts.ensures.none c.in-Ok-rows_of.ensures (ap (λ p. p.weighted) c.plan.view_is)
    (c.greatest_factor.ensures ∙ ap (λ p. greatest_factor p.rule) c.plan.view_is) c.in-None.ensures

pub returns-clause-ready : goal.returns-clause-ready
returns-clause-ready g c =
    ready-for c.args.plan c.args.edges.items c.args.seed c.args.parts
    c.in-Ok-rows_of.rows c.in-Ok.names c.plan.inside.weighted c.greatest_factor.result c.in-Ok-cuts_between.cuts.cuts
    refl (c.in-Ok.ensures.names ∙ ap vertices_of c.deref.ensures.value) refl refl c.len.ensures.count c.in-Ok-rows_of.ensures
    c.in-Ok-split.ensures.count c.in-Ok-split.ensures.parts c.in-Ok-cuts_between.ensures.cuts refl
    c.in-Ok-judge_counts.ensures.rank c.in-Ok-judge_counts.ensures.some (ap (λ p. p.weighted) c.plan.view_is)
    (c.greatest_factor.ensures ∙ ap (λ p. greatest_factor p.rule) c.plan.view_is) c.in-None.ensures
