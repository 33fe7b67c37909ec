use Rattle.std.proofs.Common.{◌≡◌, ◌+◌, ◌⊎◌, Some, None, inl, inr, length, refl, sym, ap, subst, ◌∙◌, arith}
use Rattle.csr_store.specs.RowGraph.{RowGraph}
use Rattle.walk_model.specs.Graph.{vertices_of}
use Rattle.walk_model.specs.Settings.{Settings}
use Rattle.walk_top.specs.Limits.{task_fault}
use Rattle.walk_top.specs.Readiness.{cuts_in, ranked_graph}
use Rattle.walk_top.specs.ServeVerdicts.{for_requests}
use Rattle.walk_top.specs.UndividedReadiness.{IsUndividedFor}
use Rattle.walk_top.proofs.CarriageLemmas.{one-part}
use Rattle.walk_top.proofs.ServeLemmas.{fault-for_requests}
use Rattle.walk_top.proofs.serving.ready_for_requests.Goals as goal

pub make_undivided-requires : goal.make_undivided-requires
make_undivided-requires r c =
    let g : RowGraph = ranked_graph (vertices_of c.args.edges.items) c.args.edges.items in
    let count : length c.in-Ok.ready.parts.items ≡ length (cuts_in g 1) + 1 = c.in-Ok.ensures.ready.parts_are.count in
    let none : length (cuts_in g 1) ≡ 0 = one-part g 1 refl in
    omega (arith, count, none)

pub returns-in-Ok-clause-ready : goal.returns-in-Ok-clause-ready
returns-in-Ok-clause-ready g c =
    subst (λ (p : Settings). IsUndividedFor c.args.edges.items (for_requests p) c.args.seed c.make_undivided.result) c.plan.view_is
    (c.make_undivided.ensures _ _ _ c.in-Ok.ensures.ready)

pub returns-in-Ok-clause-none : goal.returns-in-Ok-clause-none
returns-in-Ok-clause-none g c =
    sym (fault-for_requests c.args.plan c.args.edges.items)
    ∙ ap (λ (p : Settings). task_fault (for_requests p) c.args.edges.items) (sym c.plan.view_is) ∙ c.in-Ok.ensures.none

pub returns-in-Err-clause-fault : goal.returns-in-Err-clause-fault
returns-in-Err-clause-fault g c =
    elim c.in-Err.ensures.fault [
      | inl is ↦ inl (sym (fault-for_requests c.args.plan c.args.edges.items)
          ∙ ap (λ (p : Settings). task_fault (for_requests p) c.args.edges.items) (sym c.plan.view_is) ∙ is)
      | inr short ↦ inr short
    ]
