use Rattle.std.proofs.Common.{◌<◌, ◌≤◌, ◌^◌, length, get_or, sym, subst, arith}
use Rattle.std.proofs.lemmas.List.{get_or_default}
use Rattle.std.proofs.lemmas.List.Edits.{map_over_more}
use Rattle.std.specs.Prelude.{All}
use Rattle.walk_model.specs.declared.graph.Edge.{Edge}
use Rattle.vertex_names.specs.Ranks.{ranked}
use Rattle.vertex_names.proofs.NameLaws.{ranked-itself, ranked-ends, ranked-weights, all-ranked}
use Rattle.vertex_names.proofs.names.Names.rename.Goals as goal

pub loop-e-preserved : goal.loop-e-preserved
loop-e-preserved c =
    let zero_edge : Edge = record { src = 0; dst = 0; weight = 0; kind = 0 } in
    let step = map_over_more (ranked c.args.self.now) c.args.edges.now c.loop-e.edges c.loop-e.e-index
    (get_or c.loop-e.edges c.loop-e.e-index zero_edge) (omega arith) c.loop-e.invariant
    (get_or_default c.loop-e.edges c.loop-e.e-index zero_edge (get_or c.loop-e.edges c.loop-e.e-index zero_edge) (omega arith)) in
    rw (c.known.ensures, c.known-in-loop-e.ensures) step

pub returns-clause-ends : goal.returns-clause-ends
returns-clause-ends c =
    let all = all-ranked c.args.self.now c.args.edges.now c.loop-e.edges c.loop-e.e-index c.loop-e-test.false c.loop-e.invariant in
    subst (λ l. All (λ (e : Edge). (e.src < length c.args.self.now) × (e.dst < length c.args.self.now)) l) (sym all)
    (ranked-ends c.args.self.now c.args.edges.now c.requires)

pub returns-clause-weights : goal.returns-clause-weights
returns-clause-weights c = λ h.
    let all = all-ranked c.args.self.now c.args.edges.now c.loop-e.edges c.loop-e.e-index c.loop-e-test.false c.loop-e.invariant in
    subst (λ l. All (λ (e : Edge). (1 ≤ e.weight) × (e.weight < 2 ^ 62)) l) (sym all)
    (ranked-weights c.args.self.now c.args.edges.now h)

pub returns-then-are_ranks-clause-edges : goal.returns-then-are_ranks-clause-edges
returns-then-are_ranks-clause-edges c =
    sym (ranked-itself c.args.self.now (c.are_ranks.ensures c.if-are_ranks.true) c.args.edges.now c.requires)

pub returns-then-are_ranks-clause-ends : goal.returns-then-are_ranks-clause-ends
returns-then-are_ranks-clause-ends c =
    subst (λ l. All (λ (e : Edge). (e.src < length c.args.self.now) × (e.dst < length c.args.self.now)) l)
    (ranked-itself c.args.self.now (c.are_ranks.ensures c.if-are_ranks.true) c.args.edges.now c.requires)
    (ranked-ends c.args.self.now c.args.edges.now c.requires)
