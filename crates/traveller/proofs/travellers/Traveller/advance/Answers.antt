use Rattle.std.proofs.Common.{◌≡◌, List, map, ap, subst, ◌∙◌}
use Rattle.std.specs.Prelude.{All}
use Rattle.walk_model.specs.declared.graph.Edge.{Edge}
use Rattle.walk_model.specs.declared.states.State.{State}
use Rattle.walk_model.specs.Graph.{row}
use Rattle.walk_model.specs.Letters.{Journey}
use Rattle.csr_store.specs.OutEdges.{out_edge}
use Rattle.csr_store.specs.Shelves.{IsOutEdge}
use Rattle.traveller.specs.declared.runs.Run.{Run}
use Rattle.traveller.specs.RuleFactors.{AreTyped}
use Rattle.traveller.specs.Deciding.{gone}
use Rattle.traveller.specs.PartedRuns.{PartedRun, journey_from}
use Rattle.traveller.specs.Standing.{journey_on, parted}
use Rattle.traveller.specs.Walkers.{Walker}
use Rattle.traveller.proofs.FairLemmas.{fair-darts}
use Rattle.traveller.proofs.TurnLemmas.{halves}
use Rattle.traveller.proofs.travellers.Traveller.advance.Goals as goal

pub returns-clause-data : goal.returns-clause-data
returns-clause-data g c = λ graph of.
    let w : Walker = c.args.self.now in
    let d : Walker = c.decide.new.self in
    let run : PartedRun = parted graph c.args.run.now c.args.part.now.cuts in
    let j : Journey = journey_on graph c.args.run.now c.args.part.now.cuts w in
    let same : journey_on graph c.args.run.now c.args.part.now.cuts d ≡ j =
    ap (λ n. journey_from run n d.start) c.decide.ensures.number ∙ ap (journey_from run w.number) c.decide.ensures.start in
    c.go.ensures.data graph of
    ∙ ap (λ k. gone k d) same
    ∙ ap (gone j) (c.decide.ensures.data graph of)
    ∙ halves j w c.requires.ready

pub returns-clause-fair : goal.returns-clause-fair
returns-clause-fair g c = λ graph of some.
    let s : State = c.args.self.now.state in
    let own : List Edge = row c.args.part.now.edges s.at in
    let same : own ≡ row graph.edges s.at = of.rows s.at (record { below = c.requires.stands.within.at; owner_is = c.requires.stands.owned }) in
    let each : All (IsOutEdge c.args.part.now.vertices) (map out_edge own) = rw (c.row-row.ensures.row, c.at.ensures) at c.row-row.ensures.edges in
    let all : All (IsOutEdge c.args.part.now.vertices) (map out_edge (row graph.edges s.at)) = rw same at each in
    let typed : AreTyped c.args.run.now.plan.rule c.rule_factors-factors.result.typed =
    subst (λ (r : Run). AreTyped r.plan.rule c.rule_factors-factors.result.typed) c.run.view_is c.rule_factors-factors.ensures.typed in
    fair-darts graph.edges c.args.run.now.plan c.rule_factors-factors.result.typed s s.at c.args.part.now.vertices typed all some
