use Rattle.std.proofs.Common.{◌≡◌, refl, ℕ, ◌*◌, ◌^◌, ◌≤◌, List, [], length, sum, Some, ap, sym, subst, ◌∙◌, arith}
use Rattle.std.specs.List.Sorted.{IsNonDecreasing}
use Rattle.walk_model.specs.Graph.{row}
use Rattle.walk_model.specs.Dart.{hit}
use Rattle.walk_model.specs.Factor.{greatest_factor}
use Rattle.csr_store.proofs.SearchLemmas.{row-rises}
use Rattle.dart_envelope.specs.ClassBoards.{ClassBoard, Suits, board_by}
use Rattle.node2vec_walk.specs.Destinations.{classes_to, known_of}
use Rattle.traveller.specs.declared.ruling.TypedFactors.TheVariants as typed
use Rattle.traveller.specs.Choices.{IsChoice}
use Rattle.traveller.specs.Told.{told_classes}
use Rattle.traveller.proofs.ChoiceLemmas.{IsNear, choice-after, long-dsts, near-rule}
use Rattle.traveller.proofs.FarChoice.{IsFar, far-here}
use Rattle.traveller.proofs.ToldLemmas.{told-hit, told-suits}
use Rattle.traveller.proofs.hearing.told_edge.Goals as goal

pub return_run-run-requires : goal.return_run-run-requires
return_run-run-requires g c =
    subst IsNonDecreasing (sym c.dsts-dsts.ensures.ends) (row-rises c.args.part.now.edges c.args.s.at)

pub new-board-requires : goal.new-board-requires
new-board-requires g c =
    let fs : List ℕ = c.args.factors.now in
    let by : IsNear c.args.plan.now.rule fs = near-rule c.args.plan.now.rule (typed.Node2vec fs) fs refl c.requires.rule in
    let reach : length c.args.table.now * sum c.args.table.now * greatest_factor c.args.plan.now.rule ≤ 2 ^ 62 =
    subst (λ (ws : List ℕ). length ws * sum ws * greatest_factor c.args.plan.now.rule ≤ 2 ^ 62) c.requires.weights c.requires.fits in
    let choice : IsChoice 3 c.args.table.now fs (known_of c.args.back c.dsts-dsts.result.now) (classes_to [] c.args.back c.dsts-dsts.result.now) (Some c.return_run-run.result) =
    choice-after c.args.part.now.edges c.args.plan.now c.args.s.at c.args.back fs c.args.table.now c.dsts-dsts.result.now [] c.return_run-run.result by c.requires.weights reach
    c.dsts-dsts.ensures.ends c.return_run-run.ensures.run c.return_run-run.ensures.order c.return_run-run.ensures.within in
    (omega arith, (omega arith, (choice.long, (choice.classed, (choice.fits, choice.run)))))

pub taken_told-requires-clause-long : goal.taken_told-requires-clause-long
taken_told-requires-clause-long g c =
    let long = long-dsts c.args.plan.now.weighted (row c.args.part.now.edges c.args.s.at) c.args.table.now c.dsts-dsts.result.now c.requires.weights c.dsts-dsts.ensures.ends in
    long ∙ sym (ap (λ (b : ClassBoard). length b.weights) c.new-board.ensures)

pub taken_told-requires-clause-suits : goal.taken_told-requires-clause-suits
taken_told-requires-clause-suits g c =
    let fs : List ℕ = c.args.factors.now in
    let by : IsNear c.args.plan.now.rule fs = near-rule c.args.plan.now.rule (typed.Node2vec fs) fs refl c.requires.rule in
    let long = long-dsts c.args.plan.now.weighted (row c.args.part.now.edges c.args.s.at) c.args.table.now c.dsts-dsts.result.now c.requires.weights c.dsts-dsts.ensures.ends in
    let three : length fs ≡ 3 = ap (λ (l : List ℕ). length l) by.factors in
    subst (λ (b : ClassBoard). Suits b (told_classes (λ x. c.args.near) c.args.back c.dsts-dsts.result.now)) (sym c.new-board.ensures)
    (told-suits c.args.table.now fs c.dsts-dsts.result.now c.args.back c.return_run-run.result (λ x. c.args.near) three long)

pub returns-clause-edge : goal.returns-clause-edge
returns-clause-edge g c = λ graph a of asks.
    let ws : List ℕ = c.args.table.now in
    let fs : List ℕ = c.args.factors.now in
    let dsts : List ℕ = c.dsts-dsts.result.now in
    let run : ℕ × ℕ = c.return_run-run.result in
    let reach : length ws * sum ws * greatest_factor c.args.plan.now.rule ≤ 2 ^ 62 =
    subst (λ (l : List ℕ). length l * sum l * greatest_factor c.args.plan.now.rule ≤ 2 ^ 62) c.requires.weights c.requires.fits in
    let f : IsFar graph.edges c.args.plan.now c.args.s c.args.back a ws fs dsts run =
    far-here c.args.part.now graph c.args.plan.now c.args.s c.args.back a ws fs dsts run of c.requires.at asks c.requires.rule c.requires.previous
    c.requires.weights reach c.weights-weights.ensures.range c.dsts-dsts.ensures.ends c.return_run-run.ensures.run c.return_run-run.ensures.order
    c.return_run-run.ensures.within in
    c.taken_told.ensures.edge
    ∙ ap (λ (b : ClassBoard). hit (board_by b (told_classes (λ x. c.args.near) c.args.back dsts)) c.args.word) c.new-board.ensures
    ∙ told-hit graph.edges c.args.plan.now c.args.s c.args.back a ws fs dsts run (λ x. c.args.near) c.args.word f
