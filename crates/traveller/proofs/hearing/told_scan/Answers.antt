use Rattle.std.proofs.Common.{rules, ◌≡◌, refl, ℕ, ◌*◌, ◌^◌, ◌≤◌, List, length, sum, Some, ap, sym, subst, ◌∙◌}
use Rattle.std.specs.List.Sorted.{IsNonDecreasing}
use Rattle.walk_model.specs.Words.{word}
use Rattle.walk_model.specs.Graph.{row}
use Rattle.walk_model.specs.Factor.{greatest_factor}
use Rattle.csr_store.proofs.SearchLemmas.{row-rises}
use Rattle.node2vec_walk.specs.Destinations.{classes_to, is_among, known_of}
use Rattle.traveller.specs.declared.modes.Mode.TheVariants.{Chosen}
use Rattle.traveller.specs.declared.ruling.TypedFactors.TheVariants as typed
use Rattle.traveller.specs.Choices.{IsChoice}
use Rattle.traveller.specs.Turns.{chosen_or_over}
use Rattle.traveller.proofs.ChoiceLemmas.{IsNear, choice-after, long-dsts, near-rule}
use Rattle.traveller.proofs.FarChoice.{IsFar, far-here}
use Rattle.traveller.proofs.ToldLemmas.{told-found, told-scanned}
use Rattle.traveller.proofs.hearing.told_scan.Goals as goal

pub return_run-run-requires : goal.return_run-run-requires
return_run-run-requires c =
    subst IsNonDecreasing (sym c.dsts-dsts.ensures.ends) (row-rises c.args.part.now.edges c.args.s.at)

pub scan_row-requires : goal.scan_row-requires
scan_row-requires c =
    let fs : List ℕ = c.args.factors.now in
    let by : IsNear c.args.plan.now.rule fs = near-rule c.args.plan.now.rule (typed.Node2vec fs) fs refl c.requires.rule in
    let reach : length c.args.table.now * sum c.args.table.now * greatest_factor c.args.plan.now.rule ≤ 2 ^ 62 =
    subst (λ (ws : List ℕ). length ws * sum ws * greatest_factor c.args.plan.now.rule ≤ 2 ^ 62) c.requires.weights c.requires.fits in
    let choice : IsChoice 3 c.args.table.now fs (known_of c.args.back c.dsts-dsts.result.now) (classes_to c.args.ends.now c.args.back c.dsts-dsts.result.now) (Some c.return_run-run.result) =
    choice-after c.args.part.now.edges c.args.plan.now c.args.s.at c.args.back fs c.args.table.now c.dsts-dsts.result.now c.args.ends.now c.return_run-run.result by c.requires.weights reach
    c.dsts-dsts.ensures.ends c.return_run-run.ensures.run c.return_run-run.ensures.order c.return_run-run.ensures.within in
    (search rules, (choice, search rules))

pub returns-in-Some-clause-mode : goal.returns-in-Some-clause-mode
returns-in-Some-clause-mode c = λ graph a of asks.
    let ws : List ℕ = c.args.table.now in
    let fs : List ℕ = c.args.factors.now in
    let dsts : List ℕ = c.dsts-dsts.result.now in
    let run : ℕ × ℕ = c.return_run-run.result in
    let words : ℕ → ℕ = word c.args.reader.now.seed c.args.reader.now.walker in
    let reach : length ws * sum ws * greatest_factor c.args.plan.now.rule ≤ 2 ^ 62 =
    subst (λ (l : List ℕ). length l * sum l * greatest_factor c.args.plan.now.rule ≤ 2 ^ 62) c.requires.weights c.requires.fits in
    let f : IsFar graph.edges c.args.plan.now c.args.s c.args.back a ws fs dsts run =
    far-here c.args.part.now graph c.args.plan.now c.args.s c.args.back a ws fs dsts run of c.requires.at asks c.requires.rule c.requires.previous
    c.requires.weights reach c.weights-weights.ensures.range c.dsts-dsts.ensures.ends c.return_run-run.ensures.run c.return_run-run.ensures.order
    c.return_run-run.ensures.within in
    ap (λ p. Chosen c.in-Some.edge p) c.place.ensures
    ∙ ap chosen_or_over (c.in-Some.ensures.edge
    ∙ told-scanned graph.edges c.args.plan.now c.args.s c.args.back a ws fs dsts run (is_among c.args.ends.now) words c.args.reader.now.place f)

pub returns-in-None-clause-mode : goal.returns-in-None-clause-mode
returns-in-None-clause-mode c =
    let fs : List ℕ = c.args.factors.now in
    let by : IsNear c.args.plan.now.rule fs = near-rule c.args.plan.now.rule (typed.Node2vec fs) fs refl c.requires.rule in
    let long = long-dsts c.args.plan.now.weighted (row c.args.part.now.edges c.args.s.at) c.args.table.now c.dsts-dsts.result.now c.requires.weights c.dsts-dsts.ensures.ends in
    let three : length fs ≡ 3 = ap (λ (l : List ℕ). length l) by.factors in
    absurd (told-found c.args.table.now fs c.dsts-dsts.result.now c.args.back c.return_run-run.result (is_among c.args.ends.now)
    (word c.args.reader.now.seed c.args.reader.now.walker) c.args.reader.now.place c.weights-weights.ensures.range c.requires.heavy three long c.in-None.ensures.edge)

pub returns-in-None-clause-onward : goal.returns-in-None-clause-onward
returns-in-None-clause-onward c =
    let fs : List ℕ = c.args.factors.now in
    let by : IsNear c.args.plan.now.rule fs = near-rule c.args.plan.now.rule (typed.Node2vec fs) fs refl c.requires.rule in
    let long = long-dsts c.args.plan.now.weighted (row c.args.part.now.edges c.args.s.at) c.args.table.now c.dsts-dsts.result.now c.requires.weights c.dsts-dsts.ensures.ends in
    let three : length fs ≡ 3 = ap (λ (l : List ℕ). length l) by.factors in
    absurd (told-found c.args.table.now fs c.dsts-dsts.result.now c.args.back c.return_run-run.result (is_among c.args.ends.now)
    (word c.args.reader.now.seed c.args.reader.now.walker) c.args.reader.now.place c.weights-weights.ensures.range c.requires.heavy three long c.in-None.ensures.edge)
