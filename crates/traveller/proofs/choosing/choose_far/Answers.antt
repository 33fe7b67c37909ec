use Rattle.std.proofs.Common.{◌≡◌, refl, ℕ, ◌*◌, ◌^◌, ◌≤◌, List, [], length, sum, Some, ap, sym, subst, ◌∙◌, arith}
use Rattle.std.specs.Prelude.{slice_index}
use Rattle.std.specs.List.Sorted.{IsNonDecreasing}
use Rattle.walk_model.specs.declared.messages.Question.TheVariants as question
use Rattle.walk_model.specs.Words.{word}
use Rattle.walk_model.specs.Graph.{row, ends_of}
use Rattle.walk_model.specs.Factor.{greatest_factor}
use Rattle.csr_store.proofs.SearchLemmas.{row-rises}
use Rattle.dart_envelope.specs.ClassBoards.{ClassBoard}
use Rattle.node2vec_walk.specs.Destinations.{classes_to, known_of}
use Rattle.traveller.specs.declared.modes.Mode.TheVariants.{Asked, Chosen}
use Rattle.traveller.specs.declared.far_throwing.Far.TheVariants as far
use Rattle.traveller.specs.declared.ruling.TypedFactors.TheVariants as typed
use Rattle.traveller.specs.Choices.{IsChoice}
use Rattle.traveller.proofs.ChoiceLemmas.{IsNear, choice-after, long-dsts, near-rule}
use Rattle.traveller.proofs.FarChoice.{IsFar, far-comes, far-here, far-reads, far-scan-is}
use Rattle.traveller.proofs.choosing.choose_far.Goals as goal

pub return_run-run-requires : goal.return_run-run-requires
return_run-run-requires g c =
    subst IsNonDecreasing (sym c.dsts-dsts.ensures.ends) (row-rises c.args.part.now.edges c.args.s.at)

pub new-board-requires : goal.new-board-requires
new-board-requires g c =
    let fs : List ℕ = c.args.factors.now in
    let by : IsNear c.args.plan.now.rule fs = near-rule c.args.plan.now.rule (typed.Node2vec fs) fs refl c.requires.rule in
    let reach : length c.args.table.now * sum c.args.table.now * greatest_factor c.args.plan.now.rule ≤ 2 ^ 62 =
    subst (λ (ws : List ℕ). length ws * sum ws * greatest_factor c.args.plan.now.rule ≤ 2 ^ 62) c.requires.weights c.requires.fits in
    let choice : IsChoice 3 c.args.table.now fs (known_of c.args.back c.dsts-dsts.result.now) (classes_to [] c.args.back c.dsts-dsts.result.now) (Some c.return_run-run.result) =
    choice-after c.args.part.now.edges c.args.plan.now c.args.s.at c.args.back fs c.args.table.now c.dsts-dsts.result.now [] c.return_run-run.result by c.requires.weights reach
    c.dsts-dsts.ensures.ends c.return_run-run.ensures.run c.return_run-run.ensures.order c.return_run-run.ensures.within in
    (omega arith, (omega arith, (choice.long, (choice.classed, (choice.fits, choice.run)))))

pub returns-in-Take-clause-mode : goal.returns-in-Take-clause-mode
returns-in-Take-clause-mode g c = λ graph a of asks.
    let ws : List ℕ = c.args.table.now in
    let fs : List ℕ = c.args.factors.now in
    let dsts : List ℕ = c.dsts-dsts.result.now in
    let run : ℕ × ℕ = c.return_run-run.result in
    let words : ℕ → ℕ = word c.args.reader.now.seed c.args.reader.now.walker in
    let next : ℕ = c.throw_far.new.reader.place in
    let reach : length ws * sum ws * greatest_factor c.args.plan.now.rule ≤ 2 ^ 62 =
    subst (λ (l : List ℕ). length l * sum l * greatest_factor c.args.plan.now.rule ≤ 2 ^ 62) c.requires.weights c.requires.fits in
    let f : IsFar graph.edges c.args.plan.now c.args.s c.args.back a ws fs dsts run =
    far-here c.args.part.now graph c.args.plan.now c.args.s c.args.back a ws fs dsts run of c.requires.at asks c.requires.rule c.requires.previous
    c.requires.weights reach c.weights-weights.ensures.range c.dsts-dsts.ensures.ends c.return_run-run.ensures.run c.return_run-run.ensures.order
    c.return_run-run.ensures.within in
    far-comes c.args.left graph.edges c.args.plan.now c.args.s c.args.back a ws fs dsts run words c.args.reader.now.place next c.new-board.result
    (far.Take c.in-Take.edge) f c.new-board.ensures c.in-Take.ensures.mode
    ∙ ap (λ p. Chosen c.in-Take.edge p) (sym c.place.ensures)

pub returns-in-Ask-clause-mode : goal.returns-in-Ask-clause-mode
returns-in-Ask-clause-mode g c = λ graph a of asks.
    let ws : List ℕ = c.args.table.now in
    let fs : List ℕ = c.args.factors.now in
    let dsts : List ℕ = c.dsts-dsts.result.now in
    let run : ℕ × ℕ = c.return_run-run.result in
    let words : ℕ → ℕ = word c.args.reader.now.seed c.args.reader.now.walker in
    let next : ℕ = c.throw_far.new.reader.place in
    let reach : length ws * sum ws * greatest_factor c.args.plan.now.rule ≤ 2 ^ 62 =
    subst (λ (l : List ℕ). length l * sum l * greatest_factor c.args.plan.now.rule ≤ 2 ^ 62) c.requires.weights c.requires.fits in
    let f : IsFar graph.edges c.args.plan.now c.args.s c.args.back a ws fs dsts run =
    far-here c.args.part.now graph c.args.plan.now c.args.s c.args.back a ws fs dsts run of c.requires.at asks c.requires.rule c.requires.previous
    c.requires.weights reach c.weights-weights.ensures.range c.dsts-dsts.ensures.ends c.return_run-run.ensures.run c.return_run-run.ensures.order
    c.return_run-run.ensures.within in
    let end : slice_index a.ends c.in-Ask.edge ≡ slice_index dsts c.in-Ask.edge =
    ap (λ (es : List ℕ). slice_index es c.in-Ask.edge) (asks.ends ∙ sym f.dsts_are) in
    far-comes c.args.left graph.edges c.args.plan.now c.args.s c.args.back a ws fs dsts run words c.args.reader.now.place next c.new-board.result
    (far.Ask c.in-Ask.left c.in-Ask.edge) f c.new-board.ensures c.in-Ask.ensures.mode
    ∙ ap (λ p. Asked c.in-Ask.left p (question.Edge a.before (slice_index a.ends c.in-Ask.edge))) (sym c.place-in-Ask.ensures)
    ∙ ap (λ t. Asked c.in-Ask.left c.place-in-Ask.result (question.Edge t (slice_index a.ends c.in-Ask.edge))) asks.before
    ∙ ap (λ x. Asked c.in-Ask.left c.place-in-Ask.result (question.Edge c.args.back x)) end

pub returns-in-Spent-clause-mode : goal.returns-in-Spent-clause-mode
returns-in-Spent-clause-mode g c = λ graph a of asks.
    let ws : List ℕ = c.args.table.now in
    let fs : List ℕ = c.args.factors.now in
    let dsts : List ℕ = c.dsts-dsts.result.now in
    let run : ℕ × ℕ = c.return_run-run.result in
    let words : ℕ → ℕ = word c.args.reader.now.seed c.args.reader.now.walker in
    let next : ℕ = c.throw_far.new.reader.place in
    let reach : length ws * sum ws * greatest_factor c.args.plan.now.rule ≤ 2 ^ 62 =
    subst (λ (l : List ℕ). length l * sum l * greatest_factor c.args.plan.now.rule ≤ 2 ^ 62) c.requires.weights c.requires.fits in
    let f : IsFar graph.edges c.args.plan.now c.args.s c.args.back a ws fs dsts run =
    far-here c.args.part.now graph c.args.plan.now c.args.s c.args.back a ws fs dsts run of c.requires.at asks c.requires.rule c.requires.previous
    c.requires.weights reach c.weights-weights.ensures.range c.dsts-dsts.ensures.ends c.return_run-run.ensures.run c.return_run-run.ensures.order
    c.return_run-run.ensures.within in
    let near : List ℕ = ends_of (row graph.edges c.args.back) in
    let seed : c.throw_far.new.reader.seed ≡ c.args.reader.now.seed = ap (λ r. r.seed) c.in-Spent.ensures.stream in
    let walker : c.throw_far.new.reader.walker ≡ c.args.reader.now.walker = ap (λ r. r.walker) c.in-Spent.ensures.stream in
    let told = c.scan_far.ensures.mode in
    far-comes c.args.left graph.edges c.args.plan.now c.args.s c.args.back a ws fs dsts run words c.args.reader.now.place next c.new-board.result
    (far.Spent) f c.new-board.ensures c.in-Spent.ensures.mode
    ∙ far-scan-is a ws fs dsts near [] c.args.back run words next f.factors asks.before
    ∙ sym (rw (seed, walker) at told)

pub scan_far-requires-clause-row : goal.scan_far-requires-clause-row
scan_far-requires-clause-row g c =
    let fs : List ℕ = c.args.factors.now in
    let by : IsNear c.args.plan.now.rule fs = near-rule c.args.plan.now.rule (typed.Node2vec fs) fs refl c.requires.rule in
    let reach : length c.args.table.now * sum c.args.table.now * greatest_factor c.args.plan.now.rule ≤ 2 ^ 62 =
    subst (λ (ws : List ℕ). length ws * sum ws * greatest_factor c.args.plan.now.rule ≤ 2 ^ 62) c.requires.weights c.requires.fits in
    choice-after c.args.part.now.edges c.args.plan.now c.args.s.at c.args.back fs c.args.table.now c.dsts-dsts.result.now [] c.return_run-run.result by c.requires.weights reach
    c.dsts-dsts.ensures.ends c.return_run-run.ensures.run c.return_run-run.ensures.order c.return_run-run.ensures.within

pub bounds-dsts-edge : goal.bounds-dsts-edge
bounds-dsts-edge g c =
    let long = long-dsts c.args.plan.now.weighted (row c.args.part.now.edges c.args.s.at) c.args.table.now c.dsts-dsts.result.now c.requires.weights c.dsts-dsts.ensures.ends in
    let within = c.in-Ask.ensures.within in
    let made : length c.new-board.result.weights ≡ length c.args.table.now = ap (λ (b : ClassBoard). length b.weights) c.new-board.ensures in
    omega (arith, long, made, within.0)

pub returns-in-Take-clause-ticks : goal.returns-in-Take-clause-ticks
returns-in-Take-clause-ticks g c = λ graph a of asks.
    let ws : List ℕ = c.args.table.now in
    let fs : List ℕ = c.args.factors.now in
    let dsts : List ℕ = c.dsts-dsts.result.now in
    let run : ℕ × ℕ = c.return_run-run.result in
    let words : ℕ → ℕ = word c.args.reader.now.seed c.args.reader.now.walker in
    let reach : length ws * sum ws * greatest_factor c.args.plan.now.rule ≤ 2 ^ 62 =
    subst (λ (l : List ℕ). length l * sum l * greatest_factor c.args.plan.now.rule ≤ 2 ^ 62) c.requires.weights c.requires.fits in
    let f : IsFar graph.edges c.args.plan.now c.args.s c.args.back a ws fs dsts run =
    far-here c.args.part.now graph c.args.plan.now c.args.s c.args.back a ws fs dsts run of c.requires.at asks c.requires.rule c.requires.previous
    c.requires.weights reach c.weights-weights.ensures.range c.dsts-dsts.ensures.ends c.return_run-run.ensures.run c.return_run-run.ensures.order
    c.return_run-run.ensures.within in
    far-reads c.args.left graph.edges c.args.plan.now c.args.s c.args.back a ws fs dsts run words c.args.reader.now.place c.args.steps.now c.throw_far.new.steps
    c.new-board.result f c.new-board.ensures c.in-Take.ensures.ticks

pub returns-in-Ask-clause-ticks : goal.returns-in-Ask-clause-ticks
returns-in-Ask-clause-ticks g c = λ graph a of asks.
    let ws : List ℕ = c.args.table.now in
    let fs : List ℕ = c.args.factors.now in
    let dsts : List ℕ = c.dsts-dsts.result.now in
    let run : ℕ × ℕ = c.return_run-run.result in
    let words : ℕ → ℕ = word c.args.reader.now.seed c.args.reader.now.walker in
    let reach : length ws * sum ws * greatest_factor c.args.plan.now.rule ≤ 2 ^ 62 =
    subst (λ (l : List ℕ). length l * sum l * greatest_factor c.args.plan.now.rule ≤ 2 ^ 62) c.requires.weights c.requires.fits in
    let f : IsFar graph.edges c.args.plan.now c.args.s c.args.back a ws fs dsts run =
    far-here c.args.part.now graph c.args.plan.now c.args.s c.args.back a ws fs dsts run of c.requires.at asks c.requires.rule c.requires.previous
    c.requires.weights reach c.weights-weights.ensures.range c.dsts-dsts.ensures.ends c.return_run-run.ensures.run c.return_run-run.ensures.order
    c.return_run-run.ensures.within in
    far-reads c.args.left graph.edges c.args.plan.now c.args.s c.args.back a ws fs dsts run words c.args.reader.now.place c.args.steps.now c.throw_far.new.steps
    c.new-board.result f c.new-board.ensures c.in-Ask.ensures.ticks

pub returns-in-Spent-clause-ticks : goal.returns-in-Spent-clause-ticks
returns-in-Spent-clause-ticks g c = λ graph a of asks.
    let ws : List ℕ = c.args.table.now in
    let fs : List ℕ = c.args.factors.now in
    let dsts : List ℕ = c.dsts-dsts.result.now in
    let run : ℕ × ℕ = c.return_run-run.result in
    let words : ℕ → ℕ = word c.args.reader.now.seed c.args.reader.now.walker in
    let reach : length ws * sum ws * greatest_factor c.args.plan.now.rule ≤ 2 ^ 62 =
    subst (λ (l : List ℕ). length l * sum l * greatest_factor c.args.plan.now.rule ≤ 2 ^ 62) c.requires.weights c.requires.fits in
    let f : IsFar graph.edges c.args.plan.now c.args.s c.args.back a ws fs dsts run =
    far-here c.args.part.now graph c.args.plan.now c.args.s c.args.back a ws fs dsts run of c.requires.at asks c.requires.rule c.requires.previous
    c.requires.weights reach c.weights-weights.ensures.range c.dsts-dsts.ensures.ends c.return_run-run.ensures.run c.return_run-run.ensures.order
    c.return_run-run.ensures.within in
    far-reads c.args.left graph.edges c.args.plan.now c.args.s c.args.back a ws fs dsts run words c.args.reader.now.place c.args.steps.now c.throw_far.new.steps
    c.new-board.result f c.new-board.ensures c.in-Spent.ensures.ticks
