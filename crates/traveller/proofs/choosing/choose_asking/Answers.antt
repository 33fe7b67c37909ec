use Rattle.std.proofs.Common.{◌≡◌, ◌+◌, ℕ, List, length, Some, ap, sym, ◌∙◌, arith}
use Rattle.walk_model.specs.Words.{word}
use Rattle.walk_model.specs.Graph.{row, weights_of}
use Rattle.walk_model.specs.Dart.{Board, board_of}
use Rattle.walk_model.proofs.BoardLemmas.{length-weights_of}
use Rattle.traveller.proofs.AskerLemmas.{row-empty, row-full}
use Rattle.traveller.proofs.DecidedLemmas.{inside-more}
use Rattle.traveller.proofs.FarTicks.{asked-empty, asked-full}
use Rattle.traveller.proofs.choosing.choose_asking.Goals as goal

pub returns-in-None-clause-mode : goal.returns-in-None-clause-mode
returns-in-None-clause-mode g c = λ graph a of asks.
    let here : row c.args.part.now.edges c.args.s.at ≡ row graph.edges c.args.s.at = of.rows c.args.s.at c.requires.at in
    let words : ℕ → ℕ = word c.args.reader.now.seed c.args.reader.now.walker in
    let board : Board = board_of graph.edges c.args.plan.now c.args.s (row graph.edges c.args.s.at) in
    row-empty c.args.left (Some a) board c.args.part.now.weighted (row graph.edges c.args.s.at) words c.args.reader.now.place (rw here at c.in-None.ensures.none)

pub returns-in-Some-clause-mode : goal.returns-in-Some-clause-mode
returns-in-Some-clause-mode g c = λ graph a of asks.
    let here : row c.args.part.now.edges c.args.s.at ≡ row graph.edges c.args.s.at = of.rows c.args.s.at c.requires.at in
    let words : ℕ → ℕ = word c.args.reader.now.seed c.args.reader.now.walker in
    let board : Board = board_of graph.edges c.args.plan.now c.args.s (row graph.edges c.args.s.at) in
    let weights : weights_of c.args.part.now.weighted (row graph.edges c.args.s.at) ≡ c.in-Some.table.now = rw here at c.in-Some.ensures.table in
    row-full c.args.left (Some a) board c.args.part.now.weighted (row graph.edges c.args.s.at) c.in-Some.table.now words c.args.reader.now.place weights c.in-Some.ensures.row.some
    ∙ c.choose_far.ensures.mode graph a of asks

pub returns-in-Some-clause-inside : goal.returns-in-Some-clause-inside
returns-in-Some-clause-inside g c =
    let long = ap (λ (l : List ℕ). length l) (sym c.in-Some.ensures.table) ∙ length-weights_of c.args.part.now.weighted (row c.args.part.now.edges c.args.s.at) in
    inside-more (length c.in-Some.table.now) (length (row c.args.part.now.edges c.args.s.at)) (c.args.reader.now.place + c.args.left + 64) (c.args.reader.now.place + c.args.left + 64)
    c.choose_far.result long (omega arith) c.choose_far.ensures.inside

pub returns-in-None-clause-ticks : goal.returns-in-None-clause-ticks
returns-in-None-clause-ticks g c = λ graph a of asks.
    let here : row c.args.part.now.edges c.args.s.at ≡ row graph.edges c.args.s.at = of.rows c.args.s.at c.requires.at in
    let words : ℕ → ℕ = word c.args.reader.now.seed c.args.reader.now.walker in
    let board : Board = board_of graph.edges c.args.plan.now c.args.s (row graph.edges c.args.s.at) in
    let none = asked-empty c.args.left (Some a) board c.args.part.now.weighted (row graph.edges c.args.s.at) words c.args.reader.now.place (rw here at c.in-None.ensures.none) in
    omega (arith, none)

pub returns-in-Some-clause-ticks : goal.returns-in-Some-clause-ticks
returns-in-Some-clause-ticks g c = λ graph a of asks.
    let here : row c.args.part.now.edges c.args.s.at ≡ row graph.edges c.args.s.at = of.rows c.args.s.at c.requires.at in
    let words : ℕ → ℕ = word c.args.reader.now.seed c.args.reader.now.walker in
    let board : Board = board_of graph.edges c.args.plan.now c.args.s (row graph.edges c.args.s.at) in
    let weights : weights_of c.args.part.now.weighted (row graph.edges c.args.s.at) ≡ c.in-Some.table.now = rw here at c.in-Some.ensures.table in
    c.choose_far.ensures.ticks graph a of asks
    ∙ ap (λ n. c.args.steps.now + n) (asked-full c.args.left (Some a) board c.args.part.now.weighted (row graph.edges c.args.s.at) c.in-Some.table.now words c.args.reader.now.place weights c.in-Some.ensures.row.some)
