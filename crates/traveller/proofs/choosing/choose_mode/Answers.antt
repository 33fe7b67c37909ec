use Rattle.std.proofs.Common.{◌+◌, ℕ, List, length, ap, sym, ◌∙◌, arith}
use Rattle.walk_model.specs.declared.graph.Edge.{Edge}
use Rattle.walk_model.specs.Words.{word}
use Rattle.walk_model.specs.Graph.{row}
use Rattle.walk_model.specs.Dart.{board_of}
use Rattle.walk_model.proofs.BoardLemmas.{length-weights_of}
use Rattle.traveller.specs.declared.modes.Mode.TheVariants.{Chosen}
use Rattle.traveller.proofs.StepLemmas.{mode-none, mode-nothing, mode-some}
use Rattle.traveller.proofs.ChoiceTicks.{ticks-empty, ticks-row, board-long}
use Rattle.traveller.proofs.choosing.choose_mode.Goals as goal

pub returns-in-None-clause-mode : goal.returns-in-None-clause-mode
returns-in-None-clause-mode g c =
    let out : List Edge = row c.args.part.now.edges c.args.s.at in
    mode-none c.args.left (board_of c.args.part.now.edges c.args.plan.now c.args.s out) c.args.part.now.weighted out
    (word c.args.reader.now.seed c.args.reader.now.walker) c.args.reader.now.place c.in-None.ensures.none

pub returns-in-None-choose_edge-clause-mode : goal.returns-in-None-choose_edge-clause-mode
returns-in-None-choose_edge-clause-mode g c =
    let out : List Edge = row c.args.part.now.edges c.args.s.at in
    mode-nothing c.args.left (board_of c.args.part.now.edges c.args.plan.now c.args.s out) out
    (word c.args.reader.now.seed c.args.reader.now.walker) c.args.reader.now.place c.in-None-choose_edge.ensures.edge

pub returns-in-Some-choose_edge-clause-mode : goal.returns-in-Some-choose_edge-clause-mode
returns-in-Some-choose_edge-clause-mode g c =
    let out : List Edge = row c.args.part.now.edges c.args.s.at in
    ap (λ p. Chosen c.in-Some-choose_edge.edge p) c.place.ensures
    ∙ mode-some c.args.left (board_of c.args.part.now.edges c.args.plan.now c.args.s out) c.args.part.now.weighted out c.in-Some.table.now
    (word c.args.reader.now.seed c.args.reader.now.walker) c.args.reader.now.place c.in-Some-choose_edge.edge c.choose_edge.new.reader.place
    c.in-Some.ensures.table c.in-Some-choose_edge.ensures.within c.in-Some-choose_edge.ensures.edge

pub returns-in-Some-choose_edge-clause-inside : goal.returns-in-Some-choose_edge-clause-inside
returns-in-Some-choose_edge-clause-inside g c =
    let within = c.in-Some-choose_edge.ensures.within in
    let long = ap (λ (l : List ℕ). length l) (sym c.in-Some.ensures.table) ∙ length-weights_of c.args.part.now.weighted (row c.args.part.now.edges c.args.s.at) in
    let next = c.in-Some-choose_edge.ensures.next in
    let place = c.place.ensures in
    (omega (arith, within, long), omega (arith, next, place))

pub returns-in-None-clause-ticks : goal.returns-in-None-clause-ticks
returns-in-None-clause-ticks g c =
    let out : List Edge = row c.args.part.now.edges c.args.s.at in
    let none = ticks-empty c.args.left (board_of c.args.part.now.edges c.args.plan.now c.args.s out) c.args.part.now.weighted out
    (word c.args.reader.now.seed c.args.reader.now.walker) c.args.reader.now.place c.in-None.ensures.none in
    omega (arith, none)

pub returns-in-None-choose_edge-clause-ticks : goal.returns-in-None-choose_edge-clause-ticks
returns-in-None-choose_edge-clause-ticks g c =
    let out : List Edge = row c.args.part.now.edges c.args.s.at in
    c.in-None-choose_edge.ensures.ticks
    ∙ ap (λ n. c.args.steps.now + n) (ticks-row c.args.left (board_of c.args.part.now.edges c.args.plan.now c.args.s out) out
    (word c.args.reader.now.seed c.args.reader.now.walker) c.args.reader.now.place (board-long c.args.part.now.edges c.args.plan.now c.args.s out))

pub returns-in-Some-choose_edge-clause-ticks : goal.returns-in-Some-choose_edge-clause-ticks
returns-in-Some-choose_edge-clause-ticks g c =
    let out : List Edge = row c.args.part.now.edges c.args.s.at in
    c.in-Some-choose_edge.ensures.ticks
    ∙ ap (λ n. c.args.steps.now + n) (ticks-row c.args.left (board_of c.args.part.now.edges c.args.plan.now c.args.s out) out
    (word c.args.reader.now.seed c.args.reader.now.walker) c.args.reader.now.place (board-long c.args.part.now.edges c.args.plan.now c.args.s out))
