use Rattle.std.proofs.Common.{ℕ, List, length, ap, sym, ◌∙◌, arith}
use Rattle.walk_model.specs.Graph.{row}
use Rattle.walk_model.specs.Dart.{Board, board_of, hit}
use Rattle.walk_model.proofs.BoardLemmas.{length-weights_of}
use Rattle.traveller.specs.declared.modes.Mode.TheVariants.{Chosen, Darts}
use Rattle.traveller.specs.Replies.{edge_mode, told_board}
use Rattle.traveller.proofs.hearing.hear_edge.Goals as goal

pub returns-in-None-clause-mode : goal.returns-in-None-clause-mode
returns-in-None-clause-mode g c =
    let none = sym (length-weights_of c.args.part.now.weighted (row c.args.part.now.edges c.args.s.at)) ∙ ap (λ (l : List ℕ). length l) c.in-None.ensures.none in
    let some = c.requires.some in
    absurd (omega (arith, none, some))

pub returns-in-None-clause-onward : goal.returns-in-None-clause-onward
returns-in-None-clause-onward g c =
    let none = sym (length-weights_of c.args.part.now.weighted (row c.args.part.now.edges c.args.s.at)) ∙ ap (λ (l : List ℕ). length l) c.in-None.ensures.none in
    let some = c.requires.some in
    absurd (omega (arith, none, some))

pub returns-in-None-told_edge-clause-mode : goal.returns-in-None-told_edge-clause-mode
returns-in-None-told_edge-clause-mode g c = λ graph a of asks.
    let b : Board = told_board a (board_of graph.edges c.args.plan.now c.args.s (row graph.edges c.args.s.at)) (λ x. c.args.near) in
    ap (λ p. Darts c.args.left p) (c.place.ensures ∙ ap (λ r. r.place) c.next-word.ensures.moved)
    ∙ ap (λ o. edge_mode o c.args.left c.args.reader.now.place)
    (c.in-None-told_edge.ensures.edge graph a of asks ∙ ap (hit b) c.next-word.ensures.word)

pub returns-clause-mode : goal.returns-clause-mode
returns-clause-mode g c = λ graph a of asks.
    let b : Board = told_board a (board_of graph.edges c.args.plan.now c.args.s (row graph.edges c.args.s.at)) (λ x. c.args.near) in
    ap (λ p. Chosen c.in-Some-told_edge.edge p) (c.place-in-Some-told_edge.ensures ∙ ap (λ r. r.place) c.next-word.ensures.moved)
    ∙ ap (λ o. edge_mode o c.args.left c.args.reader.now.place)
    (c.in-Some-told_edge.ensures.edge graph a of asks ∙ ap (hit b) c.next-word.ensures.word)

pub returns-clause-onward : goal.returns-clause-onward
returns-clause-onward g c =
    let within = c.in-Some-told_edge.ensures.within in
    let long = ap (λ (l : List ℕ). length l) (sym c.in-Some.ensures.table) ∙ length-weights_of c.args.part.now.weighted (row c.args.part.now.edges c.args.s.at) in
    let next = c.place-in-Some-told_edge.ensures ∙ ap (λ r. r.place) c.next-word.ensures.moved in
    (omega (arith, within, long), omega (arith, next))
