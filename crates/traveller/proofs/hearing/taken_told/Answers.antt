use Rattle.std.proofs.Common.{◌<◌, ℕ, true, false, List, length, sym, ◌∙◌, arith}
use Rattle.dart_envelope.specs.Verdicts.{settled}
use Rattle.traveller.specs.Told.{told_classes}
use Rattle.traveller.proofs.ToldLemmas.{settled-told, told-at}
use Rattle.traveller.proofs.hearing.taken_told.Goals as goal

pub returns-in-Miss-clause-edge : goal.returns-in-Miss-clause-edge
unfolding settled
returns-in-Miss-clause-edge g c = sym (c.in-Miss.ensures.hit (told_classes (λ x. c.args.near) c.args.back c.args.dsts.now) c.requires.suits)

pub returns-in-Take-clause-edge : goal.returns-in-Take-clause-edge
unfolding settled
returns-in-Take-clause-edge g c = sym (c.in-Take.ensures.hit (told_classes (λ x. c.args.near) c.args.back c.args.dsts.now) c.requires.suits)

pub returns-in-Turned-clause-edge : goal.returns-in-Turned-clause-edge
unfolding settled
returns-in-Turned-clause-edge g c = sym (c.in-Turned.ensures.hit (told_classes (λ x. c.args.near) c.args.back c.args.dsts.now) c.requires.suits)

pub returns-then-settle-clause-edge : goal.returns-then-settle-clause-edge
returns-then-settle-clause-edge g c =
    let classes : List ℕ = told_classes (λ x. c.args.near) c.args.back c.args.dsts.now in
    let low : c.in-Need.edge < length c.args.dsts.now = (let e = c.in-Need.ensures.within in let long = c.requires.long in omega (arith, e, long)) in
    settled-told c.args.board.now classes c.in-Need.edge c.in-Need.height c.class_of-class.result true
    (told-at (λ x. c.args.near) c.args.back c.args.dsts.now c.in-Need.edge low ∙ sym c.class_of-class.ensures.class)
    (sym c.if-settle.true ∙ c.settle.ensures)
    ∙ sym (c.in-Need.ensures.hit classes c.requires.suits)

pub returns-else-settle-clause-edge : goal.returns-else-settle-clause-edge
returns-else-settle-clause-edge g c =
    let classes : List ℕ = told_classes (λ x. c.args.near) c.args.back c.args.dsts.now in
    let low : c.in-Need.edge < length c.args.dsts.now = (let e = c.in-Need.ensures.within in let long = c.requires.long in omega (arith, e, long)) in
    settled-told c.args.board.now classes c.in-Need.edge c.in-Need.height c.class_of-class.result false
    (told-at (λ x. c.args.near) c.args.back c.args.dsts.now c.in-Need.edge low ∙ sym c.class_of-class.ensures.class)
    (sym c.if-settle.false ∙ c.settle.ensures)
    ∙ sym (c.in-Need.ensures.hit classes c.requires.suits)
