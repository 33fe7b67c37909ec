use Rattle.std.proofs.Common.{◌+◌, true, false, ap, sym, ◌∙◌}
use Rattle.dart_envelope.specs.Verdicts.{settled}
use Rattle.traveller.proofs.DartLemmas.{settled-need}
use Rattle.traveller.proofs.TickLemmas.{column-read}
use Rattle.traveller.proofs.throwing.taken.Goals as goal

pub returns-in-Miss-clause-edge : goal.returns-in-Miss-clause-edge
unfolding settled
returns-in-Miss-clause-edge g c = sym (c.in-Miss.ensures.hit (g.C.RowClasses.classes c.args.classes.now) c.requires.suits)

pub returns-in-Take-clause-edge : goal.returns-in-Take-clause-edge
unfolding settled
returns-in-Take-clause-edge g c = sym (c.in-Take.ensures.hit (g.C.RowClasses.classes c.args.classes.now) c.requires.suits)

pub returns-in-Turned-clause-edge : goal.returns-in-Turned-clause-edge
unfolding settled
returns-in-Turned-clause-edge g c = sym (c.in-Turned.ensures.hit (g.C.RowClasses.classes c.args.classes.now) c.requires.suits)

pub returns-then-settle-clause-edge : goal.returns-then-settle-clause-edge
returns-then-settle-clause-edge g c =
    settled-need c.args.board.now (g.C.RowClasses.classes c.args.classes.now) c.in-Need.edge c.in-Need.height c.class_at.result true c.class_at.ensures
    (sym c.if-settle.true ∙ c.settle.ensures)
    ∙ sym (c.in-Need.ensures.hit (g.C.RowClasses.classes c.args.classes.now) c.requires.suits)

pub returns-else-settle-clause-edge : goal.returns-else-settle-clause-edge
returns-else-settle-clause-edge g c =
    settled-need c.args.board.now (g.C.RowClasses.classes c.args.classes.now) c.in-Need.edge c.in-Need.height c.class_at.result false c.class_at.ensures
    (sym c.if-settle.false ∙ c.settle.ensures)
    ∙ sym (c.in-Need.ensures.hit (g.C.RowClasses.classes c.args.classes.now) c.requires.suits)

pub returns-in-Miss-clause-ticks : goal.returns-in-Miss-clause-ticks
returns-in-Miss-clause-ticks g c =
    c.in-Miss.ensures.cost ∙ ap (λ k. c.args.steps.now + k) (column-read c.args.board.now (g.C.RowClasses.classes c.args.classes.now) c.args.word)

pub returns-in-Take-clause-ticks : goal.returns-in-Take-clause-ticks
returns-in-Take-clause-ticks g c =
    c.in-Take.ensures.cost ∙ ap (λ k. c.args.steps.now + k) (column-read c.args.board.now (g.C.RowClasses.classes c.args.classes.now) c.args.word)

pub returns-in-Turned-clause-ticks : goal.returns-in-Turned-clause-ticks
returns-in-Turned-clause-ticks g c =
    c.in-Turned.ensures.cost ∙ ap (λ k. c.args.steps.now + k) (column-read c.args.board.now (g.C.RowClasses.classes c.args.classes.now) c.args.word)

pub returns-then-settle-clause-ticks : goal.returns-then-settle-clause-ticks
returns-then-settle-clause-ticks g c =
    c.in-Need.ensures.cost ∙ ap (λ k. c.args.steps.now + k) (column-read c.args.board.now (g.C.RowClasses.classes c.args.classes.now) c.args.word)

pub returns-else-settle-clause-ticks : goal.returns-else-settle-clause-ticks
returns-else-settle-clause-ticks g c =
    c.in-Need.ensures.cost ∙ ap (λ k. c.args.steps.now + k) (column-read c.args.board.now (g.C.RowClasses.classes c.args.classes.now) c.args.word)
