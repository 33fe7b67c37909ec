use Rattle.std.proofs.Common.{◌<◌, ◌≤◌, get_or, sym, ap, ◌∙◌}
use Rattle.std.specs.Prelude.{slice_get}
use Rattle.dart_envelope.specs.ClassBoards.{ClassBoard, low}
use Rattle.dart_envelope.proofs.BoardLaws.{judged-take, judged-turned, judged-any, judged-need}
use Rattle.dart_envelope.proofs.board.Board.judge.Goals as goal

pub returns-in-Some-clause-verdict : goal.returns-in-Some-clause-verdict
returns-in-Some-clause-verdict g c =
    let told = c.known.ensures ∙ ap (λ (b : ClassBoard). slice_get b.known c.args.edge) c.self.view_is in
    let under : c.args.height < get_or c.args.self.now.factors c.in-Some.class 0 = rw (← c.factor.ensures) c.if-height-factor.true in
    sym (judged-take c.args.self.now c.args.edge c.args.height c.in-Some.class c.known.result c.in-Some.is told under)

pub returns-in-Some-2-clause-verdict : goal.returns-in-Some-2-clause-verdict
returns-in-Some-2-clause-verdict g c =
    let told = c.known.ensures ∙ ap (λ (b : ClassBoard). slice_get b.known c.args.edge) c.self.view_is in
    let above : get_or c.args.self.now.factors c.in-Some.class 0 ≤ c.args.height = rw (← c.factor.ensures) c.if-height-factor.false in
    sym (judged-turned c.args.self.now c.args.edge c.args.height c.in-Some.class c.known.result c.in-Some.is told above)

pub returns-in-None-clause-verdict : goal.returns-in-None-clause-verdict
returns-in-None-clause-verdict g c =
    let told = c.known.ensures ∙ ap (λ (b : ClassBoard). slice_get b.known c.args.edge) c.self.view_is in
    let made = rw c.self.view_is at c.self.invariant in
    let under : c.args.height < low c.args.self.now = rw (← made.least_is) c.if-height-self.true in
    sym (judged-any c.args.self.now c.args.edge c.args.height c.known.result c.in-None.is told under)

pub returns-in-None-2-clause-verdict : goal.returns-in-None-2-clause-verdict
returns-in-None-2-clause-verdict g c =
    let told = c.known.ensures ∙ ap (λ (b : ClassBoard). slice_get b.known c.args.edge) c.self.view_is in
    let made = rw c.self.view_is at c.self.invariant in
    let above : low c.args.self.now ≤ c.args.height = rw (← made.least_is) c.if-height-self.false in
    sym (judged-need c.args.self.now c.args.edge c.args.height c.known.result c.in-None.is told above)
