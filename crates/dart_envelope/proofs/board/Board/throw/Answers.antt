use Rattle.std.proofs.Common.{◌≡◌, ◌<◌, ◌≤◌, sym, ◌∙◌, Some, None, arith}
use Rattle.walk_model.specs.Words.{fold_word}
use Rattle.walk_model.specs.Dart.{main_area, area}
use Rattle.dart_envelope.specs.ClassBoards.{frame}
use Rattle.dart_envelope.proofs.BoardLaws.{verdict-miss, miss-settles, verdict-place, place-settles, read-none, read-main, read-strip, settles-vain}
use Rattle.dart_envelope.proofs.HitLaws.{fair-hits}
use Rattle.dart_envelope.proofs.board.Board.throw.Goals as goal

pub returns-in-None-clause-verdict : goal.returns-in-None-clause-verdict
returns-in-None-clause-verdict g c =
    let b = c.args.self.now in
    let folds : None ≡ fold_word (area (frame b)) c.args.word =
    sym c.in-None.is ∙ c.place_of.ensures.value in
    verdict-miss b c.args.word folds

pub returns-in-None-clause-cost : goal.returns-in-None-clause-cost
returns-in-None-clause-cost g c =
    let b = c.args.self.now in
    let folds : None ≡ fold_word (area (frame b)) c.args.word =
    sym c.in-None.is ∙ c.place_of.ensures.value in
    let none = read-none b _ folds in
    omega (arith, none)

pub returns-in-None-clause-hit : goal.returns-in-None-clause-hit
returns-in-None-clause-hit g c =
    let b = c.args.self.now in
    let folds : None ≡ fold_word (area (frame b)) c.args.word =
    sym c.in-None.is ∙ c.place_of.ensures.value in
    miss-settles b c.args.word folds

pub returns-in-Some-clause-verdict : goal.returns-in-Some-clause-verdict
returns-in-Some-clause-verdict g c =
    let b = c.args.self.now in
    let folds : Some c.in-Some.place ≡ fold_word (area (frame b)) c.args.word =
    sym c.in-Some.is ∙ c.place_of.ensures.value in
    c.candidate.ensures.verdict ∙ verdict-place b c.args.word c.in-Some.place folds

pub returns-in-Some-clause-cost : goal.returns-in-Some-clause-cost
returns-in-Some-clause-cost g c =
    let made = rw c.self.view_is at c.self.invariant in
    let b = c.args.self.now in
    let folds : Some c.in-Some.place ≡ fold_word (area (frame b)) c.args.word =
    sym c.in-Some.is ∙ c.place_of.ensures.value in
    let inside : c.in-Some.place < main_area (frame b) = rw made.main_is at c.if-place-self.true in
    let one = read-main b c.in-Some.place _ folds inside in
    omega (arith, one, c.candidate.ensures.cost)

pub returns-in-Some-clause-hit : goal.returns-in-Some-clause-hit
returns-in-Some-clause-hit g c =
    let b = c.args.self.now in
    let folds : Some c.in-Some.place ≡ fold_word (area (frame b)) c.args.word =
    sym c.in-Some.is ∙ c.place_of.ensures.value in
    place-settles b c.args.word c.in-Some.place c.candidate.result folds c.candidate.ensures.settles

pub returns-in-Some-2-clause-verdict : goal.returns-in-Some-2-clause-verdict
returns-in-Some-2-clause-verdict g c =
    let b = c.args.self.now in
    let folds : Some c.in-Some.place ≡ fold_word (area (frame b)) c.args.word =
    sym c.in-Some.is ∙ c.place_of.ensures.value in
    c.return_edge.ensures.verdict ∙ verdict-place b c.args.word c.in-Some.place folds

pub returns-in-Some-2-clause-cost : goal.returns-in-Some-2-clause-cost
returns-in-Some-2-clause-cost g c =
    let made = rw c.self.view_is at c.self.invariant in
    let b = c.args.self.now in
    let folds : Some c.in-Some.place ≡ fold_word (area (frame b)) c.args.word =
    sym c.in-Some.is ∙ c.place_of.ensures.value in
    let past : main_area (frame b) ≤ c.in-Some.place = rw made.main_is at c.if-place-self.false in
    let none = read-strip b c.in-Some.place _ folds past in
    omega (arith, none)

pub returns-in-Some-2-clause-hit : goal.returns-in-Some-2-clause-hit
returns-in-Some-2-clause-hit g c =
    let b = c.args.self.now in
    let folds : Some c.in-Some.place ≡ fold_word (area (frame b)) c.args.word =
    sym c.in-Some.is ∙ c.place_of.ensures.value in
    place-settles b c.args.word c.in-Some.place c.return_edge.result folds c.return_edge.ensures.settles

pub returns-in-None-clause-fair : goal.returns-in-None-clause-fair
returns-in-None-clause-fair g c =
    let made = rw c.self.view_is at c.self.invariant in
    fair-hits _ c.args.self.now made.board

pub returns-in-Some-clause-fair : goal.returns-in-Some-clause-fair
returns-in-Some-clause-fair g c =
    let made = rw c.self.view_is at c.self.invariant in
    fair-hits _ c.args.self.now made.board

pub returns-in-Some-2-clause-fair : goal.returns-in-Some-2-clause-fair
returns-in-Some-2-clause-fair g c =
    let made = rw c.self.view_is at c.self.invariant in
    fair-hits _ c.args.self.now made.board

pub returns-in-None-clause-vain : goal.returns-in-None-clause-vain
returns-in-None-clause-vain g c =
    let b = c.args.self.now in
    let folds : None ≡ fold_word (area (frame b)) c.args.word =
    sym c.in-None.is ∙ c.place_of.ensures.value in
    settles-vain b c.args.word _ (miss-settles b c.args.word folds)

pub returns-in-Some-clause-vain : goal.returns-in-Some-clause-vain
returns-in-Some-clause-vain g c =
    let b = c.args.self.now in
    let folds : Some c.in-Some.place ≡ fold_word (area (frame b)) c.args.word =
    sym c.in-Some.is ∙ c.place_of.ensures.value in
    settles-vain b c.args.word _ (place-settles b c.args.word c.in-Some.place c.candidate.result folds c.candidate.ensures.settles)

pub returns-in-Some-2-clause-vain : goal.returns-in-Some-2-clause-vain
returns-in-Some-2-clause-vain g c =
    let b = c.args.self.now in
    let folds : Some c.in-Some.place ≡ fold_word (area (frame b)) c.args.word =
    sym c.in-Some.is ∙ c.place_of.ensures.value in
    settles-vain b c.args.word _ (place-settles b c.args.word c.in-Some.place c.return_edge.result folds c.return_edge.ensures.settles)
