use Rattle.std.proofs.Common.{◌≡◌, ℕ, ◌<◌, ◌*◌, ◌/◌, ◌%◌, List, length, sum, ap, ◌∙◌}
use Rattle.walk_model.specs.Alias.{piece}
use Rattle.dart_envelope.specs.ClassBoards.{ClassBoard, height, known_at}
use Rattle.dart_envelope.specs.Verdicts.{judged}
use Rattle.dart_envelope.proofs.AreaLemmas.{div-below}
use Rattle.dart_envelope.proofs.BoardLaws.{verdict-main, main-settles}
use Rattle.dart_envelope.proofs.board.Board.candidate.Goals as goal

pub pick-edge-requires : goal.pick-edge-requires
pick-edge-requires g c =
    let made = rw c.self.view_is at c.self.invariant in
    let b = c.args.self.now in
    let weights : c.self.inside.table.now ≡ b.weights = ap (λ (x : ClassBoard). x.weights) c.self.view_is in
    let place : c.from.result ≡ c.args.place / height b = c.from.ensures ∙ ap (λ (p : ℕ × ℕ). p.0) c.split-column_place.ensures ∙ ap (λ h. c.args.place / h) made.above_is in
    rw (weights, place) (div-below c.args.place (length b.weights * sum b.weights) (height b) made.board.high c.requires)

pub returns-clause-verdict : goal.returns-clause-verdict
returns-clause-verdict g c =
    let made = rw c.self.view_is at c.self.invariant in
    let b = c.args.self.now in
    let weights : c.self.inside.table.now ≡ b.weights = ap (λ (x : ClassBoard). x.weights) c.self.view_is in
    let place : c.from.result ≡ c.args.place / height b = c.from.ensures ∙ ap (λ (p : ℕ × ℕ). p.0) c.split-column_place.ensures ∙ ap (λ h. c.args.place / h) made.above_is in
    let edge : c.pick-edge.result ≡ piece b.weights (c.args.place / height b) =
    c.pick-edge.ensures.piece ∙ ap (λ (ws : List ℕ). piece ws c.from.result) weights ∙ ap (piece b.weights) place in
    let high : c.split-column_place.result.1 ≡ c.args.place % height b =
    ap (λ (p : ℕ × ℕ). p.1) c.split-column_place.ensures ∙ ap (λ h. c.args.place % h) made.above_is in
    let told : c.judge.result ≡ judged b (known_at b c.pick-edge.result) c.pick-edge.result (c.args.place % height b) =
    c.judge.ensures.verdict ∙ ap (judged b (known_at b c.pick-edge.result) c.pick-edge.result) high in
    told ∙ verdict-main b c.args.place c.pick-edge.result c.requires edge

pub returns-clause-settles : goal.returns-clause-settles
returns-clause-settles g c =
    let made = rw c.self.view_is at c.self.invariant in
    let b = c.args.self.now in
    let weights : c.self.inside.table.now ≡ b.weights = ap (λ (x : ClassBoard). x.weights) c.self.view_is in
    let place : c.from.result ≡ c.args.place / height b = c.from.ensures ∙ ap (λ (p : ℕ × ℕ). p.0) c.split-column_place.ensures ∙ ap (λ h. c.args.place / h) made.above_is in
    let edge : c.pick-edge.result ≡ piece b.weights (c.args.place / height b) =
    c.pick-edge.ensures.piece ∙ ap (λ (ws : List ℕ). piece ws c.from.result) weights ∙ ap (piece b.weights) place in
    let high : c.split-column_place.result.1 ≡ c.args.place % height b =
    ap (λ (p : ℕ × ℕ). p.1) c.split-column_place.ensures ∙ ap (λ h. c.args.place % h) made.above_is in
    let told : c.judge.result ≡ judged b (known_at b c.pick-edge.result) c.pick-edge.result (c.args.place % height b) =
    c.judge.ensures.verdict ∙ ap (judged b (known_at b c.pick-edge.result) c.pick-edge.result) high in
    let within : c.pick-edge.result < length b.weights = rw weights at c.pick-edge.ensures.within in
    main-settles b c.args.place c.pick-edge.result c.judge.result c.requires edge within told
