use Rattle.std.proofs.Common.{◌≡◌, ◌-◌, ◌/◌, length, sum, ap, ◌∙◌, arith}
use Rattle.std.specs.Prelude.{unwrap_or}
use Rattle.walk_model.specs.Dart.{main_area}
use Rattle.dart_envelope.specs.ClassBoards.{ClassBoard, frame, run_weights}
use Rattle.dart_envelope.proofs.AreaLemmas.{strip-place, run-is, run-within}
use Rattle.dart_envelope.proofs.BoardLaws.{verdict-strip, strip-settles}
use Rattle.dart_envelope.proofs.board.Board.return_edge.Goals as goal

pub strip_pick-place-requires-clause-within : goal.strip_pick-place-requires-clause-within
strip_pick-place-requires-clause-within g c =
    let made = rw c.self.view_is at c.self.invariant in
    let b = c.args.self.now in
    let weights = c.weights-weights.ensures.value ∙ ap (λ (x : ClassBoard). x.weights) c.self.view_is in
    let run = run-is b.back c.unwrap_or-from.result (c.unwrap_or-from.ensures ∙ ap (λ (x : ClassBoard). unwrap_or x.back (0, 0)) c.self.view_is) in
    let z : c.from.result ≡ (c.args.place - main_area (frame b)) / (frame b).lift =
    c.from.ensures ∙ ap (λ m. (c.args.place - m) / c.self.inside.heights.lift) made.main_is
    ∙ ap (λ l. (c.args.place - main_area (frame b)) / l) made.lift_is in
    rw (z, weights, run.1, run.0)
    (strip-place (length b.weights) (sum (run_weights b.back b.weights)) (frame b).lift c.args.place (main_area (frame b)) c.requires.above c.requires.within)

pub strip_pick-place-requires-clause-fits : goal.strip_pick-place-requires-clause-fits
strip_pick-place-requires-clause-fits g c =
    let made = rw c.self.view_is at c.self.invariant in
    let b = c.args.self.now in
    let weights = c.weights-weights.ensures.value ∙ ap (λ (x : ClassBoard). x.weights) c.self.view_is in
    let run = run-is b.back c.unwrap_or-from.result (c.unwrap_or-from.ensures ∙ ap (λ (x : ClassBoard). unwrap_or x.back (0, 0)) c.self.view_is) in
    let z : c.from.result ≡ (c.args.place - main_area (frame b)) / (frame b).lift =
    c.from.ensures ∙ ap (λ m. (c.args.place - m) / c.self.inside.heights.lift) made.main_is
    ∙ ap (λ l. (c.args.place - main_area (frame b)) / l) made.lift_is in
    let fits = run-within _ b made.board in
    rw (weights, run.1, run.0) (omega (arith, fits))

pub returns-clause-verdict : goal.returns-clause-verdict
returns-clause-verdict g c =
    let made = rw c.self.view_is at c.self.invariant in
    let b = c.args.self.now in
    let weights = c.weights-weights.ensures.value ∙ ap (λ (x : ClassBoard). x.weights) c.self.view_is in
    let run = run-is b.back c.unwrap_or-from.result (c.unwrap_or-from.ensures ∙ ap (λ (x : ClassBoard). unwrap_or x.back (0, 0)) c.self.view_is) in
    let z : c.from.result ≡ (c.args.place - main_area (frame b)) / (frame b).lift =
    c.from.ensures ∙ ap (λ m. (c.args.place - m) / c.self.inside.heights.lift) made.main_is
    ∙ ap (λ l. (c.args.place - main_area (frame b)) / l) made.lift_is in
    let at = rw (z, weights, run.1, run.0) at c.strip_pick-place.ensures.place in
    rw (run.0, at) (verdict-strip b c.args.place c.requires.above)

pub returns-clause-settles : goal.returns-clause-settles
returns-clause-settles g c =
    let made = rw c.self.view_is at c.self.invariant in
    let b = c.args.self.now in
    let weights = c.weights-weights.ensures.value ∙ ap (λ (x : ClassBoard). x.weights) c.self.view_is in
    let run = run-is b.back c.unwrap_or-from.result (c.unwrap_or-from.ensures ∙ ap (λ (x : ClassBoard). unwrap_or x.back (0, 0)) c.self.view_is) in
    let z : c.from.result ≡ (c.args.place - main_area (frame b)) / (frame b).lift =
    c.from.ensures ∙ ap (λ m. (c.args.place - m) / c.self.inside.heights.lift) made.main_is
    ∙ ap (λ l. (c.args.place - main_area (frame b)) / l) made.lift_is in
    let at = rw (z, weights, run.1, run.0) at c.strip_pick-place.ensures.place in
    rw (run.0, at) (strip-settles b c.args.place c.requires.above)
