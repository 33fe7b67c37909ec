use Rattle.std.proofs.Common.{◌≡◌, [], ◌∷◌, length, arith, ap, ◌∙◌, length-append}
use Rattle.std.proofs.lemmas.Iterator.Adapters.{YieldsList-from_vec}
use Rattle.std.proofs.lemmas.Iterator.Consumers.{YieldsList-turn}
use Rattle.walk_desk.specs.Posts.{Post}
use Rattle.walk_desk.specs.Lines.{room_of}
use Rattle.walk_desk.specs.Seats.{new_seat}
use Rattle.walk_desk.proofs.PlaceLaws.{places-push, seats-push}
use Rattle.walk_desk.proofs.seating.seated.Goals as goal

-- src/seating.rt:59:5
pub loop-ends-preserved : goal.loop-ends-preserved
loop-ends-preserved g c =
    let inv = c.loop-ends.invariant in
    let first = c.into_iter-ends-iterator.ensures.into_iter_gives in
    let turn = YieldsList-turn (YieldsList-from_vec {s = c.into_iter-ends-iterator.result} c.args.all.items first.0 (first.1 ∙ c.args.all.ok.0)) c.loop-ends.yielded c.loop-ends.ends-iterator c.loop-ends.yielded_by c.next.result c.next.new.self c.in-Some.ends c.in-Some.is c.next.ensures.steps in
    let lane = c.two_sides-lane.result.0 in
    let client = c.two_sides-lane.result.1 in
    let place = c.loop-ends.place in (
      omega (arith, length-append c.loop-ends.yielded (c.in-Some.ends ∷ []), inv.0),
      places-push c.loop-ends.lanes.items c.push.new.self.items lane place c.in_ok-push.ensures.items inv.1 (ap (λ (p : Post). p.place) c.two_sides-lane.ensures.lane),
      (λ capacity even.
          let room : room_of c.in-Some.ends ≡ capacity = ap room_of turn.1 ∙ even (length c.loop-ends.yielded) c.in-Some.ends turn.0 in
          seats-push capacity c.loop-ends.clients.items c.push-in-loop-ends.new.self.items client place c.in_ok-push-2.ensures.items (inv.2 capacity even) (c.two_sides-lane.ensures.client ∙ ap (λ z. new_seat z place) room)),
    )
