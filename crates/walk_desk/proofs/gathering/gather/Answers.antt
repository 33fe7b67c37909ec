use Rattle.std.proofs.Common.{◌≡◌, ◌<◌, ◌+◌, ◌-◌, ◌++◌, [], ◌∷◌, Vec, length, length-append, map, arith, ap, sym, ◌∙◌, subst}
use Rattle.std.specs.List.{AllZip}
use Rattle.std.specs.declared.alloc.Global.{Global}
use Rattle.std.proofs.lemmas.Iterator.Adapters.{YieldsList-from_vec}
use Rattle.std.proofs.lemmas.Iterator.Consumers.{YieldsList-turn, YieldsList-end}
use Rattle.std.proofs.lemmas.List.{map-id}
use Rattle.walk_desk.specs.Answers.{answers_from}
use Rattle.walk_desk.specs.Posts.{Post, Opened}
use Rattle.walk_desk.specs.Seats.{Seat, places_from}
use Rattle.walk_desk.specs.declared.asks.WalkAnswer.{WalkAnswer}
use Rattle.walk_desk.proofs.PlaceLaws.{place-at, lane-left, lane-first, lanes-behind, zip-more}
use Rattle.walk_desk.proofs.gathering.gather.Goals as goal

-- src/gathering.rt:152:13
pub remove-lane-requires : goal.remove-lane-requires
remove-lane-requires g c =
    let first = c.into_iter-client-iterator.ensures.into_iter_gives in
    let turn = YieldsList-turn (YieldsList-from_vec {s = c.into_iter-client-iterator.result} c.args.clients.items first.0 (first.1 ∙ c.args.clients.ok.0)) c.loop-client.yielded c.loop-client.client-iterator c.loop-client.yielded_by c.next.result c.next.new.self c.in-Some.client c.in-Some.is c.next.ensures.steps in
    let lanes = c.loop-client.lanes in
    let done = length c.loop-client.yielded in
    let left = lane-left lanes.items done (length c.args.clients.items - done) c.loop-client.invariant.0 in
    let long = lanes.ok.0 in
    let low = turn.0 in
    omega arith

-- src/gathering.rt:153:20
pub settle-requires-clause-place : goal.settle-requires-clause-place
settle-requires-clause-place g c =
    let first = c.into_iter-client-iterator.ensures.into_iter_gives in
    let turn = YieldsList-turn (YieldsList-from_vec {s = c.into_iter-client-iterator.result} c.args.clients.items first.0 (first.1 ∙ c.args.clients.ok.0)) c.loop-client.yielded c.loop-client.client-iterator c.loop-client.yielded_by c.next.result c.next.new.self c.in-Some.client c.in-Some.is c.next.ensures.steps in
    let done = length c.loop-client.yielded in
    let low = turn.0 in
    let more : 0 < length c.args.clients.items - done = omega arith in
    let lane = lane-first c.loop-client.lanes.items c.remove-lane.result done (length c.args.clients.items - done) c.loop-client.invariant.0 more c.remove-lane.ensures.value in
    let client = place-at c.args.clients.items c.in-Some.client done 0 _ c.requires.places low turn.1 in
    let same : 0 + done ≡ done = omega arith in
    lane ∙ sym (client ∙ same)

-- src/gathering.rt:151:5
pub loop-client-preserved : goal.loop-client-preserved
loop-client-preserved g c =
    let first = c.into_iter-client-iterator.ensures.into_iter_gives in
    let turn = YieldsList-turn (YieldsList-from_vec {s = c.into_iter-client-iterator.result} c.args.clients.items first.0 (first.1 ∙ c.args.clients.ok.0)) c.loop-client.yielded c.loop-client.client-iterator c.loop-client.yielded_by c.next.result c.next.new.self c.in-Some.client c.in-Some.is c.next.ensures.steps in
    let inv = c.loop-client.invariant in
    let all = length c.args.clients.items in
    let yielded = c.loop-client.yielded in
    let more = length (yielded ++ c.in-Some.client ∷ []) in
    let low = turn.0 in
    let one : more ≡ length yielded + 1 = length-append yielded (c.in-Some.client ∷ []) in
    let next : all - length yielded ≡ (all - more) + 1 = omega arith in (
      ap (map (λ (p : Post). p.place)) c.remove-lane.ensures.by_index.2
          ∙ lanes-behind c.loop-client.lanes.items (length yielded) (all - length yielded) (all - more) next inv.0
          ∙ ap (λ z. places_from z (all - more)) (sym one),
      zip-more _ yielded c.loop-client.given.items c.push.new.self.items c.in-Some.client c.in_ok-settle.field-0 inv.1 c.in_ok-settle.ensures c.in_ok-push.ensures.items,
    )

-- src/gathering.rt:135:1
pub returns : goal.returns
returns g c =
    let first = c.into_iter-client-iterator.ensures.into_iter_gives in
    let ends = YieldsList-end (YieldsList-from_vec {s = c.into_iter-client-iterator.result} c.args.clients.items first.0 (first.1 ∙ c.args.clients.ok.0)) c.loop-client.yielded c.loop-client.client-iterator c.loop-client.yielded_by c.next.result c.next.new.self c.in-None.is c.next.ensures.steps in
    let given = c.loop-client.given.items in
    let whole : c.loop-client.yielded ≡ c.args.clients.items = sym (map-id c.loop-client.yielded) ∙ ends.0 in
    let engine : c.desk.inside.engine ≡ c.args.desk.engine = ap (λ (d : Opened _). d.engine) c.desk.view_is in
    subst (λ z. AllZip (λ (s : Seat) (left : Vec WalkAnswer Global). s.answers ++ left.items ≡ answers_from (g.N.Engine.walk_of z) 0 s.asks) c.args.clients.items given) engine
    (subst (λ z. AllZip (λ (s : Seat) (left : Vec WalkAnswer Global). s.answers ++ left.items ≡ answers_from (g.N.Engine.walk_of c.desk.inside.engine) 0 s.asks) z given) whole c.loop-client.invariant.1)
