use Rattle.std.proofs.Common.{◌≡◌, ◌+◌, ◌++◌, length, option_to_list, arith, ap, sym, ◌∙◌}
use Rattle.rtrb.specs.Ring.{sent, received}
use Rattle.walk_desk.specs.Answers.{answers_from}
use Rattle.walk_desk.specs.Seats.{Seat}
use Rattle.walk_desk.proofs.AnswerLaws.{received-all, all-answered}
use Rattle.walk_desk.proofs.gathering.settle.Goals as goal

-- src/gathering.rt:124:16
pub add_taken-requires : goal.add_taken-requires
add_taken-requires g c =
    let lane = c.lane.inside in
    let long = received-all g.L.DeskName.walk (received lane.asks) (sent lane.answers) lane.taken c.lane.invariant.1 in
    let next = c.lane.invariant.2 in
    let most = c.lane.invariant.3 in
    omega arith

-- src/gathering.rt:125:5
pub add_rest-requires-clause-next : goal.add_rest-requires-clause-next
add_rest-requires-clause-next g c =
    let lane = c.lane.inside in
    c.in_ok-next.ensures.next
    ∙ ap (λ z. z + length (option_to_list lane.taken)) c.lane.invariant.2
    ∙ sym (received-all g.L.DeskName.walk (received lane.asks) (sent lane.answers) lane.taken c.lane.invariant.1)

-- src/gathering.rt:98:1
pub returns : goal.returns
returns g c =
    let lane = c.lane.inside in
    let client = c.client.inside in
    let walk = g.N.Engine.walk_of c.args.engine.now in
    let left = c.add_rest.new.left.items in
    let answers : received client.answers ≡ c.args.client.answers = ap (λ (s : Seat). s.answers) c.client.view_is in
    let asks : sent client.asks ≡ c.args.client.asks = ap (λ (s : Seat). s.asks) c.client.view_is in
    ap (λ z. z ++ left) (sym answers)
    ∙ all-answered walk g.L.DeskName.walk (received lane.asks) (sent client.asks) (sent lane.answers) (received client.answers) c.in_ok-left.left.items c.add_taken.new.left.items left lane.next lane.taken c.requires.same c.lane.invariant.1 c.in_ok-left.ensures c.lane.invariant.2 c.in_ok-next.ensures.left c.in_ok-add_rest.ensures
    ∙ ap (answers_from walk 0) asks
