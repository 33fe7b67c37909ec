use Rattle.std.proofs.Common.{Option, Some, arith, subst}
use Rattle.rtrb.specs.Ring.{sent, received}
use Rattle.walk_desk.specs.Posts.{IsAnswered}
use Rattle.walk_desk.specs.declared.asks.WalkAsk.{WalkAsk}
use Rattle.walk_desk.proofs.AnswerLaws.{received-some}
use Rattle.walk_desk.proofs.lane.Lane.answer_taken.Goals as goal

-- src/lane.rt:73:21
pub overflow_add-self : goal.overflow_add-self
overflow_add-self g c =
    let lane = c.self.inside in
    let answered : IsAnswered g.L.DeskName.walk (received lane.asks) (sent lane.answers) (Some c.in-Some.ask) = subst (λ (t : Option WalkAsk). IsAnswered g.L.DeskName.walk (received lane.asks) (sent lane.answers) t) c.in-Some.is c.self.invariant.1 in
    let long = received-some g.L.DeskName.walk (received lane.asks) (sent lane.answers) c.in-Some.ask answered in
    let next = c.self.invariant.2 in
    let most = c.self.invariant.3 in
    omega arith
