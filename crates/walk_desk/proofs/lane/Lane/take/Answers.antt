use Rattle.std.proofs.Common.{◌≡◌, ◌∷◌, [], length, Option, None, arith, rules, ap, ◌∙◌, sym, subst, length-append}
use Rattle.rtrb.specs.Ring.{sent, received}
use Rattle.walk_desk.specs.Posts.{Post, IsAnswered}
use Rattle.walk_desk.specs.declared.asks.WalkAsk.{WalkAsk}
use Rattle.walk_desk.proofs.AnswerLaws.{answered-taken}
use Rattle.walk_desk.proofs.lane.Lane.take.Goals as goal

-- src/lane.rt:45:5
pub invariant_of-self-2 : goal.invariant_of-self-2
invariant_of-self-2 g c =
    let lane = c.self.inside in
    let walk = g.L.DeskName.walk in
    let none : lane.taken ≡ None = ap (λ (p : Post). p.taken) c.self.view_is ∙ c.requires in
    let before : IsAnswered walk (received lane.asks) (sent lane.answers) None = subst (λ (t : Option WalkAsk). IsAnswered walk (received lane.asks) (sent lane.answers) t) none c.self.invariant.1 in
    let got = c.in-Ok.ensures.ok.0 in
    let low = c.in-Ok.ensures.ok.2 in
    let kept : sent c.is_full.new.self ≡ sent lane.answers = c.is_full.ensures.looked.1 in
    let now : IsAnswered walk (received lane.asks) (sent c.is_full.new.self) None = subst (λ z. IsAnswered walk (received lane.asks) z None) (sym kept) before in (
      search rules,
      answered-taken walk (received lane.asks) (received c.pop.new.self) (sent c.is_full.new.self) c.in-Ok.ask now got,
      c.self.invariant.2 ∙ ap length (sym kept),
      (let long = ap length got ∙ length-append (received lane.asks) (c.in-Ok.ask ∷ []) in omega arith),
      search rules,
    )
