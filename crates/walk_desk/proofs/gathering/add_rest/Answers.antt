use Rattle.std.proofs.Common.{◌++◌, [], ◌∷◌, length, arith, ap, sym, ◌∙◌, append_assoc, length-append}
use Rattle.rtrb.specs.Ring.{received, known_items}
use Rattle.walk_desk.proofs.AnswerLaws.{answers-more}
use Rattle.walk_desk.proofs.gathering.add_rest.Goals as goal

-- src/gathering.rt:89:5
pub loop-preserved : goal.loop-preserved
loop-preserved g c =
    let inv = c.loop.invariant in
    let walk = g.N.Engine.walk_of c.args.engine.now in
    let old = received c.loop.asks in
    let ask = c.pop_known-ask.result in
    let known = known_items c.pop_known-ask.new.self in
    let pop = c.pop_known-ask.ensures.received in (
      ap (λ z. z ++ known) pop.0 ∙ append_assoc old (ask ∷ []) known ∙ ap (λ z. old ++ z) (sym pop.1) ∙ inv.0,
      (let one = ap length pop.1 in let before = inv.1 in omega arith),
      (let one = ap length pop.0 ∙ length-append old (ask ∷ []) in let before = inv.2 in omega arith),
      (λ before begun. answers-more walk old (received c.pop_known-ask.new.self) ask c.loop.number before c.loop.left.items c.add_answer.new.left.items pop.0 inv.2 (inv.3 before begun) c.in_ok-add_answer.ensures),
    )
