use Rattle.std.proofs.Common.{◌<◌, length, arith, rules, ◌∙◌}
use Rattle.std.proofs.lemmas.Grind.{common_steps}
use Rattle.walk_desk.proofs.PlaceLaws.{places-set, none-set}
use Rattle.walk_desk.proofs.desk.Lanes.serve.Goals as goal

-- src/desk.rt:39:13
pub invariant_of-self : goal.invariant_of-self
invariant_of-self g c =
    places-set c.loop-k.lanes.items c.loop-k.k c.index_mut.result.now c.serve.new.self c.index_mut.ensures.value c.serve.ensures.place ∙ c.loop-k.invariant.0 ∙ c.self.invariant

-- src/desk.rt:38:9
pub loop-k-preserved : goal.loop-k-preserved
loop-k-preserved g c =
    let inv = c.loop-k.invariant in
    let low : c.loop-k.k < length c.loop-k.lanes.items = grind (arith, common_steps) in (
      places-set c.loop-k.lanes.items c.loop-k.k c.index_mut.result.now c.serve.new.self c.index_mut.ensures.value c.serve.ensures.place ∙ inv.0,
      none-set c.loop-k.lanes.items c.loop-k.k c.serve.new.self low inv.1 (search rules),
      inv.2,
    )

-- src/desk.rt:33:5
pub returns : goal.returns
returns g c k d low = c.loop-k.invariant.1 k d (grind (arith, common_steps))
