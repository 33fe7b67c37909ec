use Rattle.std.proofs.Common.{◌≡◌, ◌<◌, length, arith}
use Rattle.std.proofs.lemmas.Grind.{common_steps}
use Rattle.walk_desk.proofs.PlaceLaws.{seats-more}
use Rattle.walk_desk.proofs.tests.in_order.Goals as goal

-- src/tests.rt:70:5
pub loop-k-preserved : goal.loop-k-preserved
loop-k-preserved g c =
    let low : c.loop-k.k < length c.args.clients.now = grind (arith, common_steps) in
    let at : c.index-clients-k.result.place ≡ c.loop-k.k = grind (arith, common_steps) in
    seats-more c.args.clients.now c.loop-k.k c.index-clients-k.result low c.index-clients-k.is c.loop-k.invariant at
