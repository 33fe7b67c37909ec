use Rattle.std.proofs.Common.{arith}
use Rattle.vertex_partition.proofs.CutLemmas.{front-is}
use Rattle.vertex_partition.proofs.cuts.reach.Goals as goal

pub returns-else-front-parts-clause-reaches : goal.returns-else-front-parts-clause-reaches
returns-else-front-parts-clause-reaches c =
    front-is c.args.costs.now c.args.parts c.args.least c.loop-front.front c.loop-front.invariant
    (λ low. (let most = c.if-front-parts.false in omega (arith, most)))

pub returns-after-loop-front-clause-reaches : goal.returns-after-loop-front-clause-reaches
returns-after-loop-front-clause-reaches c =
    front-is c.args.costs.now c.args.parts c.args.least c.loop-front.front c.loop-front.invariant
    (λ low. (let past = c.loop-front-test.false in absurd (omega (arith, past, low))))
