use Rattle.std.proofs.Common.{◌+◌, length, ap, ◌∙◌}
use Rattle.walk_model.specs.Graph.{row}
use Rattle.walk_model.proofs.BoardLemmas.{length-ends_of}
use Rattle.walk_top.proofs.CuttingLemmas.{costs-none, costs-more}
use Rattle.walk_top.proofs.cutting.vertex_costs.Goals as goal

pub loop-v-init : goal.loop-v-init
loop-v-init c = c.in_ok-costs.ensures.items ∙ costs-none c.args.rows.now.edges

pub loop-v-preserved : goal.loop-v-preserved
loop-v-preserved c =
    let long = ap length c.dsts.ensures.ends ∙ length-ends_of (row c.args.rows.now.edges c.loop-v.v) in
    c.in_ok-push.ensures.items ∙ costs-more c.args.rows.now.edges c.loop-v.v _ c.loop-v.costs.items c.loop-v.invariant (ap (λ n. 1 + n) long)
