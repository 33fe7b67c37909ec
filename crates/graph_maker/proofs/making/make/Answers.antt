use Rattle.std.proofs.Common.{◌+◌, ◌∙◌, arith}
use Rattle.graph_maker.specs.Made.{made_row}
use Rattle.graph_maker.proofs.MadeLemmas.{flat-none, flat-added}
use Rattle.graph_maker.proofs.making.make.Goals as goal

pub loop-v-init : goal.loop-v-init
loop-v-init c = record { so_far = c.in_ok-edges.ensures.items ∙ flat-none (made_row c.args.vertices c.args.degree c.args.seed) }

pub loop-v-preserved : goal.loop-v-preserved
loop-v-preserved c = record {
  so_far = flat-added (made_row c.args.vertices c.args.degree c.args.seed) c.loop-v.v (c.loop-v.v + 1) _ _ (omega arith) c.loop-v.invariant.so_far
      c.in_ok-add_row.ensures;
}
