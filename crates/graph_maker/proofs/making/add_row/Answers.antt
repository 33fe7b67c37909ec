use Rattle.std.proofs.Common.{◌+◌, refl, arith}
use Rattle.graph_maker.specs.Made.{made_edge}
use Rattle.graph_maker.proofs.MadeLemmas.{map-none, map-added}
use Rattle.graph_maker.proofs.making.add_row.Goals as goal

pub loop-j-init : goal.loop-j-init
loop-j-init c = record { so_far = map-none (made_edge c.args.vertices c.args.seed c.args.v) c.args.edges.now.items }

pub loop-j-preserved : goal.loop-j-preserved
loop-j-preserved c = record {
  so_far = map-added (made_edge c.args.vertices c.args.seed c.args.v) c.loop-j.j (c.loop-j.j + 1) _ _ _ _ (omega arith) c.loop-j.invariant.so_far
      (c.edge_from.ensures c.args.seed refl refl) c.in_ok-push.ensures.items;
}
