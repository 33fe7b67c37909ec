use Rattle.std.proofs.Common.{◌++◌, ◌+◌, suc, take, drop, map, get_or, refl, arith}
use Rattle.std.proofs.lemmas.List.{append-nil}
use Rattle.std.specs.List.{concat}
use Rattle.path_writer.specs.Named.{spaced}
use Rattle.path_writer.proofs.GainLemmas.{pieces-more, pieces-at}
use Rattle.path_writer.proofs.WaitingLemmas.{but-all, but-after, front-waiting, front-longer}
use Rattle.path_writer.proofs.walks.put_ids.Goals as goal

pub loop-id-init : goal.loop-id-init
loop-id-init g c = record {
  so_far = but-all _ _ _ c.args.block.now refl (append-nil c.args.block.now);
  later = omega arith;
}

pub loop-id-preserved : goal.loop-id-preserved
loop-id-preserved g c = record {
  so_far = but-after _ _ _ (c.args.block.now ++ concat (map spaced (take c.loop-id.id-index c.args.ids.now))) c.loop-id.block (spaced (get_or c.args.ids.now c.loop-id.id-index 0))
      (c.args.block.now ++ concat (map spaced (take (c.loop-id.id-index + 1) c.args.ids.now))) c.put_spaced.new.block
      (pieces-more spaced c.args.block.now c.args.ids.now c.loop-id.id-index 0 c.loop-id-test.true)
      c.loop-id.invariant.so_far c.in-Ok.ensures.whole;
  later = let e = c.put_spaced.ensures.later in omega arith;
}

pub returns-in-Err-clause-front : goal.returns-in-Err-clause-front
returns-in-Err-clause-front g c =
    let before = c.args.block.now ++ concat (map spaced (take c.loop-id.id-index c.args.ids.now)) in
    let piece = spaced (get_or c.args.ids.now c.loop-id.id-index 0) in
    front-longer _ _ (before ++ piece) (concat (map spaced (drop (suc c.loop-id.id-index) c.args.ids.now))) _
    (pieces-at spaced c.args.block.now c.args.ids.now c.loop-id.id-index 0 c.loop-id-test.true)
    (front-waiting _ _ _ before c.loop-id.block piece (before ++ piece) refl c.loop-id.invariant.so_far c.in-Err.ensures.front)
