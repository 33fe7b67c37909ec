use Rattle.std.proofs.Common.{◌<◌, length, arith}
use Rattle.shard_core.specs.Abreast.{Decides}
use Rattle.shard_core.proofs.EachLemmas.{so-far-more}
use Rattle.shard_core.proofs.abreast.decide_each.Goals as goal

pub loop-lane-preserved : goal.loop-lane-preserved
loop-lane-preserved g c =
    let so_far = c.loop-lane.invariant in
    let low : c.loop-lane.lane-index < length c.args.lanes.now = omega (arith, so_far.long) in
    so-far-more (Decides c.args.here.now.run c.args.here.now.part) c.loop-lane.lane-index c.args.lanes.now c.loop-lane.lanes c.decide.new.self c.lane-item.result low so_far
    (record {
      data_is = c.decide.ensures.data;
      number = c.decide.ensures.number;
      start = c.decide.ensures.start;
      within = c.decide.ensures.within;
      goes = c.decide.ensures.goes;
      stands = c.decide.ensures.stands;
    })
