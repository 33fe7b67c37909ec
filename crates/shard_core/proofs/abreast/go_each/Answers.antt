use Rattle.std.proofs.Common.{◌<◌, length, arith}
use Rattle.shard_core.specs.Abreast.{Goes}
use Rattle.shard_core.proofs.EachLemmas.{so-far-more}
use Rattle.shard_core.proofs.abreast.go_each.Goals as goal

pub loop-lane-preserved : goal.loop-lane-preserved
loop-lane-preserved c =
    let so_far = c.loop-lane.invariant in
    let low : c.loop-lane.lane-index < length c.args.lanes.now = omega (arith, so_far.long) in
    so-far-more (Goes c.args.here.now.run c.args.here.now.part) c.loop-lane.lane-index c.args.lanes.now c.loop-lane.lanes c.go.new.self c.lane-item.result low so_far
    (record { data_is = c.go.ensures.data; within = c.go.ensures.within; stands = c.go.ensures.stands })
