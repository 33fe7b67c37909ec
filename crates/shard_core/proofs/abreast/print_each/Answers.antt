use Rattle.std.proofs.Common.{arith}
use Rattle.shard_core.proofs.AbreastLemmas.{prints-none, prints-more, prints-all}
use Rattle.shard_core.proofs.abreast.print_each.Goals as goal

pub loop-lane-init : goal.loop-lane-init
loop-lane-init c = record { prints = prints-none c.args.prints.now.prints c.args.lanes.now; room = omega arith }

pub loop-lane-preserved : goal.loop-lane-preserved
loop-lane-preserved c = record {
  prints = prints-more c.args.prints.now.prints c.loop-lane.prints.prints c.print_one.new.prints.prints c.args.lanes.now c.loop-lane.lane-index c.lane-item.result
      c.loop-lane-test.true c.lane-item.is c.loop-lane.invariant.prints c.print_one.ensures.prints;
  room = omega arith;
}

pub returns-clause-prints : goal.returns-clause-prints
returns-clause-prints c =
    prints-all c.args.prints.now.prints c.loop-lane.prints.prints c.args.lanes.now c.loop-lane.lane-index c.loop-lane-test.false c.loop-lane.invariant.prints
