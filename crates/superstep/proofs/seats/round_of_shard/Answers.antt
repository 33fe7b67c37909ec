use Rattle.std.proofs.Common.{refl}
use Rattle.superstep.specs.Rounding.{MadeRound}
use Rattle.superstep.proofs.seats.round_of_shard.Goals as goal

pub returns-clause-made : goal.returns-clause-made
returns-clause-made c =
    let r : MadeRound = record {
      before = c.args.shard.now;
      arrivals = c.args.arrivals.items;
      after = c.round.new.self;
      out = c.in_ok-out.out.items;
      run = c.in_ok-out.ensures.run;
      part = c.in_ok-out.ensures.part;
      fits = c.in_ok-out.ensures.addressed;
      round = c.in_ok-out.ensures.round;
    } in
    (r, refl, refl, refl, refl)
