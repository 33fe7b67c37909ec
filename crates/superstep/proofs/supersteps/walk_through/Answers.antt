use Rattle.std.proofs.Common.{◌+◌, [], arith, subst}
use Rattle.shard_core.specs.SoundWorlds.{flight_of}
use Rattle.superstep.specs.Moments.{Passes, moment, sent_of}
use Rattle.superstep.proofs.GoingLemmas.{passes-then, going-on}
use Rattle.superstep.proofs.supersteps.walk_through.Goals as goal

pub go_through-requires-clause-going : goal.go_through-requires-clause-going
go_through-requires-clause-going g c κs within =
    let start = moment c.args.shards.now.items (flight_of c.args.flight.items) [] (g.C.Carrier.carried c.args.carrier.now) (g.C.Carrier.log c.args.carrier.now) in
    let middle = moment c.set_out.new.shards.items [] (sent_of (g.C.Carrier.held c.set_out.new.carrier)) (g.C.Carrier.carried c.set_out.new.carrier) (g.C.Carrier.log c.set_out.new.carrier) in
    going-on 0 start middle c.requires.going c.in_ok-afloat.ensures.passes

pub returns-clause-passes : goal.returns-clause-passes
returns-clause-passes g c =
    let start = moment c.args.shards.now.items (flight_of c.args.flight.items) [] (g.C.Carrier.carried c.args.carrier.now) (g.C.Carrier.log c.args.carrier.now) in
    let middle = moment c.set_out.new.shards.items [] (sent_of (g.C.Carrier.held c.set_out.new.carrier)) (g.C.Carrier.carried c.set_out.new.carrier) (g.C.Carrier.log c.set_out.new.carrier) in
    let end = moment c.go_through.new.shards.items [] (sent_of (g.C.Carrier.held c.go_through.new.carrier)) (g.C.Carrier.carried c.go_through.new.carrier) (g.C.Carrier.log c.go_through.new.carrier) in
    let rest = c.in_ok-go_through.ensures.passes in
    let none = c.in_ok-go_through.ensures.held in (
      0 + rest.0,
      subst (λ h. Passes (0 + rest.0) start (moment c.go_through.new.shards.items [] (sent_of h) (g.C.Carrier.carried c.go_through.new.carrier) (g.C.Carrier.log c.go_through.new.carrier)))
          none (passes-then 0 rest.0 start middle end c.in_ok-afloat.ensures.passes rest.1),
    )

pub go_through-requires-clause-total : goal.go_through-requires-clause-total
go_through-requires-clause-total g c κs within = omega (arith, c.in_ok-afloat.ensures.total)

pub returns-clause-total : goal.returns-clause-total
returns-clause-total g c = omega (arith, c.in_ok-afloat.ensures.total, c.in_ok-go_through.ensures.total)
