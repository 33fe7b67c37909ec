use Rattle.std.proofs.Common.{[], arith, refl}
use Rattle.superstep.specs.Moments.{moment, sent_of}
use Rattle.superstep.proofs.GoingLemmas.{passes-none, passes-then, going-on, taken-few}
use Rattle.superstep.proofs.supersteps.go_through.Goals as goal

pub delivering-init : goal.delivering-init
delivering-init g c = record {
  whole = c.requires.whole;
  settled = c.requires.settled;
  addressed = c.requires.addressed;
  afloat = c.requires.afloat;
  total = refl;
  passes = passes-none (moment c.args.shards.now.items [] (sent_of (g.C.Carrier.held c.args.carrier.now)) (g.C.Carrier.carried c.args.carrier.now) (g.C.Carrier.log c.args.carrier.now));
}

pub overflow_add-deliveries : goal.overflow_add-deliveries
overflow_add-deliveries g c =
    let start = moment c.args.shards.now.items [] (sent_of (g.C.Carrier.held c.args.carrier.now)) (g.C.Carrier.carried c.args.carrier.now) (g.C.Carrier.log c.args.carrier.now) in
    let here = moment c.delivering.shards.items [] (sent_of (g.C.Carrier.held c.delivering.carrier)) (g.C.Carrier.carried c.delivering.carrier) (g.C.Carrier.log c.delivering.carrier) in
    let few = taken-few c.delivering.deliveries start here c.requires.going c.delivering.invariant.passes in
    omega arith

pub next_superstep-requires-clause-going : goal.next_superstep-requires-clause-going
next_superstep-requires-clause-going g c κs within =
    let start = moment c.args.shards.now.items [] (sent_of (g.C.Carrier.held c.args.carrier.now)) (g.C.Carrier.carried c.args.carrier.now) (g.C.Carrier.log c.args.carrier.now) in
    let here = moment c.delivering.shards.items [] (sent_of (g.C.Carrier.held c.delivering.carrier)) (g.C.Carrier.carried c.delivering.carrier) (g.C.Carrier.log c.delivering.carrier) in
    going-on c.delivering.deliveries start here c.requires.going c.delivering.invariant.passes

pub next_superstep-requires-clause-total : goal.next_superstep-requires-clause-total
next_superstep-requires-clause-total g c κs within = omega (arith, c.requires.total, c.delivering.invariant.total)

pub overflow_add-deliveries-in-delivering : goal.overflow_add-deliveries-in-delivering
overflow_add-deliveries-in-delivering g c =
    let start = moment c.args.shards.now.items [] (sent_of (g.C.Carrier.held c.args.carrier.now)) (g.C.Carrier.carried c.args.carrier.now) (g.C.Carrier.log c.args.carrier.now) in
    let here = moment c.delivering.shards.items [] (sent_of (g.C.Carrier.held c.delivering.carrier)) (g.C.Carrier.carried c.delivering.carrier) (g.C.Carrier.log c.delivering.carrier) in
    let few = taken-few c.delivering.deliveries start here c.requires.going c.delivering.invariant.passes in
    omega arith

pub delivering-smaller : goal.delivering-smaller
delivering-smaller g c =
    let start = moment c.args.shards.now.items [] (sent_of (g.C.Carrier.held c.args.carrier.now)) (g.C.Carrier.carried c.args.carrier.now) (g.C.Carrier.log c.args.carrier.now) in
    let here = moment c.delivering.shards.items [] (sent_of (g.C.Carrier.held c.delivering.carrier)) (g.C.Carrier.carried c.delivering.carrier) (g.C.Carrier.log c.delivering.carrier) in
    let few = taken-few c.delivering.deliveries start here c.requires.going c.delivering.invariant.passes in
    omega arith

pub delivering-preserved : goal.delivering-preserved
delivering-preserved g c =
    let start = moment c.args.shards.now.items [] (sent_of (g.C.Carrier.held c.args.carrier.now)) (g.C.Carrier.carried c.args.carrier.now) (g.C.Carrier.log c.args.carrier.now) in
    let here = moment c.delivering.shards.items [] (sent_of (g.C.Carrier.held c.delivering.carrier)) (g.C.Carrier.carried c.delivering.carrier) (g.C.Carrier.log c.delivering.carrier) in
    let next = moment c.next_superstep.new.shards.items [] (sent_of (g.C.Carrier.held c.next_superstep.new.carrier)) (g.C.Carrier.carried c.next_superstep.new.carrier) (g.C.Carrier.log c.next_superstep.new.carrier) in
    record {
      whole = c.in_ok-afloat.ensures.whole;
      settled = c.in_ok-afloat.ensures.settled;
      addressed = c.in_ok-afloat.ensures.addressed;
      afloat = c.in_ok-afloat.ensures.afloat;
      total = omega (arith, c.delivering.invariant.total, c.in_ok-afloat.ensures.total);
      passes = passes-then c.delivering.deliveries 1 start here next c.delivering.invariant.passes c.in_ok-afloat.ensures.passes;
    }
