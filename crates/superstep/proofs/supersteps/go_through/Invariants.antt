use Rattle.std.proofs.Common.{◌≡◌, ◌^◌, ◌+◌, ◌-◌, length, true, []}
use Rattle.std.specs.Prelude.{All}
use Rattle.superstep.specs.Moments.{IsAddressed, IsSettled, Passes, moment, sent_of}
use Rattle.superstep.proofs.supersteps.go_through.Given as goal

abbrev pub invariant-delivering : goal.invariant-delivering
invariant-delivering g l = record {
  whole : All (λ s. s.whole ≡ true) l.shards.items;
  settled : All IsSettled l.shards.items;
  addressed : All IsAddressed (g.C.Carrier.held l.carrier);
  afloat : l.afloat ≡ length (g.C.Carrier.held l.carrier);
  total : l.total + g.C.Carrier.carried l.fn.carrier ≡ l.fn.total + g.C.Carrier.carried l.carrier;
  passes : Passes l.deliveries
      (moment l.fn.shards.items [] (sent_of (g.C.Carrier.held l.fn.carrier)) (g.C.Carrier.carried l.fn.carrier) (g.C.Carrier.log l.fn.carrier))
      (moment l.shards.items [] (sent_of (g.C.Carrier.held l.carrier)) (g.C.Carrier.carried l.carrier) (g.C.Carrier.log l.carrier));
}

abbrev pub decreases-delivering : goal.decreases-delivering
decreases-delivering g l = 2 ^ 63 - l.deliveries
