use Rattle.superstep.proofs.FlightLemmas.{flown-more}
use Rattle.superstep.proofs.going_tests.in_flight.Goals as goal

pub flying-preserved : goal.flying-preserved
flying-preserved c =
    flown-more c.flying.yielded c.in-Some.parcel c.flying.flight.items c.unpack.new.flight.items c.flying.invariant c.in_ok-unpack.ensures
