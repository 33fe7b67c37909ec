use Rattle.traveller.specs.Standing.{StandsIn}
use Rattle.traveller.proofs.tests.lane_turns.Given as goal

abbrev pub invariant-turning : goal.invariant-turning
invariant-turning g l = StandsIn l.here.run l.here.part l.lane
