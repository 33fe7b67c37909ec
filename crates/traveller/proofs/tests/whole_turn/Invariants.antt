use Rattle.std.specs.Prelude.{IsTrue}
use Rattle.traveller.specs.Standing.{StandsIn}
use Rattle.traveller.specs.Walkers.{is_ready}
use Rattle.traveller.proofs.tests.whole_turn.Given as goal

abbrev pub invariant-asking : goal.invariant-asking
invariant-asking g l = StandsIn l.run l.part l.traveller × IsTrue (is_ready l.traveller.mode)
