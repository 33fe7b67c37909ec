use Rattle.shard_core.specs.Offers.{IsHearing}
use Rattle.shard_core.proofs.hearing.hear_each.Given as goal

abbrev pub invariant-loop-traveller : goal.invariant-loop-traveller
invariant-loop-traveller l = IsHearing l.run l.part l.fn.offers.items l.yielded l.hearing
