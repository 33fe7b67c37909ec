use Rattle.std.proofs.Common.{◌≡◌, map}
use Rattle.shard_core.specs.Offers.{offer_of}
use Rattle.shard_core.proofs.arriving.offered.Given as goal

abbrev pub invariant-loop-told : goal.invariant-loop-told
invariant-loop-told l = l.offers.items ≡ map offer_of l.yielded
