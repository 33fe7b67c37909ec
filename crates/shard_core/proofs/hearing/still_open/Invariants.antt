use Rattle.std.proofs.Common.{◌≡◌}
use Rattle.shard_core.specs.Offers.{open_tolds}
use Rattle.shard_core.proofs.hearing.still_open.Given as goal

abbrev pub invariant-keeping : goal.invariant-keeping
invariant-keeping l = l.aside.items ≡ open_tolds l.yielded
