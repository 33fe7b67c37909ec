use Rattle.std.proofs.Common.{◌≡◌, map}
use Rattle.shard_core.specs.Offers.{sent_home}
use Rattle.shard_core.proofs.arriving.sent_back.Given as goal

abbrev pub invariant-loop-reply : goal.invariant-loop-reply
invariant-loop-reply l = l.out.items ≡ map (sent_home l.from) l.yielded
