use Rattle.shard_core.specs.Abreast.{turns_left}
use Rattle.request_replies.proofs.OneWalk.{GoesOn}
use Rattle.request_replies.proofs.walking.counted_walk.Given as goal

abbrev pub invariant-walking : goal.invariant-walking
invariant-walking g l = GoesOn l.names l.here l.stream l.rank l.most l.entries.items l.lane

abbrev pub decreases-walking : goal.decreases-walking
decreases-walking g l = turns_left l.lane
