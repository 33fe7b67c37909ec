use Rattle.shard_core.specs.Abreast.{Decides}
use Rattle.shard_core.proofs.EachLemmas.{AreSoFar}
use Rattle.shard_core.proofs.abreast.decide_each.Given as goal

abbrev pub invariant-loop-lane : goal.invariant-loop-lane
invariant-loop-lane g l = AreSoFar (Decides l.here.run l.here.part) l.lane-index l.initial.lanes l.lanes
