use Rattle.shard_core.specs.Abreast.{Goes}
use Rattle.shard_core.proofs.EachLemmas.{AreSoFar}
use Rattle.shard_core.proofs.abreast.go_each.Given as goal

abbrev pub invariant-loop-lane : goal.invariant-loop-lane
invariant-loop-lane l = AreSoFar (Goes l.here.run l.here.part) l.lane-index l.initial.lanes l.lanes
