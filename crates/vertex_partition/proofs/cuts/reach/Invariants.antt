use Rattle.std.proofs.Common.{◌-◌, length}
use Rattle.vertex_partition.specs.Fronts.{IsFront}
use Rattle.vertex_partition.proofs.cuts.reach.Given as goal

abbrev pub invariant-loop-front : goal.invariant-loop-front
invariant-loop-front l = IsFront l.costs l.parts l.least l.front

abbrev pub decreases-loop-front : goal.decreases-loop-front
decreases-loop-front l = length l.costs - l.front.count
