use Rattle.std.proofs.Common.{◌≡◌, ◌++◌, take, drop, map}
use Rattle.vertex_names.specs.Ranks.{ranked}
use Rattle.vertex_names.proofs.names.Names.rename.Given as goal

abbrev pub invariant-loop-e : goal.invariant-loop-e
invariant-loop-e l = l.edges ≡ map (ranked l.self) (take l.e-index l.initial.edges) ++ drop l.e-index l.initial.edges
