use Rattle.std.proofs.Common.{◌≡◌, ◌^◌, nat_lt, find, None}
use Rattle.walk_model.specs.Numbers.{below}
use Rattle.vertex_partition.specs.Reaches.{row_reach}
use Rattle.vertex_partition.proofs.reaching.first_overflow.Given as goal

abbrev pub invariant-loop-v : goal.invariant-loop-v
invariant-loop-v l = find (λ v. nat_lt (2 ^ 62) (row_reach l.rows l.weighted l.factor v)) (below l.v) ≡ None
