use Rattle.std.proofs.Common.{◌≡◌}
use Rattle.std.specs.List.{flat_map}
use Rattle.shard_core.proofs.worlds.prints_of.Given as goal

abbrev pub invariant-loop-shard : goal.invariant-loop-shard
invariant-loop-shard l = flat_map (λ k. k.prints) l.kept.items ≡ flat_map (λ s. s.prints) l.yielded
