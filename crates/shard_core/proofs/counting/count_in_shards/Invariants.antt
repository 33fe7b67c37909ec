use Rattle.std.proofs.Common.{◌≡◌, take}
use Rattle.std.specs.List.{flat_map}
use Rattle.shard_core.specs.Counted.{count_walks}
use Rattle.shard_core.proofs.counting.count_in_shards.Given as goal

abbrev pub invariant-loop-shard : goal.invariant-loop-shard
invariant-loop-shard l = l.counts ≡ count_walks l.initial.counts (flat_map (λ s. s.residents) (take l.shard-index l.shards))
