use Rattle.std.proofs.Common.{◌≡◌}
use Rattle.std.specs.List.{flat_map}
use Rattle.shard_core.specs.Gathered.{put_all}
use Rattle.shard_core.proofs.finishing.put_lists.Given as goal

abbrev pub invariant-loop-prints : goal.invariant-loop-prints
invariant-loop-prints l = l.entries ≡ put_all l.begins l.initial.entries (flat_map (λ k. k.prints) l.yielded)
