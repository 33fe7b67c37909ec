use Rattle.std.proofs.Common.{ℕ, rules}
use Rattle.std.specs.Prelude.{nat_lt}
use Rattle.std.proofs.lemmas.List.Sorted.{IsPartitionPoint-from_clause, IsPartitionedBy-ltb}
use Rattle.vertex_names.proofs.ListLemmas.{count-from_point}
use Rattle.vertex_names.proofs.indexing.ids_below.Goals as goal

pub returns-else-part-le-SHORT : goal.returns-else-part-le-SHORT
returns-else-part-le-SHORT c =
    count-from_point (λ (y : ℕ). nat_lt y c.args.id) c.args.part.now _ c.partition_point.ensures.bound
    (IsPartitionPoint-from_clause (λ (y : ℕ). nat_lt y c.args.id) c.args.part.now _ c.partition_point.ensures.partitioned
    (IsPartitionedBy-ltb (λ (y : ℕ). y) c.args.part.now c.args.id c.requires) (λ a r f' k. search rules))
