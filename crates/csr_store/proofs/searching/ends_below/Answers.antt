use Rattle.std.proofs.Common.{ℕ, rules}
use Rattle.std.specs.Prelude.{nat_lt}
use Rattle.std.proofs.lemmas.List.Sorted.{IsPartitionPoint-from_clause, IsPartitionedBy-ltb}
use Rattle.csr_store.proofs.SearchLemmas.{count-from_point}
use Rattle.csr_store.proofs.searching.ends_below.Goals as goal

pub returns-else-ends-le-SHORT : goal.returns-else-ends-le-SHORT
returns-else-ends-le-SHORT c =
    count-from_point (λ (e : ℕ). nat_lt e c.args.t) c.args.ends.now _ c.partition_point.ensures.bound
    (IsPartitionPoint-from_clause (λ (e : ℕ). nat_lt e c.args.t) c.args.ends.now _ c.partition_point.ensures.partitioned
    (IsPartitionedBy-ltb (λ (e : ℕ). e) c.args.ends.now c.args.t c.requires) (λ a r f' k. search rules))
