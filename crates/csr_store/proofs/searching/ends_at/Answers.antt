use Rattle.std.proofs.Common.{ℕ, ◌∙◌, rules, arith}
use Rattle.std.specs.Prelude.{nat_le}
use Rattle.std.proofs.lemmas.List.Sorted.{IsPartitionPoint-from_clause, IsPartitionedBy-leb}
use Rattle.csr_store.proofs.SearchLemmas.{count-from_point, count-upto, equal-none, equal-one}
use Rattle.csr_store.proofs.searching.ends_at.Goals as goal

pub returns-in-len1-up : goal.returns-in-len1-up
returns-in-len1-up c =
    equal-none c.args.t c.args.ends.now _ c.requires.order c.requires.least c.if-first-t.true (omega arith)

pub returns-in-len2-up : goal.returns-in-len2-up
returns-in-len2-up c =
    equal-one c.args.t c.args.ends.now _ c.requires.order c.requires.least c.if-first-t.false c.if-second-t.true (omega arith)

pub returns-in_default : goal.returns-in_default
returns-in_default c =
    count-from_point (λ (e : ℕ). nat_le e c.args.t) c.args.ends.now _ c.partition_point.ensures.bound
    (IsPartitionPoint-from_clause (λ (e : ℕ). nat_le e c.args.t) c.args.ends.now _ c.partition_point.ensures.partitioned
    (IsPartitionedBy-leb (λ (e : ℕ). e) c.args.ends.now c.args.t c.requires.order) (λ a r f' k. search rules))
    ∙ count-upto c.args.t c.args.ends.now c.requires.least
