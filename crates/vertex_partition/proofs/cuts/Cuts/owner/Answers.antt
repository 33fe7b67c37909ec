use Rattle.std.proofs.Common.{ℕ, List, rules, ◌∙◌, ap}
use Rattle.std.specs.Prelude.{nat_le}
use Rattle.std.proofs.lemmas.List.Sorted.{IsPartitionPoint-from_clause, IsPartitionedBy-leb}
use Rattle.walk_model.specs.Cuts.{owner}
use Rattle.vertex_partition.specs.CutViews.{CutView}
use Rattle.vertex_partition.proofs.OwnerLaws.{owner-found}
use Rattle.vertex_partition.proofs.cuts.Cuts.owner.Goals as goal

pub returns-clause-owner : goal.returns-clause-owner
returns-clause-owner c =
    owner-found c.deref.result.now c.args.v _ c.partition_point.ensures.bound
    (IsPartitionPoint-from_clause (λ (e : ℕ). nat_le e c.args.v) c.deref.result.now _ c.partition_point.ensures.partitioned
    (IsPartitionedBy-leb (λ (e : ℕ). e) c.deref.result.now c.args.v (search rules)) (λ a r f' k. search rules))
    ∙ ap (λ (cs : List ℕ). owner cs c.args.v) (c.deref.ensures.value ∙ ap (λ (v : CutView). v.cuts) c.self.view_is)
