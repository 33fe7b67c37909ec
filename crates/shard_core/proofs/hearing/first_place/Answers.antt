use Rattle.std.proofs.Common.{◌≡◌, ◌≤◌, ◌<◌, ℕ, rules, true, false, nat_lt, get_or, arith}
use Rattle.std.specs.List.Sorted.{IsPartitionPoint}
use Rattle.std.proofs.lemmas.Bool.{ltb-true, ltb-false}
use Rattle.std.proofs.lemmas.List.Sorted.{IsPartitionPoint-from_clause, IsPartitionedBy-ltb}
use Rattle.shard_core.specs.declared.hearing.Offer.{Offer}
use Rattle.shard_core.specs.Offers.{asker_of}
use Rattle.shard_core.proofs.hearing.first_place.Goals as goal

pub returns-clause-before : goal.returns-clause-before
returns-clause-before c = λ k d low.
    let point : IsPartitionPoint (λ o. nat_lt (asker_of o) c.args.number ≡ true) (λ o. nat_lt (asker_of o) c.args.number ≡ false) c.args.offers.now c.partition_point.result =
    IsPartitionPoint-from_clause (λ o. nat_lt (asker_of o) c.args.number) c.args.offers.now c.partition_point.result c.partition_point.ensures.partitioned
    (IsPartitionedBy-ltb asker_of c.args.offers.now c.args.number c.requires) (λ a r f' k. search rules) in
    ltb-true (asker_of (get_or c.args.offers.now k d)) c.args.number (point.0 k d (omega arith) low)

pub returns-clause-behind : goal.returns-clause-behind
returns-clause-behind c = λ k d late low.
    let point : IsPartitionPoint (λ o. nat_lt (asker_of o) c.args.number ≡ true) (λ o. nat_lt (asker_of o) c.args.number ≡ false) c.args.offers.now c.partition_point.result =
    IsPartitionPoint-from_clause (λ o. nat_lt (asker_of o) c.args.number) c.args.offers.now c.partition_point.result c.partition_point.ensures.partitioned
    (IsPartitionedBy-ltb asker_of c.args.offers.now c.args.number c.requires) (λ a r f' k. search rules) in
    ltb-false (asker_of (get_or c.args.offers.now k d)) c.args.number (point.1 k d late low)
