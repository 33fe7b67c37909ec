use Rattle.std.proofs.Common.{◌≡◌, ◌==◌, true, rules, refl, sym, ap, ◌∙◌, [], length, vec_len, arith, eqb-true}
use Rattle.std.proofs.lemmas.List.{nil_from_length}
use Rattle.std.proofs.lemmas.List.Sorted.{All-permutation, IsNonDecreasingBy-from_sort_by_key, sum_by-IsPermutation}
use Rattle.shard_core.specs.declared.hearing.Offer.{Offer}
use Rattle.shard_core.specs.KeptShards.{HasForm}
use Rattle.shard_core.specs.Offers.{asker_of}
use Rattle.shard_core.proofs.HearLemmas.{none-come, none-passed}
use Rattle.shard_core.proofs.hearing.hear_each.Goals as goal

pub returns-then-is_empty : goal.returns-then-is_empty
returns-then-is_empty c =
    let test : (vec_len c.args.offers == 0) ≡ true = sym c.is_empty.ensures ∙ c.if-is_empty.true in
    let none : vec_len c.args.offers ≡ 0 = eqb-true (vec_len c.args.offers) 0 test in
    let empty : length c.args.offers.items ≡ 0 = sym c.args.offers.ok.0 ∙ none in
    none-come c.args.run.now c.args.part.now c.args.offers.items c.args.waiting.items _ (nil_from_length c.args.offers.items empty) c.requires.waits refl c.new.ensures.items refl

pub loop-traveller-init : goal.loop-traveller-init
loop-traveller-init c =
    none-passed c.args.run.now c.args.part.now c.args.offers.items _
    (IsNonDecreasingBy-from_sort_by_key asker_of c.sort_by_key.new.self.items c.in_ok-sort_by_key.ensures.sorted (λ a r q k. search rules))
    (All-permutation (λ (o : Offer). HasForm o.told) c.args.offers.items c.sort_by_key.new.self.items c.in_ok-sort_by_key.ensures.permutation c.requires.forms)
    (λ f. sum_by-IsPermutation f c.args.offers.items c.sort_by_key.new.self.items c.in_ok-sort_by_key.ensures.permutation) c.new-2.ensures.items c.new-3.ensures.items
