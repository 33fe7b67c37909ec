use Rattle.std.proofs.Common.{◌≡◌, ◌<◌, ◌≤◌, ℕ, length, get_or, sym, ap, ◌∙◌, inl, inr, arith}
use Rattle.std.proofs.lemmas.Bool.{cases_lt}
use Rattle.std.proofs.lemmas.List.{get_or_default}
use Rattle.shard_core.specs.declared.hearing.Offer.{Offer}
use Rattle.shard_core.specs.Offers.{asker_of}
use Rattle.shard_core.proofs.OfferLemmas.{all-closed, closed-asker}
use Rattle.shard_core.proofs.hearing.find_offer.Goals as goal

pub returns-else-offers-place-clause-none : goal.returns-else-offers-place-clause-none
returns-else-offers-place-clause-none c =
    all-closed c.args.ask.now c.args.offers.now
    (λ k d low.
    elim (cases_lt k c.finding.place) [
      | inl early ↦ c.finding.invariant.closed k d early low
      | inr late ↦
          closed-asker c.args.ask.now (get_or c.args.offers.now k d)
          (λ same.
          (let here : asker_of (get_or c.args.offers.now c.finding.place d) ≡ asker_of (get_or c.args.offers.now c.finding.place c.index-offers-place.result) =
          ap asker_of (get_or_default c.args.offers.now c.finding.place d c.index-offers-place.result c.finding-test.true) in
          let least = c.finding.invariant.behind c.finding.place d (omega arith) c.finding-test.true in
          let order = c.requires c.finding.place k d late low in
          c.if-offers-place.false (omega (arith, same, here, least, order))))
    ])

pub returns-after-finding-clause-none : goal.returns-after-finding-clause-none
returns-after-finding-clause-none c =
    all-closed c.args.ask.now c.args.offers.now (λ k d low. c.finding.invariant.closed k d (omega (arith, low, c.finding-test.false)) low)
