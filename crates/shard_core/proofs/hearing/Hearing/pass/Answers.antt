use Rattle.std.proofs.Common.{◌≡◌, ◌<◌, true, List, ℕ, ap, sym, ◌∙◌, refl, length, get_or, arith}
use Rattle.std.proofs.lemmas.List.{get_or_default}
use Rattle.traveller.specs.Replies.{hear}
use Rattle.traveller.specs.Standing.{parted}
use Rattle.shard_core.specs.declared.hearing.Offer.{Offer}
use Rattle.shard_core.proofs.HearLemmas.{one-waits, one-hears}
use Rattle.shard_core.proofs.hearing.Hearing.pass.Goals as goal

pub returns-in_ok-push-in-None : goal.returns-in_ok-push-in-None
returns-in_ok-push-in-None c = λ first passed inv.
    one-waits c.args.run.now c.args.part.now first passed c.args.self.now _ c.args.traveller c.requires.waits c.in-None.ensures.none refl refl
    c.in_ok-push-in-None.ensures.items inv

pub returns-in_ok-push-in-Some : goal.returns-in_ok-push-in-Some
returns-in_ok-push-in-Some c = λ first passed inv.
    let os : List Offer = c.args.self.now.offers.items in
    let i : ℕ = c.in-Some.place in
    let o : Offer = record { told = c.index_mut.result.now.told; taken = true } in
    let low : i < length os = c.in-Some.ensures.found.there.low in
    let read : c.index.result.now ≡ get_or os i o = c.index.ensures ∙ get_or_default os i c.index.result.now o low in
    let written : c.index_mut.result.now ≡ get_or os i o = c.index_mut.ensures.value ∙ get_or_default os i c.index_mut.result.now o low in
    one-hears c.args.run.now c.args.part.now first passed c.args.self.now _ c.args.traveller c.hear.new.self i o c.requires.waits c.in-Some.ensures.found
    refl (ap (λ (x : Offer). record { told = x.told; taken = true }) written) c.in_ok-push-in-Some.ensures.items refl
    (λ g of.
    c.hear.ensures.data g of
    ∙ ap (λ (x : Offer). hear (parted g c.args.run.now c.args.part.now.cuts) c.args.traveller x.told.reply.found) read)
    (record { stands = c.hear.ensures.stands; ready = c.hear.ensures.ready }) inv
