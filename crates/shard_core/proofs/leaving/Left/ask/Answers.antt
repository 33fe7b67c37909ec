use Rattle.std.proofs.Common.{◌≡◌, ◌≤◌, ◌+◌, ℕ, length, refl, ap, sym, subst, ◌∙◌}
use Rattle.walk_model.specs.declared.messages.Ask.{Ask}
use Rattle.walk_model.specs.Cuts.{owner}
use Rattle.vertex_partition.specs.PartViews.{PartView}
use Rattle.traveller.specs.Walkers.{Walker, asked_vertex, ask_with}
use Rattle.shard_core.specs.declared.items.Item.TheVariants as item
use Rattle.shard_core.specs.declared.leaving.Left.{Left}
use Rattle.shard_core.proofs.LeaveLemmas.{ask-flight, asked-left, asked-same, same-ask}
use Rattle.shard_core.proofs.leaving.Left.ask.Goals as goal

pub returns-clause-left : goal.returns-clause-left
returns-clause-left c =
    let next : Left = record { waiting = c.push-2.new.self; ended = c.args.self.now.ended; out = c.push.new.self } in
    let p : PartView = c.args.here.now.part in
    let v : Walker = c.args.traveller in
    let home : c.part-2.result ≡ p.part = c.part-2.ensures.part ∙ ap (λ (r : PartView). r.part) c.part.ensures in
    let to : c.owner-to.result ≡ owner p.cuts (asked_vertex c.args.question) =
    c.owner-to.ensures.owner ∙ ap (λ (r : PartView). owner r.cuts c.asked_of.result) c.part-3.ensures ∙ ap (owner p.cuts) c.asked_of.ensures in
    let there : c.owner-to.result ≤ length p.cuts = rw c.part-3.ensures at c.owner-to.ensures.part in
    let low : c.part-2.result ≤ length p.cuts = rw c.part.ensures at c.part-2.ensures.low in
    let ask : Ask = record { walker = c.number.result; step = c.step.result + 1; home = c.part-2.result; question = c.args.question } in
    asked-left c.args.here.now.run p c.args.self.now next v c.args.question (record { to = c.owner-to.result; item = item.Ask ask c.owner-to.result })
    c.requires.stands c.requires.asks
    (ask-flight c.args.here.now.run p ask c.owner-to.result c.requires.stands.suits (c.asks_within.ensures c.args.question c.requires.asks) home
    (subst (λ n. n ≤ length p.cuts) home low) to there)
    c.in_ok-push-2.ensures.items refl c.in_ok-push.ensures.items c.requires.left

pub returns-clause-same : goal.returns-clause-same
returns-clause-same c =
    let next : Left = record { waiting = c.push-2.new.self; ended = c.args.self.now.ended; out = c.push.new.self } in
    let p : PartView = c.args.here.now.part in
    let v : Walker = c.args.traveller in
    let home : c.part-2.result ≡ p.part = c.part-2.ensures.part ∙ ap (λ (r : PartView). r.part) c.part.ensures in
    let to : c.owner-to.result ≡ owner p.cuts (asked_vertex c.args.question) =
    c.owner-to.ensures.owner ∙ ap (λ (r : PartView). owner r.cuts c.asked_of.result) c.part-3.ensures ∙ ap (owner p.cuts) c.asked_of.ensures in
    let ask : Ask = record { walker = c.number.result; step = c.step.result + 1; home = c.part-2.result; question = c.args.question } in
    asked-same p c.args.self.now next v c.args.question ask c.owner-to.result c.requires.asks
    (same-ask p v c.args.question c.number.result c.step.result c.part-2.result c.number.ensures c.step.ensures.step (home ∙ sym c.requires.stands.owned))
    to c.in_ok-push-2.ensures.items refl c.in_ok-push.ensures.items
