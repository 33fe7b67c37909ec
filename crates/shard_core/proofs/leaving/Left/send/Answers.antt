use Rattle.std.proofs.Common.{◌≡◌, ◌≤◌, ℕ, length, refl, ap, sym, subst, ◌∙◌}
use Rattle.walk_model.specs.Cuts.{owner}
use Rattle.vertex_partition.specs.PartViews.{PartView}
use Rattle.shard_core.specs.declared.items.Item.TheVariants as item
use Rattle.shard_core.specs.SoundWorlds.{IsInFlight}
use Rattle.shard_core.specs.declared.leaving.Left.{Left}
use Rattle.shard_core.proofs.LeaveLemmas.{walker-flight, sent-left, sent-same}
use Rattle.shard_core.proofs.leaving.Left.send.Goals as goal

pub returns-clause-left : goal.returns-clause-left
returns-clause-left c =
    let next : Left = record { waiting = c.args.self.now.waiting; ended = c.args.self.now.ended; out = c.push.new.self } in
    let p : PartView = c.args.here.now.part in
    let from : c.part-from.result ≡ p.part = c.part-from.ensures.part ∙ ap (λ (r : PartView). r.part) c.part.ensures in
    let to : c.owner-to.result ≡ owner p.cuts c.args.traveller.state.at =
    c.owner-to.ensures.owner ∙ ap (λ (r : PartView). owner r.cuts c.at.result) c.part-2.ensures ∙ ap (owner p.cuts) c.at.ensures in
    let there : c.owner-to.result ≤ length p.cuts = rw c.part-2.ensures at c.owner-to.ensures.part in
    let low : c.part-from.result ≤ length p.cuts = rw c.part.ensures at c.part-from.ensures.low in
    sent-left c.args.here.now.run p c.args.self.now next (record { to = c.owner-to.result; item = item.Walker c.args.traveller c.part-from.result c.owner-to.result })
    (subst (λ n. IsInFlight c.args.here.now.run.vertices p.cuts (record { to = c.owner-to.result; item = item.Walker c.args.traveller n c.owner-to.result })) (sym from)
    (walker-flight c.args.here.now.run p c.args.traveller c.owner-to.result c.requires.turned c.requires.fresh (subst (λ n. n ≤ length p.cuts) from low) to there))
    refl refl c.in_ok-push.ensures.items c.requires.left

pub returns-clause-same : goal.returns-clause-same
returns-clause-same c =
    let next : Left = record { waiting = c.args.self.now.waiting; ended = c.args.self.now.ended; out = c.push.new.self } in
    let p : PartView = c.args.here.now.part in
    let from : c.part-from.result ≡ p.part = c.part-from.ensures.part ∙ ap (λ (r : PartView). r.part) c.part.ensures in
    let to : c.owner-to.result ≡ owner p.cuts c.args.traveller.state.at =
    c.owner-to.ensures.owner ∙ ap (λ (r : PartView). owner r.cuts c.at.result) c.part-2.ensures ∙ ap (owner p.cuts) c.at.ensures in
    sent-same p c.args.self.now next c.args.traveller c.part-from.result c.owner-to.result c.requires.fresh c.requires.leaves from to refl refl c.in_ok-push.ensures.items
