use Rattle.std.proofs.Common.{◌≡◌, ◌++◌, ◌∷◌, [], sym, subst, ap, ◌∙◌}
use Rattle.std.specs.Prelude.{slice_index}
use Rattle.traveller.specs.Walkers.{Walker, first_walker}
use Rattle.shard_core.specs.Abreast.{IsOnWay}
use Rattle.shard_core.proofs.AbreastLemmas.{first-way, still-way, between-turn, left-turn}
use Rattle.request_replies.proofs.OneWalk.{goes-first, goes-more}
use Rattle.request_replies.proofs.walking.counted_walk.Goals as goal

pub walking-init : goal.walking-init
walking-init g c =
    let first : c.of-lane.result ≡ first_walker c.args.stream c.args.rank c.args.most = c.of-lane.ensures ∙ c.new-traveller.ensures.first in
    goes-first c.args.names.now c.args.here.now c.args.stream c.args.rank c.args.most c.push.new.self.items c.of-lane.result
    (subst (λ (w : Walker). IsOnWay c.args.here.now.run c.args.here.now.part w) (sym first)
    (first-way c.args.here.now.run c.args.here.now.part c.args.stream c.args.rank c.args.most c.run.ensures.suits c.requires.all c.requires.start)) first
    (c.in_ok-push.ensures.items ∙ ap (λ l. l ++ c.id.result ∷ []) c.in_ok-entries.ensures.items ∙ ap (λ x. x ∷ []) c.id.ensures.id)

pub walking-smaller : goal.walking-smaller
walking-smaller g c =
    let run = c.args.here.now.run in
    let part = c.args.here.now.part in
    left-turn run part c.walking.lane c.turn.new.lane c.requires.all
    (still-way run part c.walking.lane c.walking.invariant.between (sym c.has_ended.ensures ∙ c.walking-test.true)) c.turn.ensures

pub walking-preserved : goal.walking-preserved
walking-preserved g c =
    let run = c.args.here.now.run in
    let part = c.args.here.now.part in
    let way : IsOnWay run part c.walking.lane =
    still-way run part c.walking.lane c.walking.invariant.between (sym c.has_ended.ensures ∙ c.walking-test.true) in
    goes-more c.args.names.now c.args.here.now c.args.stream c.args.rank c.args.most c.walking.entries.items c.add_entry.new.entries.items c.walking.lane c.turn.new.lane
    c.requires.all c.walking.invariant way c.turn.ensures (between-turn run part c.walking.lane c.turn.new.lane c.requires.all way c.turn.ensures) c.in_ok-add_entry.ensures
