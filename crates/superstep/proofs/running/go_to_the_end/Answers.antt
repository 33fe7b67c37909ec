use Rattle.std.proofs.Common.{◌<◌, ◌≤◌, ◌+◌, ◌^◌, ◌∙◌, length, get_or, ap, subst}
use Rattle.traveller.specs.Standing.{parted}
use Rattle.world_law.specs.Worlds.{world_pieces}
use Rattle.shard_core.specs.SoundWorlds.{world_data}
use Rattle.superstep.specs.Moments.{most_letters}
use Rattle.superstep.specs.ToPost.{to_post}
use Rattle.superstep.proofs.EndLemmas.{start-going, start-stands, end-letters, end-count, logged-as, flight-from, shards-few}
use Rattle.superstep.proofs.running.go_to_the_end.Goals as goal

pub walk_through-requires-clause-from : goal.walk_through-requires-clause-from
walk_through-requires-clause-from g c κs within = flight-from c.args.world c.requires.sound

pub walk_through-requires-clause-few : goal.walk_through-requires-clause-few
walk_through-requires-clause-few g c κs within =
    shards-few c.args.world c.requires.sound
    (λ s. subst (λ l. length (get_or l 0 s).part.cuts + 1 ≤ 256) c.as_slice.ensures.value (c.look_up.ensures.parts s))

pub walk_through-requires-clause-going : goal.walk_through-requires-clause-going
walk_through-requires-clause-going g c κs within =
    start-going c.args.world (g.C.Carrier.carried c.args.carrier.now) (g.C.Carrier.log c.args.carrier.now) c.requires.sound c.requires.count
    (λ s. subst (λ l. most_letters (get_or l 0 s).run < 2 ^ 63) c.as_slice.ensures.value (c.look_up.ensures.letters s))

pub returns-clause-walks : goal.returns-clause-walks
returns-clause-walks g c h run cuts sound =
    let passes = c.in_ok-posted.ensures.passes.1 in
    let start = start-stands h run cuts c.args.world (g.C.Carrier.carried c.args.carrier.now) (g.C.Carrier.log c.args.carrier.now) sound in
    let leads = passes.leads h run cuts start in
    c.in_ok-finished.ensures h run cuts (g.C.Carrier.carried c.walk_through.new.carrier) (g.C.Carrier.log c.walk_through.new.carrier) leads.stands

pub returns-clause-carried : goal.returns-clause-carried
returns-clause-carried g c h run cuts sound =
    let p = parted h run cuts in
    let ended = c.in_ok-posted.ensures.passes.1 in
    let leads = ended.leads h run cuts (start-stands h run cuts c.args.world (g.C.Carrier.carried c.args.carrier.now) (g.C.Carrier.log c.args.carrier.now) sound) in
    let each = end-letters h run cuts c.in_ok-posted.ensures.passes.0 ended.letters c.args.world c.walk_through.new.shards.items (g.C.Carrier.carried c.args.carrier.now)
    (g.C.Carrier.carried c.walk_through.new.carrier) (g.C.Carrier.log c.args.carrier.now) (g.C.Carrier.log c.walk_through.new.carrier) c.in_ok-posted.ensures.settled leads in
    ended.carried
    ∙ ap (λ n. g.C.Carrier.carried c.args.carrier.now + n)
    (end-count p.walkers ended.letters (to_post p (world_pieces (world_data c.args.world))) leads.alone each)

pub returns-clause-logged : goal.returns-clause-logged
returns-clause-logged g c h run cuts sound =
    let p = parted h run cuts in
    let ended = c.in_ok-posted.ensures.passes.1 in
    let leads = ended.leads h run cuts (start-stands h run cuts c.args.world (g.C.Carrier.carried c.args.carrier.now) (g.C.Carrier.log c.args.carrier.now) sound) in
    let each = end-letters h run cuts c.in_ok-posted.ensures.passes.0 ended.letters c.args.world c.walk_through.new.shards.items (g.C.Carrier.carried c.args.carrier.now)
    (g.C.Carrier.carried c.walk_through.new.carrier) (g.C.Carrier.log c.args.carrier.now) (g.C.Carrier.log c.walk_through.new.carrier) c.in_ok-posted.ensures.settled leads in
    logged-as p.walkers (to_post p (world_pieces (world_data c.args.world))) ended.letters (g.C.Carrier.log c.args.carrier.now) (g.C.Carrier.log c.walk_through.new.carrier)
    ended.logged each leads.alone
