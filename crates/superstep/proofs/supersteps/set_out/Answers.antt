use Rattle.std.proofs.Common.{◌+◌, ◌++◌, [], length, arith}
use Rattle.std.proofs.lemmas.List.{length-map}
use Rattle.walker_mail.specs.declared.parcels.Posted.{Posted}
use Rattle.shard_core.specs.declared.items.Item.{Item}
use Rattle.shard_core.specs.Items.{item_of}
use Rattle.shard_core.specs.SoundWorlds.{flight_of}
use Rattle.superstep.specs.Boxes.{ComesFrom, boxed, joined, opened}
use Rattle.superstep.specs.Moments.{IsGoing, Passes, moment, sent_of}
use Rattle.superstep.specs.Rounding.{arrived}
use Rattle.superstep.proofs.DeliverLemmas.{opened-empty, empty-home}
use Rattle.superstep.proofs.StepLemmas.{out-pass, out-going, out-addressed, out-room, out-count, posted-total}
use Rattle.superstep.proofs.GoingLemmas.{passes-then, passes-fewer, going-on, going-held}
use Rattle.superstep.proofs.supersteps.set_out.Goals as goal

pub post_each-requires-clause-room : goal.post_each-requires-clause-room
post_each-requires-clause-room g c =
    out-room c.args.shards.now.items ComesFrom c.len-parts.result c.args.flight.items c.in_ok-boxes.boxes.items (g.C.Carrier.carried c.args.carrier.now)
    (g.C.Carrier.log c.args.carrier.now) c.in_ok-boxes.ensures c.requires.going

pub superstep-requires-clause-sorted : goal.superstep-requires-clause-sorted
superstep-requires-clause-sorted g c κs within = empty-home c.in_ok-none.none.items c.in_ok-none.ensures.empty

pub superstep-requires-clause-addressed : goal.superstep-requires-clause-addressed
superstep-requires-clause-addressed g c κs within =
    out-addressed ComesFrom c.len-parts.result c.args.flight.items c.in_ok-boxes.boxes.items c.in_ok-posted.posted (g.C.Carrier.held c.args.carrier.now)
    (g.C.Carrier.held c.post_each.new.carrier) (g.C.Carrier.carried c.args.carrier.now) (g.C.Carrier.carried c.post_each.new.carrier)
    (g.C.Carrier.log c.args.carrier.now) (g.C.Carrier.log c.post_each.new.carrier) c.in_ok-boxes.ensures c.requires.held c.in_ok-posted.ensures c.requires.due

pub superstep-requires-clause-going : goal.superstep-requires-clause-going
superstep-requires-clause-going g c κs within =
    out-going c.args.shards.now.items ComesFrom c.len-parts.result c.args.flight.items c.in_ok-boxes.boxes.items (opened c.in_ok-none.none.items) c.in_ok-posted.posted
    (g.C.Carrier.held c.args.carrier.now) (g.C.Carrier.held c.post_each.new.carrier) (g.C.Carrier.carried c.args.carrier.now) (g.C.Carrier.carried c.post_each.new.carrier)
    (g.C.Carrier.log c.args.carrier.now) (g.C.Carrier.log c.post_each.new.carrier) c.in_ok-boxes.ensures c.requires.held c.in_ok-posted.ensures
    (opened-empty c.in_ok-none.none.items c.in_ok-none.ensures.empty) c.requires.going

pub returns-clause-passes : goal.returns-clause-passes
returns-clause-passes g c =
    let start = moment c.args.shards.now.items (flight_of c.args.flight.items) [] (g.C.Carrier.carried c.args.carrier.now) (g.C.Carrier.log c.args.carrier.now) in
    let middle = moment c.args.shards.now.items [] (arrived (joined (opened c.in_ok-none.none.items)) ++ sent_of (g.C.Carrier.held c.post_each.new.carrier))
    (g.C.Carrier.carried c.post_each.new.carrier) (g.C.Carrier.log c.post_each.new.carrier) in
    let end = moment c.superstep.new.shards.items [] (sent_of (g.C.Carrier.held c.superstep.new.carrier)) (g.C.Carrier.carried c.superstep.new.carrier) (g.C.Carrier.log c.superstep.new.carrier) in
    let first : Passes 0 start middle =
    out-pass c.args.shards.now.items ComesFrom c.len-parts.result c.args.flight.items c.in_ok-boxes.boxes.items (opened c.in_ok-none.none.items) c.in_ok-posted.posted
    (g.C.Carrier.held c.args.carrier.now) (g.C.Carrier.held c.post_each.new.carrier) (g.C.Carrier.carried c.args.carrier.now) (g.C.Carrier.carried c.post_each.new.carrier)
    (g.C.Carrier.log c.args.carrier.now) (g.C.Carrier.log c.post_each.new.carrier) c.in_ok-boxes.ensures c.requires.held c.in_ok-posted.ensures
    (opened-empty c.in_ok-none.none.items c.in_ok-none.ensures.empty) in
    passes-fewer (0 + length (joined (opened c.in_ok-none.none.items))) 0 start end (omega arith)
    (passes-then 0 (length (joined (opened c.in_ok-none.none.items))) start middle end first c.in_ok-more.ensures.passes)

pub returns-clause-afloat : goal.returns-clause-afloat
returns-clause-afloat g c =
    omega (
      arith,
      c.in_ok-more.ensures.count,
      out-count ComesFrom c.len-parts.result c.args.flight.items c.in_ok-boxes.boxes.items c.in_ok-posted.posted (g.C.Carrier.held c.args.carrier.now)
          (g.C.Carrier.held c.post_each.new.carrier) (g.C.Carrier.carried c.args.carrier.now) (g.C.Carrier.carried c.post_each.new.carrier)
          (g.C.Carrier.log c.args.carrier.now) (g.C.Carrier.log c.post_each.new.carrier) c.in_ok-boxes.ensures c.requires.held c.in_ok-posted.ensures,
    )

pub overflow_add-result : goal.overflow_add-result
overflow_add-result g c =
    let middle = moment c.args.shards.now.items [] (arrived (joined (opened c.in_ok-none.none.items)) ++ sent_of (g.C.Carrier.held c.post_each.new.carrier))
    (g.C.Carrier.carried c.post_each.new.carrier) (g.C.Carrier.log c.post_each.new.carrier) in
    let end = moment c.superstep.new.shards.items [] (sent_of (g.C.Carrier.held c.superstep.new.carrier)) (g.C.Carrier.carried c.superstep.new.carrier) (g.C.Carrier.log c.superstep.new.carrier) in
    let going : IsGoing middle =
    out-going c.args.shards.now.items ComesFrom c.len-parts.result c.args.flight.items c.in_ok-boxes.boxes.items (opened c.in_ok-none.none.items) c.in_ok-posted.posted
    (g.C.Carrier.held c.args.carrier.now) (g.C.Carrier.held c.post_each.new.carrier) (g.C.Carrier.carried c.args.carrier.now) (g.C.Carrier.carried c.post_each.new.carrier)
    (g.C.Carrier.log c.args.carrier.now) (g.C.Carrier.log c.post_each.new.carrier) c.in_ok-boxes.ensures c.requires.held c.in_ok-posted.ensures
    (opened-empty c.in_ok-none.none.items c.in_ok-none.ensures.empty) c.requires.going in
    let few = going-held end (going-on (length (joined (opened c.in_ok-none.none.items))) middle end going c.in_ok-more.ensures.passes) in
    omega (
      arith,
      few,
      c.in_ok-more.ensures.count,
      out-count ComesFrom c.len-parts.result c.args.flight.items c.in_ok-boxes.boxes.items c.in_ok-posted.posted (g.C.Carrier.held c.args.carrier.now)
          (g.C.Carrier.held c.post_each.new.carrier) (g.C.Carrier.carried c.args.carrier.now) (g.C.Carrier.carried c.post_each.new.carrier)
          (g.C.Carrier.log c.args.carrier.now) (g.C.Carrier.log c.post_each.new.carrier) c.in_ok-boxes.ensures c.requires.held c.in_ok-posted.ensures,
      length-map (g.C.Carrier.held c.superstep.new.carrier) (λ (p : Posted Item). item_of p.item),
    )

pub returns-clause-total : goal.returns-clause-total
returns-clause-total g c =
    omega (
      arith,
      c.in_ok-more.ensures.total,
      posted-total (boxed c.in_ok-boxes.boxes.items) c.in_ok-posted.posted (g.C.Carrier.held c.args.carrier.now)
          (g.C.Carrier.held c.post_each.new.carrier) (g.C.Carrier.carried c.args.carrier.now) (g.C.Carrier.carried c.post_each.new.carrier)
          (g.C.Carrier.log c.args.carrier.now) (g.C.Carrier.log c.post_each.new.carrier) c.in_ok-posted.ensures,
    )
