use Rattle.std.proofs.Common.{◌∙◌, map, arith, subst, sym}
use Rattle.std.specs.Prelude.{Vec}
use Rattle.std.specs.declared.alloc.Global.{Global}
use Rattle.std.proofs.lemmas.List.{length-map}
use Rattle.std.proofs.lemmas.List.Sorted.{length_permutation}
use Rattle.walker_mail.specs.Posts.{all_items}
use Rattle.shard_core.specs.Shards.{ShardView}
use Rattle.superstep.specs.Boxes.{addressed_of, joined, opened}
use Rattle.superstep.specs.Rounding.{AreReached, HavePacked}
use Rattle.superstep.specs.Moments.{sent_of}
use Rattle.superstep.proofs.StepLemmas.{reached-of, made-due, posted-addressed, posted-count, posted-total, step-room, step-pass, step-settled}
use Rattle.superstep.proofs.supersteps.superstep.Goals as goal

pub make_rounds-requires-clause-reached : goal.make_rounds-requires-clause-reached
make_rounds-requires-clause-reached g c κs within =
    subst (λ (v : Vec ShardView Global). AreReached v.items (opened c.args.boxes.items)) (sym c.replace-before.ensures.value)
    (reached-of c.args.shards.now.items (opened c.args.boxes.items) (sent_of (g.C.Carrier.held c.args.carrier.now)) (g.C.Carrier.carried c.args.carrier.now)
    (g.C.Carrier.log c.args.carrier.now) (length-map c.args.boxes.items _ ∙ c.requires.long) c.requires.sorted c.requires.going)

pub post_all-requires : goal.post_all-requires
post_all-requires g c =
    let packed = subst (λ (v : Vec ShardView Global). HavePacked v.items (opened c.args.boxes.items) c.in_ok-after.after.items c.in_ok-after.parcels.items) c.replace-before.ensures.value c.in_ok-after.ensures.made in
    let room = step-room c.args.shards.now.items c.in_ok-after.after.items (opened c.args.boxes.items) packed.given (sent_of (g.C.Carrier.held c.args.carrier.now))
    (g.C.Carrier.carried c.args.carrier.now) (g.C.Carrier.log c.args.carrier.now) packed.made c.requires.sorted c.requires.going in
    omega (
      arith,
      room,
      length_permutation (joined packed.given) (map addressed_of (all_items c.in_ok-after.parcels.items)) packed.packed,
      length-map (all_items c.in_ok-after.parcels.items) addressed_of,
    )

pub returns-clause-passes : goal.returns-clause-passes
returns-clause-passes g c =
    let packed = subst (λ (v : Vec ShardView Global). HavePacked v.items (opened c.args.boxes.items) c.in_ok-after.after.items c.in_ok-after.parcels.items) c.replace-before.ensures.value c.in_ok-after.ensures.made in
    step-pass c.args.shards.now.items c.in_ok-after.after.items (opened c.args.boxes.items) packed.given c.in_ok-count.count
    (g.C.Carrier.held c.args.carrier.now) (g.C.Carrier.held c.post_all.new.carrier) (g.C.Carrier.carried c.args.carrier.now)
    (g.C.Carrier.carried c.post_all.new.carrier) (g.C.Carrier.log c.args.carrier.now) (g.C.Carrier.log c.post_all.new.carrier)
    packed.made c.requires.sorted c.requires.going (c.in_ok-count.ensures (joined packed.given) packed.packed)

pub returns-clause-settled : goal.returns-clause-settled
returns-clause-settled g c =
    let packed = subst (λ (v : Vec ShardView Global). HavePacked v.items (opened c.args.boxes.items) c.in_ok-after.after.items c.in_ok-after.parcels.items) c.replace-before.ensures.value c.in_ok-after.ensures.made in
    step-settled c.args.shards.now.items c.in_ok-after.after.items (opened c.args.boxes.items) packed.given (sent_of (g.C.Carrier.held c.args.carrier.now))
    (g.C.Carrier.carried c.args.carrier.now) (g.C.Carrier.log c.args.carrier.now) packed.made c.requires.sorted c.requires.going

pub returns-clause-addressed : goal.returns-clause-addressed
returns-clause-addressed g c =
    let packed = subst (λ (v : Vec ShardView Global). HavePacked v.items (opened c.args.boxes.items) c.in_ok-after.after.items c.in_ok-after.parcels.items) c.replace-before.ensures.value c.in_ok-after.ensures.made in
    posted-addressed (joined packed.given) c.in_ok-count.count (g.C.Carrier.held c.args.carrier.now) (g.C.Carrier.held c.post_all.new.carrier)
    (g.C.Carrier.carried c.args.carrier.now) (g.C.Carrier.carried c.post_all.new.carrier) (g.C.Carrier.log c.args.carrier.now)
    (g.C.Carrier.log c.post_all.new.carrier) (c.in_ok-count.ensures (joined packed.given) packed.packed)
    (made-due c.args.shards.now.items c.in_ok-after.after.items (opened c.args.boxes.items) packed.given packed.made) c.requires.addressed

pub returns-clause-count : goal.returns-clause-count
returns-clause-count g c =
    let packed = subst (λ (v : Vec ShardView Global). HavePacked v.items (opened c.args.boxes.items) c.in_ok-after.after.items c.in_ok-after.parcels.items) c.replace-before.ensures.value c.in_ok-after.ensures.made in
    posted-count (joined packed.given) c.in_ok-count.count (g.C.Carrier.held c.args.carrier.now) (g.C.Carrier.held c.post_all.new.carrier)
    (g.C.Carrier.carried c.args.carrier.now) (g.C.Carrier.carried c.post_all.new.carrier) (g.C.Carrier.log c.args.carrier.now)
    (g.C.Carrier.log c.post_all.new.carrier) (c.in_ok-count.ensures (joined packed.given) packed.packed)

pub returns-clause-total : goal.returns-clause-total
returns-clause-total g c =
    let packed = subst (λ (v : Vec ShardView Global). HavePacked v.items (opened c.args.boxes.items) c.in_ok-after.after.items c.in_ok-after.parcels.items) c.replace-before.ensures.value c.in_ok-after.ensures.made in
    posted-total (joined packed.given) c.in_ok-count.count (g.C.Carrier.held c.args.carrier.now) (g.C.Carrier.held c.post_all.new.carrier)
    (g.C.Carrier.carried c.args.carrier.now) (g.C.Carrier.carried c.post_all.new.carrier) (g.C.Carrier.log c.args.carrier.now)
    (g.C.Carrier.log c.post_all.new.carrier) (c.in_ok-count.ensures (joined packed.given) packed.packed)
