use Rattle.std.proofs.Common.{◌+◌, ◌++◌, ◌<◌, ◌∙◌, [], length, ap, arith, subst, sym}
use Rattle.std.specs.Prelude.{All}
use Rattle.std.proofs.lemmas.List.{length-map}
use Rattle.std.proofs.lemmas.List.Sorted.{All-permutation}
use Rattle.walker_mail.specs.declared.parcels.Posted.{Posted}
use Rattle.walker_mail.specs.Posts.{all_items}
use Rattle.walker_mail.proofs.CutLemmas.{All-front, All-back}
use Rattle.shard_core.specs.declared.items.Item.{Item}
use Rattle.shard_core.specs.Items.{item_of}
use Rattle.superstep.specs.Boxes.{joined, opened}
use Rattle.superstep.specs.Moments.{IsAddressed, IsGoing, moment, sent_of}
use Rattle.superstep.specs.Rounding.{arrived}
use Rattle.superstep.proofs.StepLemmas.{handed-pass, handed-going, handed-count, handed-long, handed-within}
use Rattle.superstep.proofs.GoingLemmas.{passes-then, passes-fewer, going-on, going-held, going-carried}
use Rattle.superstep.proofs.supersteps.next_superstep.Goals as goal

pub count_items-handed-requires : goal.count_items-handed-requires
count_items-handed-requires g c =
    let held = g.C.Carrier.held c.args.carrier.now in
    let rest = g.C.Carrier.held c.hand_over.new.self in
    let items = all_items c.in_ok-parcels.parcels.items in
    let few = going-held (moment c.args.shards.now.items [] (sent_of held) (g.C.Carrier.carried c.args.carrier.now) (g.C.Carrier.log c.args.carrier.now)) c.requires.going in
    let n = handed-long held items rest c.in_ok-parcels.ensures.rearranged in
    omega (arith, few, n, length-map held (λ (p : Posted Item). item_of p.item), ap (λ l. length (all_items l)) c.deref.ensures.value)

pub by_addressee-requires-clause-addressed : goal.by_addressee-requires-clause-addressed
by_addressee-requires-clause-addressed g c =
    let held = g.C.Carrier.held c.args.carrier.now in
    let rest = g.C.Carrier.held c.hand_over.new.self in
    let items = all_items c.in_ok-parcels.parcels.items in
    All-front IsAddressed items rest (All-permutation IsAddressed held (items ++ rest) c.in_ok-parcels.ensures.rearranged c.requires.addressed)

pub by_addressee-requires-clause-within : goal.by_addressee-requires-clause-within
by_addressee-requires-clause-within g c =
    subst (λ n. All (λ (p : Posted Item). p.to < n) (all_items c.in_ok-parcels.parcels.items)) (sym (c.len.ensures ∙ c.args.shards.now.ok.0))
    (handed-within c.args.shards.now.items (g.C.Carrier.held c.args.carrier.now) (all_items c.in_ok-parcels.parcels.items) (g.C.Carrier.held c.hand_over.new.self)
    (g.C.Carrier.carried c.args.carrier.now) (g.C.Carrier.log c.args.carrier.now) c.requires.going c.requires.addressed c.in_ok-parcels.ensures.rearranged)

pub superstep-requires-clause-addressed : goal.superstep-requires-clause-addressed
superstep-requires-clause-addressed g c κs within =
    let held = g.C.Carrier.held c.args.carrier.now in
    let rest = g.C.Carrier.held c.hand_over.new.self in
    let items = all_items c.in_ok-parcels.parcels.items in
    All-back IsAddressed items rest (All-permutation IsAddressed held (items ++ rest) c.in_ok-parcels.ensures.rearranged c.requires.addressed)

pub superstep-requires-clause-going : goal.superstep-requires-clause-going
superstep-requires-clause-going g c κs within =
    let held = g.C.Carrier.held c.args.carrier.now in
    let rest = g.C.Carrier.held c.hand_over.new.self in
    let items = all_items c.in_ok-parcels.parcels.items in
    let boxes = opened c.in_ok-boxes.boxes.items in
    handed-going c.args.shards.now.items held items rest c.len.result boxes (g.C.Carrier.carried c.args.carrier.now) (g.C.Carrier.carried c.hand_over.new.self)
    (g.C.Carrier.log c.args.carrier.now) (g.C.Carrier.log c.hand_over.new.self) c.in_ok-parcels.ensures.rearranged c.in_ok-boxes.ensures
    c.in_ok-parcels.ensures.count c.in_ok-parcels.ensures.letters c.requires.going

pub overflow_sub-result : goal.overflow_sub-result
overflow_sub-result g c =
    let held = g.C.Carrier.held c.args.carrier.now in
    let rest = g.C.Carrier.held c.hand_over.new.self in
    let items = all_items c.in_ok-parcels.parcels.items in
    omega (arith, handed-long held items rest c.in_ok-parcels.ensures.rearranged, c.count_items-handed.ensures, c.requires.afloat, ap (λ l. length (all_items l)) c.deref.ensures.value)

pub returns-clause-afloat : goal.returns-clause-afloat
returns-clause-afloat g c =
    let held = g.C.Carrier.held c.args.carrier.now in
    let rest = g.C.Carrier.held c.hand_over.new.self in
    let items = all_items c.in_ok-parcels.parcels.items in
    omega (arith, handed-long held items rest c.in_ok-parcels.ensures.rearranged, c.count_items-handed.ensures, c.requires.afloat, ap (λ l. length (all_items l)) c.deref.ensures.value, c.in_ok-posted.ensures.count)

pub returns-clause-passes : goal.returns-clause-passes
returns-clause-passes g c =
    let held = g.C.Carrier.held c.args.carrier.now in
    let rest = g.C.Carrier.held c.hand_over.new.self in
    let items = all_items c.in_ok-parcels.parcels.items in
    let boxes = opened c.in_ok-boxes.boxes.items in
    let start = moment c.args.shards.now.items [] (sent_of held) (g.C.Carrier.carried c.args.carrier.now) (g.C.Carrier.log c.args.carrier.now) in
    let middle = moment c.args.shards.now.items [] (arrived (joined boxes) ++ sent_of rest) (g.C.Carrier.carried c.hand_over.new.self) (g.C.Carrier.log c.hand_over.new.self) in
    let end = moment c.superstep.new.shards.items [] (sent_of (g.C.Carrier.held c.superstep.new.carrier)) (g.C.Carrier.carried c.superstep.new.carrier) (g.C.Carrier.log c.superstep.new.carrier) in
    let first = handed-pass c.args.shards.now.items held items rest c.len.result boxes (g.C.Carrier.carried c.args.carrier.now) (g.C.Carrier.carried c.hand_over.new.self)
    (g.C.Carrier.log c.args.carrier.now) (g.C.Carrier.log c.hand_over.new.self) c.in_ok-parcels.ensures.rearranged c.in_ok-boxes.ensures
    c.in_ok-parcels.ensures.count c.in_ok-parcels.ensures.letters in
    let n = handed-count held items rest c.len.result boxes c.in_ok-parcels.ensures.rearranged c.in_ok-boxes.ensures in
    let many = n.1 in
    let some = c.in_ok-parcels.ensures.some (omega (arith, c.requires.some, c.requires.afloat)) in
    passes-fewer (0 + length (joined boxes)) 1 start end (omega (arith, many, some))
    (passes-then 0 (length (joined boxes)) start middle end first c.in_ok-posted.ensures.passes)

pub overflow_add-result : goal.overflow_add-result
overflow_add-result g c =
    let held = g.C.Carrier.held c.args.carrier.now in
    let rest = g.C.Carrier.held c.hand_over.new.self in
    let items = all_items c.in_ok-parcels.parcels.items in
    let boxes = opened c.in_ok-boxes.boxes.items in
    let middle = moment c.args.shards.now.items [] (arrived (joined boxes) ++ sent_of rest) (g.C.Carrier.carried c.hand_over.new.self) (g.C.Carrier.log c.hand_over.new.self) in
    let end = moment c.superstep.new.shards.items [] (sent_of (g.C.Carrier.held c.superstep.new.carrier)) (g.C.Carrier.carried c.superstep.new.carrier) (g.C.Carrier.log c.superstep.new.carrier) in
    let going : IsGoing middle =
    handed-going c.args.shards.now.items held items rest c.len.result boxes (g.C.Carrier.carried c.args.carrier.now) (g.C.Carrier.carried c.hand_over.new.self)
    (g.C.Carrier.log c.args.carrier.now) (g.C.Carrier.log c.hand_over.new.self) c.in_ok-parcels.ensures.rearranged c.in_ok-boxes.ensures
    c.in_ok-parcels.ensures.count c.in_ok-parcels.ensures.letters c.requires.going in
    let few = going-held end (going-on (length (joined boxes)) middle end going c.in_ok-posted.ensures.passes) in
    omega (
      arith,
      few,
      handed-long held items rest c.in_ok-parcels.ensures.rearranged,
      c.count_items-handed.ensures,
      c.requires.afloat,
      ap (λ l. length (all_items l)) c.deref.ensures.value,
      c.in_ok-posted.ensures.count,
      length-map (g.C.Carrier.held c.superstep.new.carrier) (λ (p : Posted Item). item_of p.item),
    )

pub overflow_add-total : goal.overflow_add-total
overflow_add-total g c =
    let held = g.C.Carrier.held c.args.carrier.now in
    let rest = g.C.Carrier.held c.hand_over.new.self in
    let items = all_items c.in_ok-parcels.parcels.items in
    let boxes = opened c.in_ok-boxes.boxes.items in
    let middle = moment c.args.shards.now.items [] (arrived (joined boxes) ++ sent_of rest) (g.C.Carrier.carried c.hand_over.new.self) (g.C.Carrier.log c.hand_over.new.self) in
    let end = moment c.superstep.new.shards.items [] (sent_of (g.C.Carrier.held c.superstep.new.carrier)) (g.C.Carrier.carried c.superstep.new.carrier) (g.C.Carrier.log c.superstep.new.carrier) in
    let going : IsGoing middle =
    handed-going c.args.shards.now.items held items rest c.len.result boxes (g.C.Carrier.carried c.args.carrier.now) (g.C.Carrier.carried c.hand_over.new.self)
    (g.C.Carrier.log c.args.carrier.now) (g.C.Carrier.log c.hand_over.new.self) c.in_ok-parcels.ensures.rearranged c.in_ok-boxes.ensures
    c.in_ok-parcels.ensures.count c.in_ok-parcels.ensures.letters c.requires.going in
    let few = going-carried end (going-on (length (joined boxes)) middle end going c.in_ok-posted.ensures.passes) in
    omega (arith, few, c.requires.total, c.in_ok-parcels.ensures.count, c.in_ok-posted.ensures.total)

pub returns-clause-total : goal.returns-clause-total
returns-clause-total g c = omega (arith, c.in_ok-parcels.ensures.count, c.in_ok-posted.ensures.total)
