use Rattle.std.proofs.Common.{◌≡◌, ◌++◌, ◌∷◌, [], List, length, ap, ◌∙◌, arith}
use Rattle.std.specs.Prelude.{sum_by}
use Rattle.std.proofs.lemmas.List.{length-append}
use Rattle.traveller.specs.Walkers.{Walker}
use Rattle.traveller.specs.declared.runs.Run.{Run}
use Rattle.vertex_partition.specs.PartViews.{PartView}
use Rattle.shard_core.specs.Abreast.{IsOnWay, heft}
use Rattle.shard_core.proofs.AbreastLemmas.{all-more, hefts-more}
use Rattle.shard_core.proofs.abreast.first_lanes.Goals as goal

pub loop-number-init : goal.loop-number-init
loop-number-init c =
    let run : Run = c.args.here.now.run in
    let part : PartView = c.args.here.now.part in
    let none : length c.in_ok-lanes.lanes.items ≡ 0 = ap (λ (ws : List Walker). length ws) c.in_ok-lanes.ensures.items in
    record {
      on_way = λ k d low. absurd (omega (arith, low, none));
      since = omega arith;
      count = omega (arith, none);
      room = omega arith;
      hefts = λ h graph of.
          let empty = ap (λ (ws : List Walker). sum_by (heft h graph run part) ws) c.in_ok-lanes.ensures.items in
          omega (arith, empty);
    }

pub loop-number-preserved : goal.loop-number-preserved
loop-number-preserved c =
    let run : Run = c.args.here.now.run in
    let part : PartView = c.args.here.now.part in
    let inv = c.loop-number.invariant in
    let w : Walker = c.begin_next-traveller.result in
    let items : c.push.new.self.items ≡ c.loop-number.lanes.items ++ w ∷ [] =
    c.in_ok-push.ensures.items ∙ ap (λ (v : Walker). c.loop-number.lanes.items ++ v ∷ []) c.of.ensures in
    let longer = length-append c.loop-number.lanes.items (w ∷ []) in
    rw items (record {
      on_way = all-more (IsOnWay run part) c.loop-number.lanes.items w inv.on_way c.begin_next-traveller.ensures.on_way;
      since = omega (arith, inv.since);
      count = omega (arith, longer, inv.count);
      room = omega (arith, inv.room, c.begin_next-traveller.ensures.room);
      hefts = λ h graph of.
          hefts-more h graph run part c.loop-number.lanes.items w c.loop-number.prints.prints c.begin_next-traveller.new.prints.prints c.args.prints.now.prints
          _ c.loop-number.number (inv.hefts h graph of) (c.begin_next-traveller.ensures.hefts h graph of);
    })
