use Rattle.std.proofs.Common.{◌≡◌, List, length, ap, sym, subst, ◌∙◌, arith}
use Rattle.std.specs.Prelude.{All, sum_by}
use Rattle.std.specs.Vec.{with_items}
use Rattle.std.proofs.lemmas.List.{with_items_is}
use Rattle.vertex_partition.specs.PartViews.{PartView}
use Rattle.traveller.specs.declared.runs.Run.{Run}
use Rattle.traveller.specs.Walkers.{Walker}
use Rattle.shard_core.specs.Abreast.{Turns, EachBecomes}
use Rattle.shard_core.specs.Leaving.{HasTurned, turns_ahead}
use Rattle.shard_core.specs.Offers.{BecomesIn}
use Rattle.shard_core.proofs.PassLemmas.{all-turned, all-fewer, pass-becomes}
use Rattle.shard_core.proofs.turning.turn_pass.Goals as goal

pub returns-clause-turned : goal.returns-clause-turned
returns-clause-turned g c =
    let run : Run = c.args.here.now.run in
    let part : PartView = c.args.here.now.part in
    let xs : List Walker = c.args.lanes.now.items in
    let ys : List Walker = c.turn_each.new.lanes in
    let turned : EachBecomes (Turns run part) xs ys = rw c.deref_mut.ensures.value at c.turn_each.ensures.turned in
    let items : (with_items c.args.lanes.now ys).items ≡ ys = with_items_is c.args.lanes.now ys (turned.0 ∙ sym c.args.lanes.now.ok.0) in
    subst (All (HasTurned run part)) (sym items) (all-turned run part xs ys c.requires.ready turned)

pub returns-clause-fewer : goal.returns-clause-fewer
returns-clause-fewer g c =
    let run : Run = c.args.here.now.run in
    let part : PartView = c.args.here.now.part in
    let xs : List Walker = c.args.lanes.now.items in
    let ys : List Walker = c.turn_each.new.lanes in
    let turned : EachBecomes (Turns run part) xs ys = rw c.deref_mut.ensures.value at c.turn_each.ensures.turned in
    let items : (with_items c.args.lanes.now ys).items ≡ ys = with_items_is c.args.lanes.now ys (turned.0 ∙ sym c.args.lanes.now.ok.0) in
    let same = ap (λ (ws : List Walker). sum_by turns_ahead ws) items in
    let fewer = all-fewer run part xs ys c.requires.ready turned in
    omega (arith, same, fewer)

pub returns-clause-becomes : goal.returns-clause-becomes
returns-clause-becomes g c = λ graph of.
    let run : Run = c.args.here.now.run in
    let part : PartView = c.args.here.now.part in
    let xs : List Walker = c.args.lanes.now.items in
    let ys : List Walker = c.turn_each.new.lanes in
    let turned : EachBecomes (Turns run part) xs ys = rw c.deref_mut.ensures.value at c.turn_each.ensures.turned in
    let items : (with_items c.args.lanes.now ys).items ≡ ys = with_items_is c.args.lanes.now ys (turned.0 ∙ sym c.args.lanes.now.ok.0) in
    rw items (pass-becomes graph run part xs ys c.args.prints.now.prints c.turn_each.new.prints.prints of c.requires.ready turned c.turn_each.ensures.prints)
