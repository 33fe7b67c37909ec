use Rattle.std.proofs.Common.{◌≡◌, List, length, ap, sym, subst, ◌∙◌, arith}
use Rattle.std.specs.Prelude.{All, sum_by}
use Rattle.std.specs.Vec.{with_items}
use Rattle.std.proofs.lemmas.List.{with_items_is}
use Rattle.std.proofs.lemmas.List.Sums.{sum_by-append}
use Rattle.walk_model.specs.declared.results.Print.{Print}
use Rattle.vertex_partition.specs.PartViews.{PartView}
use Rattle.traveller.specs.declared.runs.Run.{Run}
use Rattle.traveller.specs.Walkers.{Walker}
use Rattle.shard_core.specs.Abreast.{IsBetween, Turns, EachBecomes, heft, turn_prints, turns_left}
use Rattle.shard_core.proofs.AbreastLemmas.{hefts-turned, lefts-turned, between-turned}
use Rattle.shard_core.proofs.abreast.turn_all.Goals as goal

pub returns-clause-between : goal.returns-clause-between
returns-clause-between g c =
    let run : Run = c.args.here.now.run in
    let part : PartView = c.args.here.now.part in
    let xs : List Walker = c.args.lanes.now.items in
    let ys : List Walker = c.turn_each.new.lanes in
    let turned : EachBecomes (Turns run part) xs ys = rw c.deref_mut.ensures.value at c.turn_each.ensures.turned in
    let items : (with_items c.args.lanes.now ys).items ≡ ys = with_items_is c.args.lanes.now ys (turned.0 ∙ sym c.args.lanes.now.ok.0) in
    subst (All (IsBetween run part)) (sym items) (between-turned run part xs ys c.requires.all c.requires.on_way turned)

pub returns-clause-long : goal.returns-clause-long
returns-clause-long g c =
    let xs : List Walker = c.args.lanes.now.items in
    let ys : List Walker = c.turn_each.new.lanes in
    let turned : EachBecomes (Turns c.args.here.now.run c.args.here.now.part) xs ys = rw c.deref_mut.ensures.value at c.turn_each.ensures.turned in
    let items : (with_items c.args.lanes.now ys).items ≡ ys = with_items_is c.args.lanes.now ys (turned.0 ∙ sym c.args.lanes.now.ok.0) in
    ap (λ (ws : List Walker). length ws) items ∙ turned.0

pub returns-clause-hefts : goal.returns-clause-hefts
returns-clause-hefts g c = λ h graph of.
    let run : Run = c.args.here.now.run in
    let part : PartView = c.args.here.now.part in
    let xs : List Walker = c.args.lanes.now.items in
    let ys : List Walker = c.turn_each.new.lanes in
    let turned : EachBecomes (Turns run part) xs ys = rw c.deref_mut.ensures.value at c.turn_each.ensures.turned in
    let items : (with_items c.args.lanes.now ys).items ≡ ys = with_items_is c.args.lanes.now ys (turned.0 ∙ sym c.args.lanes.now.ok.0) in
    let same = ap (λ (ws : List Walker). sum_by (heft h graph run part) ws) items in
    let left = hefts-turned h graph run part xs ys of c.requires.all c.requires.on_way turned in
    let added = ap (λ (ps : List Print). sum_by h ps) c.turn_each.ensures.prints ∙ sum_by-append h c.args.prints.now.prints (turn_prints ys) in
    omega (arith, same, left, added)

pub returns-clause-left : goal.returns-clause-left
returns-clause-left g c =
    let run : Run = c.args.here.now.run in
    let part : PartView = c.args.here.now.part in
    let xs : List Walker = c.args.lanes.now.items in
    let ys : List Walker = c.turn_each.new.lanes in
    let turned : EachBecomes (Turns run part) xs ys = rw c.deref_mut.ensures.value at c.turn_each.ensures.turned in
    let items : (with_items c.args.lanes.now ys).items ≡ ys = with_items_is c.args.lanes.now ys (turned.0 ∙ sym c.args.lanes.now.ok.0) in
    let same = ap (λ (ws : List Walker). sum_by turns_left ws) items in
    let fewer = lefts-turned run part xs ys c.requires.all c.requires.on_way turned in
    omega (arith, same, fewer)
