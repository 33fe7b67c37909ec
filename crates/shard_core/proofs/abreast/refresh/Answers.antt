use Rattle.std.proofs.Common.{◌≡◌, ◌<◌, ℕ, true, List, length, get_or, ap, sym, subst, ◌∙◌, arith}
use Rattle.std.proofs.lemmas.List.{get_or_default}
use Rattle.std.proofs.lemmas.List.Edits.{length-remove}
use Rattle.vertex_partition.specs.PartViews.{PartView}
use Rattle.traveller.specs.declared.runs.Run.{Run}
use Rattle.traveller.specs.Walkers.{Walker, is_over}
use Rattle.shard_core.specs.Abreast.{IsOnWay, IsBetween}
use Rattle.shard_core.proofs.AbreastLemmas.{still-way, done-more, done-removed, all-removed, hefts-removed, lefts-removed}
use Rattle.shard_core.proofs.abreast.refresh.Goals as goal

pub refreshing-preserved-then-not-has_ended : goal.refreshing-preserved-then-not-has_ended
refreshing-preserved-then-not-has_ended c =
    let run : Run = c.args.here.now.run in
    let part : PartView = c.args.here.now.part in
    let inv = c.refreshing.invariant in
    let ws : List Walker = c.refreshing.lanes.items in
    let k : ℕ = c.refreshing.k in
    let w : Walker = c.index.result.now in
    let long = c.refreshing.lanes.ok.0 in
    let low : k < length ws = omega (arith, c.refreshing-test.true, c.len.ensures, long) in
    let at : w ≡ get_or ws k w = c.index.ensures in
    let way : IsOnWay run part w =
    still-way run part w (subst (IsBetween run part) (sym at) (inv.between k w low)) (sym c.has_ended.ensures ∙ c.if-not-has_ended.true) in
    let here : (d : Walker) → IsOnWay run part (get_or ws k d) = λ d. subst (IsOnWay run part) (at ∙ get_or_default ws k w d low) way in
    record {
      within = omega (arith, low);
      done = done-more (IsOnWay run part) ws k inv.done here;
      between = inv.between;
      few = inv.few;
      room = omega (arith, inv.room);
      next = inv.next;
      later = inv.later;
      full = inv.full;
      hefts = inv.hefts;
      left = inv.left;
    }

pub refreshing-preserved : goal.refreshing-preserved
refreshing-preserved c =
    let run : Run = c.args.here.now.run in
    let part : PartView = c.args.here.now.part in
    let inv = c.refreshing.invariant in
    let ws : List Walker = c.refreshing.lanes.items in
    let k : ℕ = c.refreshing.k in
    let w : Walker = c.index.result.now in
    let long = c.refreshing.lanes.ok.0 in
    let low : k < length ws = omega (arith, c.refreshing-test.true, c.len.ensures, long) in
    let at : w ≡ get_or ws k w = c.index.ensures in
    let over : is_over (get_or ws k w).mode ≡ true =
    ap (λ (v : Walker). is_over v.mode) (sym at) ∙ sym c.has_ended.ensures ∙ c.if-not-has_ended.false in
    let less = length-remove ws k low in
    rw c.remove-ended.ensures.items (record {
      within = omega (arith, low, less);
      done = done-removed (IsOnWay run part) ws k low inv.done;
      between = all-removed (IsBetween run part) ws k low inv.between;
      few = omega (arith, inv.few, less);
      room = omega (arith, inv.room, less);
      next = inv.next;
      later = inv.later;
      full = λ more. absurd (omega (arith, more, c.if-next-end.false));
      hefts = λ h graph of. hefts-removed h graph run part ws k w _ _ _ low over (inv.hefts h graph of);
      left = lefts-removed ws k w _ _ low over inv.left;
    })
