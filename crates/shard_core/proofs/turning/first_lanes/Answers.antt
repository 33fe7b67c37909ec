use Rattle.std.proofs.Common.{◌≡◌, ◌++◌, ◌∷◌, [], ◌≤◌, ◌<◌, List, length, ap, sym, subst, ◌∙◌, arith}
use Rattle.std.specs.Prelude.{All}
use Rattle.std.proofs.lemmas.List.{length_push}
use Rattle.std.proofs.lemmas.List.Elements.{All-push, All-pop}
use Rattle.std.proofs.lemmas.List.Sums.{sum_by_push}
use Rattle.traveller.specs.Walkers.{Walker}
use Rattle.vertex_partition.specs.PartViews.{PartView}
use Rattle.traveller.specs.declared.runs.Run.{Run}
use Rattle.world_law.specs.Worlds.{Resident}
use Rattle.shard_core.specs.Abreast.{IsReadyIn}
use Rattle.shard_core.specs.Leaving.{resident_weight}
use Rattle.shard_core.proofs.SettleLemmas.{popped-all, popped-one}
use Rattle.shard_core.proofs.turning.first_lanes.Goals as goal

pub filling-preserved : goal.filling-preserved
filling-preserved c =
    let run : Run = c.args.here.now.run in
    let part : PartView = c.args.here.now.part in
    let inv = c.filling.invariant in
    let ws : List Walker = c.filling.lanes.items in
    let rest : List Walker = c.pop.new.self.items in
    let v : Walker = c.in-Some.traveller in
    let popped : c.filling.ready.items ≡ rest ++ v ∷ [] = c.in-Some.ensures.items in
    let pushed : c.push.new.self.items ≡ ws ++ v ∷ [] = c.in_ok-push-in-Some.ensures.items ∙ ap (λ (w : Walker). ws ++ w ∷ []) c.of.ensures in
    let long : length ws ≡ c.len.result = sym c.filling.lanes.ok.0 ∙ sym c.len.ensures in
    let more = length_push ws v in
    let longer = ap (λ (xs : List Walker). length xs) pushed in
    record {
      lanes = subst (All (IsReadyIn run part)) (sym pushed) (All-push (IsReadyIn run part) ws v inv.lanes (popped-one run part c.filling.ready.items rest v popped inv.rest));
      rest = popped-all run part c.filling.ready.items rest v popped inv.rest;
      few = omega (arith, c.filling-test.true, long, more, longer);
      same = λ h. omega (
        arith,
        inv.same h,
        ap (resident_weight h part) pushed,
        ap (resident_weight h part) popped,
        sum_by_push (λ w. h (Resident part.part w)) ws v,
        sum_by_push (λ w. h (Resident part.part w)) rest v,
      );
    }
