use Rattle.std.proofs.Common.{◌≡◌, ◌<◌, ◌+◌, ◌++◌, ◌∷◌, ◌&&◌, ◌==◌, [], ℕ, true, false, List, length, get_or, set, ap, sym, subst, ◌∙◌, arith, append-nil}
use Rattle.std.specs.List.{remove}
use Rattle.std.proofs.lemmas.Grind.{common_steps}
use Rattle.std.proofs.lemmas.List.{get_or_default, nil_from_length}
use Rattle.walk_model.specs.Cuts.{owner}
use Rattle.vertex_partition.specs.PartViews.{PartView}
use Rattle.traveller.specs.declared.runs.Run.{Run}
use Rattle.traveller.specs.Walkers.{Walker, is_fresh}
use Rattle.shard_core.proofs.SettleLemmas.{IsSettling, stays-settled, one-changes, one-leaves, popped-all, popped-one}
use Rattle.shard_core.proofs.turning.settle.Goals as goal

pub settling-preserved-then-stays : goal.settling-preserved-then-stays
settling-preserved-then-stays c =
    let run : Run = c.args.here.now.run in
    let part : PartView = c.args.here.now.part in
    let inv = c.settling.invariant in
    let ws : List Walker = c.settling.lanes.items in
    let k : ℕ = c.settling.k in
    let w : Walker = c.index.result.now in
    let long = c.settling.lanes.ok.0 in
    let low : k < length ws = omega (arith, c.settling-test.true, c.len.ensures, long) in
    let at : w ≡ get_or ws k w = c.index.ensures in
    stays-settled run part c.args.lanes.now.items c.args.ready.now.items c.args.left.now k ws c.settling.ready.items c.settling.left w low at
    (sym c.stays.ensures ∙ c.if-stays.true) inv

pub settling-preserved-in-Some : goal.settling-preserved-in-Some
settling-preserved-in-Some c =
    let run : Run = c.args.here.now.run in
    let part : PartView = c.args.here.now.part in
    let inv = c.settling.invariant in
    let ws : List Walker = c.settling.lanes.items in
    let ready : List Walker = c.settling.ready.items in
    let rest : List Walker = c.pop.new.self.items in
    let k : ℕ = c.settling.k in
    let v : Walker = c.change-gone.result in
    let w : Walker = c.in-Some.next in
    let long = c.settling.lanes.ok.0 in
    let low : k < length ws = omega (arith, c.settling-test.true, c.len.ensures, long) in
    let popped : ready ≡ rest ++ w ∷ [] = c.in-Some.ensures.items in
    let at : v ≡ get_or ws k v = c.change-gone.ensures.before ∙ c.index_mut.ensures.value ∙ get_or_default ws k c.index_mut.result.now v low in
    subst (λ x. IsSettling run part c.args.lanes.now.items c.args.ready.now.items c.args.left.now (k + 1) (set ws k x) rest c.take.new.self) (sym c.change-gone.ensures.next)
    (one-changes run part c.args.lanes.now.items c.args.ready.now.items c.args.left.now k ws ready rest c.settling.left c.take.new.self v w low at popped
    (popped-one run part ready rest w popped inv.can) (popped-all run part ready rest w popped inv.can) c.in_ok-take-in-Some.ensures.left c.in_ok-take-in-Some.ensures.same inv)

pub settling-preserved : goal.settling-preserved
settling-preserved c =
    let run : Run = c.args.here.now.run in
    let part : PartView = c.args.here.now.part in
    let inv = c.settling.invariant in
    let ws : List Walker = c.settling.lanes.items in
    let ready : List Walker = c.settling.ready.items in
    let rest : List Walker = c.pop.new.self.items in
    let k : ℕ = c.settling.k in
    let v : Walker = c.into_traveller.result in
    let long = c.settling.lanes.ok.0 in
    let low : k < length ws = omega (arith, c.settling-test.true, c.len.ensures, long) in
    let at : v ≡ get_or ws k v = c.into_traveller.ensures ∙ c.remove-gone.ensures.value ∙ get_or_default ws k c.remove-gone.result v low in
    let same : ready ≡ rest = c.in-None.ensures.items ∙ append-nil rest in
    let empty : length ready ≡ 0 = grind (arith, common_steps) in
    let none : ready ≡ [] = nil_from_length ready empty in
    subst (λ xs. IsSettling run part c.args.lanes.now.items c.args.ready.now.items c.args.left.now k xs rest c.take-in-None.new.self) (sym c.remove-gone.ensures.items)
    (one-leaves run part c.args.lanes.now.items c.args.ready.now.items c.args.left.now k ws ready rest c.settling.left c.take-in-None.new.self v low at (sym same ∙ none)
    c.in_ok-take-in-None.ensures.left c.in_ok-take-in-None.ensures.same none inv)
