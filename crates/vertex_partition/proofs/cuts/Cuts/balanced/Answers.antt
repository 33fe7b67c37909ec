use Rattle.std.proofs.Common.{◌≡◌, ◌+◌, ◌-◌, ◌*◌, ◌≤◌, ℕ, List, [], ◌∷◌, ◌++◌, map, ap, sym, ◌∙◌, arith}
use Rattle.walk_model.specs.Cuts.{up_to, cut, cuts_of}
use Rattle.vertex_partition.specs.Fronts.{IsFront}
use Rattle.vertex_partition.proofs.CutLemmas.{cuts-none, cuts-more, cuts-all, cut-is, cuts-kept, parts-like, front-first}
use Rattle.vertex_partition.proofs.cuts.Cuts.balanced.Goals as goal

pub loop-k-init : goal.loop-k-init
loop-k-init c = record {
  some = omega arith;
  cuts = c.in_ok-cuts.ensures.items ∙ sym (cuts-none c.args.costs.now c.args.parts);
  front = front-first c.args.costs.now c.args.parts (0 * c.total-all.result);
}

pub loop-k-preserved : goal.loop-k-preserved
loop-k-preserved c =
    let costs : List ℕ = c.args.costs.now in
    let k : ℕ = c.loop-k.k in
    let some : 1 ≤ k = c.loop-k.invariant.some in
    let back : k + 1 - 1 ≡ k = omega arith in
    let reached : c.reach-front.result.count ≡ cut costs c.args.parts k =
    rw (c.from.ensures, c.from-in-loop-k.ensures, c.total-all.ensures) at c.reach-front.ensures.reaches ∙ cut-is costs c.args.parts k in
    let front : IsFront costs c.args.parts (k * c.total-all.result) c.reach-front.result =
    rw (c.from.ensures, c.from-in-loop-k.ensures) at c.reach-front.ensures.front in
    record {
      some = omega (arith, some);
      cuts = rw back
          (c.in_ok-push.ensures.items ∙ ap (λ (l : List ℕ). l ++ c.reach-front.result.count ∷ []) c.loop-k.invariant.cuts
          ∙ ap (λ n. map (cut costs c.args.parts) (up_to (k - 1)) ++ n ∷ []) reached
          ∙ sym (cuts-more costs c.args.parts k some));
      front = rw back front;
    }

pub invariant_of-result : goal.invariant_of-result
invariant_of-result c =
    let low = c.loop-k.auto.k-end in
    let high = c.loop-k-test.false in
    let some = c.requires.some in
    let all : c.loop-k.k ≡ c.args.parts = omega (arith, low, high, some) in
    let are : c.loop-k.cuts.items ≡ cuts_of c.args.costs.now c.args.parts = c.loop-k.invariant.cuts ∙ cuts-all c.args.costs.now c.args.parts c.loop-k.k all in
    rw are (cuts-kept c.args.costs.now c.args.parts c.requires.some c.requires.few)

pub returns-clause-cuts : goal.returns-clause-cuts
returns-clause-cuts c =
    let low = c.loop-k.auto.k-end in
    let high = c.loop-k-test.false in
    let some = c.requires.some in
    let all : c.loop-k.k ≡ c.args.parts = omega (arith, low, high, some) in
    c.loop-k.invariant.cuts ∙ cuts-all c.args.costs.now c.args.parts c.loop-k.k all

pub returns-clause-balance : goal.returns-clause-balance
returns-clause-balance c =
    let low = c.loop-k.auto.k-end in
    let high = c.loop-k-test.false in
    let some = c.requires.some in
    let all : c.loop-k.k ≡ c.args.parts = omega (arith, low, high, some) in
    let are : c.loop-k.cuts.items ≡ cuts_of c.args.costs.now c.args.parts = c.loop-k.invariant.cuts ∙ cuts-all c.args.costs.now c.args.parts c.loop-k.k all in
    rw are (parts-like c.args.costs.now c.args.parts c.requires.some c.requires.few)
