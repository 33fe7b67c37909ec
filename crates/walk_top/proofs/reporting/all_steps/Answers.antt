use Rattle.std.proofs.Common.{◌<◌, ◌+◌, ◌-◌, ℕ, List, length, ap, arith}
use Rattle.std.proofs.lemmas.Option.{get_or_from_slice_get}
use Rattle.walk_top.proofs.ServeLemmas.{sum-front, sum-more}
use Rattle.walk_top.proofs.reporting.all_steps.Goals as goal

pub overflow_add-count : goal.overflow_add-count
overflow_add-count c =
    let f : List ℕ → ℕ = (λ (walk : List ℕ). length walk - 1) in
    let walk : List ℕ = c.walk.result.now in
    let low : c.loop-i.i < length c.args.walks.now = omega (arith, c.loop-i-test.true, c.count-i-end.ensures) in
    let more = sum-more f c.args.walks.now c.loop-i.i walk low in
    let here = ap f (get_or_from_slice_get c.args.walks.now c.loop-i.i walk walk c.walk.ensures) in
    let all = sum-front f c.args.walks.now (c.loop-i.i + 1) in
    let inv = c.loop-i.invariant in
    let one = c.saturating_sub-count.ensures in
    let few = c.requires in
    omega (arith, more, here, all, inv, one, few)

pub loop-i-preserved : goal.loop-i-preserved
loop-i-preserved c =
    let f : List ℕ → ℕ = (λ (walk : List ℕ). length walk - 1) in
    let walk : List ℕ = c.walk.result.now in
    let low : c.loop-i.i < length c.args.walks.now = omega (arith, c.loop-i-test.true, c.count-i-end.ensures) in
    let more = sum-more f c.args.walks.now c.loop-i.i walk low in
    let here = ap f (get_or_from_slice_get c.args.walks.now c.loop-i.i walk walk c.walk.ensures) in
    let inv = c.loop-i.invariant in
    let one = c.saturating_sub-count.ensures in
    omega (arith, more, here, inv, one)
