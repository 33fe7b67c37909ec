use Rattle.std.proofs.Common.{◌<◌, ℕ, length, ◌∙◌, arith}
use Rattle.std.specs.Prelude.{◌==◌}
use Rattle.walk_model.specs.Cuts.{owner}
use Rattle.walk_top.proofs.CountLemmas.{changes-done, changes-more, counted-other}
use Rattle.walk_top.proofs.LetterCounts.{changes_from-le}
use Rattle.walk_top.proofs.reporting.changes_from.Goals as goal

pub overflow_add-count : goal.overflow_add-count
overflow_add-count c =
    let o : ℕ → ℕ = owner c.args.cuts.now.cuts in
    let low : c.loop-v.v-index < length c.args.entries.now = omega (arith, c.loop-v-test.true) in
    let more = changes-more o c.loop-v.before c.owner-here.result c.args.entries.now c.loop-v.v-index 0 low c.owner-here.ensures.owner in
    let one = c.from-count.ensures ∙ counted-other (c.loop-v.before == c.owner-here.result) in
    let few = changes_from-le o c.args.first c.args.entries.now in
    let inv = c.loop-v.invariant in
    omega (arith, more, one, few, inv)

pub loop-v-preserved : goal.loop-v-preserved
loop-v-preserved c =
    let o : ℕ → ℕ = owner c.args.cuts.now.cuts in
    let low : c.loop-v.v-index < length c.args.entries.now = omega (arith, c.loop-v-test.true) in
    let more = changes-more o c.loop-v.before c.owner-here.result c.args.entries.now c.loop-v.v-index 0 low c.owner-here.ensures.owner in
    let one = c.from-count.ensures ∙ counted-other (c.loop-v.before == c.owner-here.result) in
    let inv = c.loop-v.invariant in
    omega (arith, more, one, inv)

pub returns : goal.returns
returns c =
    let done = changes-done (owner c.args.cuts.now.cuts) c.loop-v.before c.args.entries.now c.loop-v.v-index (omega (arith, c.loop-v-test.false)) in
    let inv = c.loop-v.invariant in
    omega (arith, done, inv)
