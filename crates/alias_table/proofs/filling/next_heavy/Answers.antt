use Rattle.std.proofs.Common.{◌≡◌, ◌≤◌, ◌<◌, ◌*◌, get_or, length, sum, arith, inl, inr}
use Rattle.std.proofs.lemmas.Bool.{cases_lt}
use Rattle.alias_table.proofs.SumLemmas.{spare_at}
use Rattle.alias_table.proofs.WidthLemmas.{exceeds-not}
use Rattle.alias_table.proofs.filling.next_heavy.Goals as goal

pub loop-at-preserved : goal.loop-at-preserved
loop-at-preserved g c =
    let ws = c.args.weights.now in
    let small : length ws * get_or ws c.loop-at.at 0 ≤ sum ws =
    rw (c.times.ensures, c.requires.row.count_is, c.requires.row.whole_is) at (exceeds-not _ _ _ c.exceeds.ensures c.if-exceeds.false) in
    record {
      onward = omega arith;
      within = omega arith;
      passed = λ k from below. elim (cases_lt k c.loop-at.at) [
        | inl before ↦ c.loop-at.invariant.passed k from before
        | inr after ↦ let same : k ≡ c.loop-at.at = omega arith in rw same (omega (arith, spare_at ws c.loop-at.at (omega arith), small))
      ];
    }

pub returns-then-exceeds-clause-heavy : goal.returns-then-exceeds-clause-heavy
returns-then-exceeds-clause-heavy g c =
    let ws = c.args.weights.now in
    let great : sum ws < length ws * get_or ws c.loop-at.at 0 =
    rw (c.times.ensures, c.requires.row.count_is, c.requires.row.whole_is) at (c.exceeds.ensures.0 c.if-exceeds.true) in
    λ inside. omega (arith, spare_at ws c.loop-at.at inside, great)
