use Rattle.std.proofs.Common.{◌≡◌, ◌<◌, ◌≤◌, ◌+◌, ◌-◌, ◌*◌, get_or, length, sum, take, suc, refl, arith, add-one}
use Rattle.walk_model.specs.Alias.{lacks, spares}
use Rattle.alias_table.specs.Filled.{own_part, other_item}
use Rattle.alias_table.proofs.SumLemmas.{lack_at, length-lacks, length-spares, front-more, front-le, front-all, sum-lacks}
use Rattle.alias_table.proofs.WidthLemmas.{exceeds-not}
use Rattle.alias_table.proofs.FillLemmas.{filled-light, filled-pass, reached-here}
use Rattle.alias_table.proofs.filling.serve.Goals as goal
use Rattle.alias_table.proofs.filling.serve.Goals.{then-exceeds+else-not-exceeds, else-exceeds}

pub returns-then-not-exceeds-clause-place : goal.returns-then-not-exceeds-clause-place
returns-then-not-exceeds-clause-place g c =
    let ws = c.args.weights.now in
    let lack = lack_at ws c.loop-light.light c.loop-light-test.true in
    let more = front-more (lacks ws) c.loop-light.light (omega (arith, length-lacks ws)) in
    let gap : g.N.Width.value c.minus-lack.result ≡ sum ws - length ws * get_or ws c.loop-light.light 0 =
    rw (c.times-filled.ensures, c.requires.row.count_is, c.requires.row.whole_is) at c.minus-lack.ensures in
    let used = exceeds-not _ _ _ c.exceeds-then-exceeds.ensures c.if-not-exceeds.true in
    reached-here ws (sum (take (suc c.args.heavy) (spares ws))) c.loop-light.light (c.loop-light.light + 1) (omega arith)
    c.loop-light-test.true (omega (arith, c.loop-light.invariant.balance, c.loop-light.invariant.left))
    (omega (arith, c.loop-light.invariant.balance, more, lack, gap, used))

pub returns-then-not-exceeds-clause-balance : goal.returns-then-not-exceeds-clause-balance
returns-then-not-exceeds-clause-balance g c =
    let ws = c.args.weights.now in
    let lack = lack_at ws c.loop-light.light c.loop-light-test.true in
    let more = front-more (lacks ws) c.loop-light.light (omega (arith, length-lacks ws)) in
    let gap : g.N.Width.value c.minus-lack.result ≡ sum ws - length ws * get_or ws c.loop-light.light 0 =
    rw (c.times-filled.ensures, c.requires.row.count_is, c.requires.row.whole_is) at c.minus-lack.ensures in
    let used = exceeds-not _ _ _ c.exceeds-then-exceeds.ensures c.if-not-exceeds.true in
    rw add-one (omega (arith, c.loop-light.invariant.balance, more, lack, gap, used, c.minus.ensures))

pub returns-then-not-exceeds-clause-filled : goal.returns-then-not-exceeds-clause-filled
returns-then-not-exceeds-clause-filled g c =
    let ws = c.args.weights.now in
    let small : length ws * get_or ws c.loop-light.light 0 < sum ws =
    rw (c.times-filled.ensures, c.requires.row.count_is, c.requires.row.whole_is) at (c.exceeds.ensures.0 c.if-exceeds.true) in
    filled-light (own_part g.N.Width.value) other_item ws c.loop-light.light c.args.heavy (c.loop-light.light + 1) _ _ (omega arith)
    c.loop-light.invariant.filled c.loop-light-test.true c.requires.within small c.loop-light.invariant.behind
    (omega (arith, c.loop-light.invariant.balance, c.loop-light.invariant.left))
    (rw c.requires.row.count_is at c.times-filled.ensures) refl

pub loop-light-preserved : goal.loop-light-preserved
loop-light-preserved g c =
    let ws = c.args.weights.now in
    let lack = lack_at ws c.loop-light.light c.loop-light-test.true in
    let more = front-more (lacks ws) c.loop-light.light (omega (arith, length-lacks ws)) in
    elim c.if-exceeds.branch [
      | then-exceeds+else-not-exceeds w ↦
          let small : length ws * get_or ws c.loop-light.light 0 < sum ws =
          rw (c.times-filled.ensures, c.requires.row.count_is, c.requires.row.whole_is) at (c.exceeds.ensures.0 w.if-exceeds.true) in
          let gap : g.N.Width.value w.minus-lack.result ≡ sum ws - length ws * get_or ws c.loop-light.light 0 =
          rw (c.times-filled.ensures, c.requires.row.count_is, c.requires.row.whole_is) at w.minus-lack.ensures in
          let rest = w.exceeds-then-exceeds.ensures.0 w.if-not-exceeds.false in
          rw (w.columns-is, w.left-is)
          (record {
            within = omega (arith, c.loop-light-test.true);
            left = omega (arith, w.minus-left.ensures, rest);
            balance = rw add-one (omega (arith, c.loop-light.invariant.balance, more, lack, gap, rest, w.minus-left.ensures));
            behind = rw add-one (omega (arith, c.loop-light.invariant.behind, more));
            filled = filled-light (own_part g.N.Width.value) other_item ws c.loop-light.light c.args.heavy (c.loop-light.light + 1) _ _ (omega arith)
                c.loop-light.invariant.filled c.loop-light-test.true c.requires.within small c.loop-light.invariant.behind
                (omega (arith, c.loop-light.invariant.balance, c.loop-light.invariant.left))
                (rw c.requires.row.count_is at c.times-filled.ensures) refl;
          })
      | else-exceeds w ↦
          let great : sum ws ≤ length ws * get_or ws c.loop-light.light 0 =
          rw (c.times-filled.ensures, c.requires.row.count_is, c.requires.row.whole_is) at (exceeds-not _ _ _ c.exceeds.ensures w.if-exceeds.false) in
          rw (w.columns-is, w.left-is)
          (record {
            within = omega (arith, c.loop-light-test.true);
            left = c.loop-light.invariant.left;
            balance = rw add-one (omega (arith, c.loop-light.invariant.balance, more, lack, great));
            behind = rw add-one (omega (arith, c.loop-light.invariant.behind, more));
            filled = filled-pass (own_part g.N.Width.value) other_item ws c.loop-light.light c.args.heavy (c.loop-light.light + 1) _ (omega arith)
                c.loop-light.invariant.filled c.loop-light-test.true great;
          })
    ]

pub returns-clause-place : goal.returns-clause-place
returns-clause-place g c =
    let ws = c.args.weights.now in
    let every = front-all (lacks ws) c.loop-light.light (omega (arith, length-lacks ws)) in
    let all = front-all (spares ws) (length ws) (omega (arith, length-spares ws)) in
    let some = front-le (spares ws) (suc c.args.heavy) (length ws) (omega arith) in
    absurd (omega (arith, every, all, some, sum-lacks ws, c.loop-light.invariant.balance, c.loop-light.invariant.left))

pub returns-clause-balance : goal.returns-clause-balance
returns-clause-balance g c =
    let ws = c.args.weights.now in
    let every = front-all (lacks ws) c.loop-light.light (omega (arith, length-lacks ws)) in
    let all = front-all (spares ws) (length ws) (omega (arith, length-spares ws)) in
    let some = front-le (spares ws) (suc c.args.heavy) (length ws) (omega arith) in
    absurd (omega (arith, every, all, some, sum-lacks ws, c.loop-light.invariant.balance, c.loop-light.invariant.left))
