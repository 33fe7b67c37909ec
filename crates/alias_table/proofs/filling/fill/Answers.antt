use Rattle.std.proofs.Common.{◌≡◌, ℕ, ◌+◌, ◌-◌, ◌*◌, ◌<◌, ◌≤◌, get_or, length, sum, take, suc, refl, arith, sym, ap, ◌∙◌}
use Rattle.walk_model.specs.Alias.{lacks, spares}
use Rattle.walk_model.specs.Lists.{front_reaching}
use Rattle.walk_model.proofs.NumberLemmas.{front_reaching-zero}
use Rattle.alias_table.specs.Filled.{own_part, other_item}
use Rattle.alias_table.proofs.SumLemmas.{spare_at, length-spares, front-more}
use Rattle.alias_table.proofs.WidthLemmas.{exceeds-not}
use Rattle.alias_table.proofs.FillLemmas.{filled-first, filled-closed, filled-all, spare-flat, reached-still}
use Rattle.alias_table.proofs.filling.fill.Goals as goal
use Rattle.alias_table.proofs.filling.fill.Goals.{then-exceeds, else-exceeds}

pub loop-heavy-init : goal.loop-heavy-init
loop-heavy-init g c =
    let ws = c.args.weights.now in
    let first = c.next_heavy-heavy.result in
    let none : sum (take first (spares ws)) ≡ 0 =
    sym (spare-flat ws 0 first (omega arith) c.next_heavy-heavy.ensures.within c.next_heavy-heavy.ensures.passed) in
    record {
      within = c.next_heavy-heavy.ensures.within;
      light = omega arith;
      heavy = c.next_heavy-heavy.ensures.heavy;
      owing = omega (arith, c.zero-debt.ensures);
      reached = rw none (sym (front_reaching-zero (lacks ws)));
      balance = omega (arith, none, c.zero-debt.ensures);
      filled = filled-first (own_part g.N.Width.value) other_item ws first _ c.requires.filled c.next_heavy-heavy.ensures.passed;
    }

pub minus-spare-requires : goal.minus-spare-requires
minus-spare-requires g c =
    let spare = spare_at c.args.weights.now c.loop-heavy.heavy c.loop-heavy-test.true in
    rw (c.times.ensures, c.requires.row.count_is, c.requires.row.whole_is)
    (omega (arith, spare, c.loop-heavy.invariant.heavy c.loop-heavy-test.true))

pub serve-served-requires-clause-balance : goal.serve-served-requires-clause-balance
serve-served-requires-clause-balance g c =
    let ws = c.args.weights.now in
    let spare = spare_at ws c.loop-heavy.heavy c.loop-heavy-test.true in
    let more = front-more (spares ws) c.loop-heavy.heavy (omega (arith, length-spares ws)) in
    let gain : g.N.Width.value c.minus-spare.result ≡ length ws * get_or ws c.loop-heavy.heavy 0 - sum ws =
    rw (c.times.ensures, c.requires.row.count_is, c.requires.row.whole_is) at c.minus-spare.ensures in
    let rest = c.exceeds.ensures.0 c.if-exceeds.true in
    omega (arith, spare, more, gain, rest, c.minus-unspent.ensures, c.loop-heavy.invariant.balance)

pub loop-heavy-preserved : goal.loop-heavy-preserved
loop-heavy-preserved g c =
    let ws = c.args.weights.now in
    let heavy = c.loop-heavy.heavy in
    let next = c.next_heavy-next.result in
    let some = c.loop-heavy.invariant.heavy c.loop-heavy-test.true in
    let passed : (k : ℕ) → suc heavy ≤ k → k < next → get_or (spares ws) k 0 ≡ 0 =
    λ k from below. c.next_heavy-next.ensures.passed k (omega (arith, from)) below in
    let onward : suc heavy ≤ next = omega (arith, c.next_heavy-next.ensures.onward) in
    let flat = spare-flat ws (suc heavy) next onward c.next_heavy-next.ensures.within passed in
    let spare = spare_at ws heavy c.loop-heavy-test.true in
    let more = front-more (spares ws) heavy (omega (arith, length-spares ws)) in
    let gain : g.N.Width.value c.minus-spare.result ≡ length ws * get_or ws heavy 0 - sum ws =
    rw (c.times.ensures, c.requires.row.count_is, c.requires.row.whole_is) at c.minus-spare.ensures in
    elim c.if-exceeds.branch [
      | then-exceeds w ↦
          rw (w.columns-is, w.light-is, w.debt-is)
          (record {
            within = c.next_heavy-next.ensures.within;
            light = w.serve-served.ensures.within;
            heavy = c.next_heavy-next.ensures.heavy;
            owing = w.serve-served.ensures.owing;
            reached = w.serve-served.ensures.place ∙ ap (λ (n : ℕ). front_reaching n (lacks ws)) flat;
            balance = omega (arith, w.serve-served.ensures.balance, flat);
            filled = filled-closed (own_part g.N.Width.value) other_item ws w.serve-served.result.0 heavy (g.N.Width.value w.serve-served.result.1) next _ _
                w.serve-served.ensures.filled c.loop-heavy-test.true some w.serve-served.ensures.place w.serve-served.ensures.balance onward
                c.next_heavy-next.ensures.within c.next_heavy-next.ensures.heavy passed
                (rw (w.debt-is, c.requires.row.whole_is) at c.minus.ensures) refl;
          })
      | else-exceeds w ↦
          let enough = exceeds-not _ _ _ c.exceeds.ensures w.if-exceeds.false in
          let balance : sum (take c.loop-heavy.light (lacks ws)) ≡ sum (take (suc heavy) (spares ws)) + g.N.Width.value w.minus-debt.result =
          omega (arith, spare, more, gain, enough, w.minus-debt.ensures, c.loop-heavy.invariant.balance) in
          let reached = reached-still ws (sum (take heavy (spares ws))) (sum (take (suc heavy) (spares ws))) c.loop-heavy.light
          c.loop-heavy.invariant.light (omega (arith, more)) c.loop-heavy.invariant.reached (omega (arith, balance)) in
          rw (w.columns-is, w.light-is, w.debt-is)
          (record {
            within = c.next_heavy-next.ensures.within;
            light = c.loop-heavy.invariant.light;
            heavy = c.next_heavy-next.ensures.heavy;
            owing = omega (arith, c.loop-heavy.invariant.owing, w.minus-debt.ensures);
            reached = reached ∙ ap (λ (n : ℕ). front_reaching n (lacks ws)) flat;
            balance = omega (arith, balance, flat);
            filled = filled-closed (own_part g.N.Width.value) other_item ws c.loop-heavy.light heavy (g.N.Width.value w.minus-debt.result) next _ _
                c.loop-heavy.invariant.filled c.loop-heavy-test.true some reached balance onward c.next_heavy-next.ensures.within c.next_heavy-next.ensures.heavy passed
                (rw (w.debt-is, c.requires.row.whole_is) at c.minus.ensures) refl;
          })
    ]

pub returns : goal.returns
returns g c =
    filled-all (own_part g.N.Width.value) other_item c.args.weights.now c.loop-heavy.light c.loop-heavy.heavy (g.N.Width.value c.loop-heavy.debt) _
    c.loop-heavy.invariant.filled c.loop-heavy-test.false c.loop-heavy.invariant.balance
