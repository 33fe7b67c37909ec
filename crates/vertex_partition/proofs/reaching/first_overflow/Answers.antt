use Rattle.std.proofs.Common.{◌≡◌, ◌^◌, ℕ, Bool, true, false, nat_lt, find, ap, sym, ◌∙◌, add-one, arith}
use Rattle.walk_model.specs.Numbers.{below}
use Rattle.vertex_partition.specs.Reaches.{row_reach}
use Rattle.vertex_partition.proofs.ReachLaws.{found-below, none-below, below-zero, stored-reach}
use Rattle.vertex_partition.proofs.reaching.first_overflow.Goals as goal

pub returns-then-overflows : goal.returns-then-overflows
returns-then-overflows c =
    let p : ℕ → Bool = λ v. nat_lt (2 ^ 62) (row_reach c.args.rows.now c.args.weighted c.args.factor v) in
    let here : p c.loop-v.v ≡ true =
    ap (nat_lt (2 ^ 62)) (sym (stored-reach c.args.rows.now c.args.weighted c.args.factor c.loop-v.v c.row.result.now c.row.ensures.row))
    ∙ sym c.overflows.ensures ∙ c.if-overflows.true in
    sym (found-below p c.loop-v.v c.args.rows.now.vertices (rw (← c.vertices-v-end.ensures) c.loop-v-test.true) c.loop-v.invariant here)

pub loop-v-init : goal.loop-v-init
loop-v-init c = below-zero (λ v. nat_lt (2 ^ 62) (row_reach c.args.rows.now c.args.weighted c.args.factor v))

pub loop-v-preserved : goal.loop-v-preserved
loop-v-preserved c =
    let p : ℕ → Bool = λ v. nat_lt (2 ^ 62) (row_reach c.args.rows.now c.args.weighted c.args.factor v) in
    let not : p c.loop-v.v ≡ false =
    ap (nat_lt (2 ^ 62)) (sym (stored-reach c.args.rows.now c.args.weighted c.args.factor c.loop-v.v c.row.result.now c.row.ensures.row))
    ∙ sym c.overflows.ensures ∙ c.if-overflows.false in
    rw add-one (none-below p c.loop-v.v c.loop-v.invariant not)

pub returns : goal.returns
returns c =
    let p : ℕ → Bool = λ v. nat_lt (2 ^ 62) (row_reach c.args.rows.now c.args.weighted c.args.factor v) in
    let all : c.args.rows.now.vertices ≡ c.loop-v.v =
    let e = c.vertices-v-end.ensures in let low = c.loop-v.auto.v-end in let high = c.loop-v-test.false in omega arith in
    sym c.loop-v.invariant ∙ ap (λ n. find p (below n)) (sym all)
