use Rattle.std.proofs.Common.{◌+◌, ◌-◌, Some, length, take, drop, arith, ap, sym, ◌∙◌, subst}
use Rattle.std.specs.Prelude.{◌==◌, nat_lt}
use Rattle.std.specs.List.Sorted.{IsNonDecreasing}
use Rattle.walk_model.specs.Dart.{ends_below, ends_at}
use Rattle.walk_model.specs.Graph.{row}
use Rattle.std.proofs.lemmas.List.Sums.{count_by-le-length}
use Rattle.std.proofs.lemmas.List.{length-take, length-drop}
use Rattle.csr_store.proofs.EndLemmas.{length-ends_of}
use Rattle.csr_store.proofs.SearchLemmas.{row-rises, below-run, at-run, tail-of}
use Rattle.csr_store.proofs.ranges.RowRange.run.Goals as goal

pub ends_below-from-requires : goal.ends_below-from-requires
ends_below-from-requires c =
    subst IsNonDecreasing (sym c.dsts-dsts.ensures.ends) (row-rises c.args.self.now.edges c.args.v)

pub ends_at-count-requires-clause-order : goal.ends_at-count-requires-clause-order
ends_at-count-requires-clause-order c =
    (tail-of c.args.t c.ends_below-from.result c.dsts-dsts.result.now
    (subst IsNonDecreasing (sym c.dsts-dsts.ensures.ends) (row-rises c.args.self.now.edges c.args.v))
    c.ends_below-from.ensures).up

pub ends_at-count-requires-clause-least : goal.ends_at-count-requires-clause-least
ends_at-count-requires-clause-least c =
    (tail-of c.args.t c.ends_below-from.result c.dsts-dsts.result.now
    (subst IsNonDecreasing (sym c.dsts-dsts.ensures.ends) (row-rises c.args.self.now.edges c.args.v))
    c.ends_below-from.ensures).least

pub returns-clause-from : goal.returns-clause-from
returns-clause-from c =
    c.ends_below-from.ensures ∙ below-run c.dsts-dsts.result.now c.args.t
    ∙ ap (ends_below (Some c.args.t)) c.dsts-dsts.ensures.ends

pub returns-clause-to : goal.returns-clause-to
returns-clause-to c =
    let tail = tail-of c.args.t c.ends_below-from.result c.dsts-dsts.result.now
    (subst IsNonDecreasing (sym c.dsts-dsts.ensures.ends) (row-rises c.args.self.now.edges c.args.v))
    c.ends_below-from.ensures in
    ap (λ n. c.ends_below-from.result + n)
    (c.ends_at-count.ensures ∙ tail.count
    ∙ at-run c.dsts-dsts.result.now c.args.t ∙ ap (ends_at (Some c.args.t)) c.dsts-dsts.ensures.ends)

pub returns-clause-within : goal.returns-clause-within
returns-clause-within c =
    let dsts = c.dsts-dsts.result.now in
    let from = c.ends_below-from.result in
    let long = ap length c.dsts-dsts.ensures.ends ∙ length-ends_of (row c.args.self.now.edges c.args.v) in
    let low = count_by-le-length (λ e. nat_lt e c.args.t) dsts in
    let count = count_by-le-length (λ e. e == c.args.t) (take (length dsts - from) (drop from dsts)) in
    let rest = length-take (length dsts - from) (drop from dsts) in
    let behind = length-drop from dsts in
    let first = c.ends_below-from.ensures in
    let next = c.ends_at-count.ensures in
    omega arith
