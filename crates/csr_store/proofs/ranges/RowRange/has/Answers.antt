use Rattle.std.proofs.Common.{◌≡◌, true, false, arith, sym, ◌∙◌, subst, length}
use Rattle.std.specs.Prelude.{nat_lt}
use Rattle.std.specs.List.Sorted.{IsNonDecreasing}
use Rattle.std.proofs.lemmas.Bool.Decides.{nat_tests}
use Rattle.csr_store.proofs.SearchLemmas.{row-rises, has-at}
use Rattle.csr_store.proofs.ranges.RowRange.has.Goals as goal

pub ends_below-place-requires : goal.ends_below-place-requires
ends_below-place-requires c =
    subst IsNonDecreasing (sym c.dsts-dsts.ensures.ends) (row-rises c.args.self.now.edges c.args.t)

pub returns-then-place-dsts : goal.returns-then-place-dsts
returns-then-place-dsts c =
    let inside : nat_lt c.ends_below-place.result (length c.dsts-dsts.result.now) ≡ true = grind (arith, nat_tests, c.if-place-dsts.true) in
    rw inside at (has-at c.args.self.now.edges c.args.t c.args.x c.ends_below-place.result c.dsts-dsts.result.now 0
    c.dsts-dsts.ensures.ends c.ends_below-place.ensures)

pub returns-else-place-dsts : goal.returns-else-place-dsts
returns-else-place-dsts c =
    let outside : nat_lt c.ends_below-place.result (length c.dsts-dsts.result.now) ≡ false = grind (arith, nat_tests, c.if-place-dsts.false) in
    outside ∙ (rw outside at (has-at c.args.self.now.edges c.args.t c.args.x c.ends_below-place.result c.dsts-dsts.result.now 0
    c.dsts-dsts.ensures.ends c.ends_below-place.ensures))
