use Rattle.std.proofs.Common.{ℕ, ◌/◌}
use Rattle.alias_table.specs.Filled.{own_part, other_item}
use Rattle.alias_table.proofs.TableLemmas.{sum-some, column-at, pick-own, pick-other, pick-whole, pick-column, pick-within, pick-read}
use Rattle.alias_table.proofs.table.AliasTable.item_at.Goals as goal

pub returns-then-place-le18446744073709551615-clause-piece :
    goal.returns-then-place-le18446744073709551615-clause-piece
returns-then-place-le18446744073709551615-clause-piece c =
    let are = rw c.in-Whole.is at c.self.invariant.columns_are in
    let ws = c.self.inside.row.items in
    let inside = pick-column ws c.args.place c.self.inside.whole c.self.invariant.whole_is (rw (← c.self.view_is) at c.requires) in
    rw (c.divide-part.ensures.quotient, ← c.self.view_is)
    (pick-whole ws c.args.place c.self.inside.whole c.self.invariant.whole_is (sum-some ws c.self.invariant.row) (are (c.args.place / c.self.inside.whole) inside))

pub returns-else-self-le18446744073709551615-clause-piece :
    goal.returns-else-self-le18446744073709551615-clause-piece
returns-else-self-le18446744073709551615-clause-piece c =
    let are = rw c.in-Whole.is at c.self.invariant.columns_are in
    let ws = c.self.inside.row.items in
    let inside = pick-column ws c.args.place c.self.inside.whole c.self.invariant.whole_is (rw (← c.self.view_is) at c.requires) in
    rw (← c.self.view_is)
    (pick-whole ws c.args.place c.self.inside.whole c.self.invariant.whole_is (sum-some ws c.self.invariant.row) (are (c.args.place / c.self.inside.whole) inside))

pub returns-in-Slim-clause-piece : goal.returns-in-Slim-clause-piece
returns-in-Slim-clause-piece c =
    let are = rw c.in-Slim.is at c.self.invariant.columns_are in
    let ws = c.self.inside.row.items in
    let here = rw c.divide-part-in-Slim.ensures.quotient at c.index-here.ensures in
    rw (c.choose.ensures, c.from.ensures, c.divide-part-in-Slim.ensures.quotient, c.divide-part-in-Slim.ensures.rest, ← c.self.view_is)
    (pick-read (own_part (λ (n : ℕ). n)) other_item ws c.in-Slim.columns.items c.args.place c.self.inside.whole c.index-here.result.now
    c.self.invariant.whole_is c.self.invariant.row (rw (← c.self.view_is) at c.requires) are.1 here).0

pub returns-in-Slim-clause-within : goal.returns-in-Slim-clause-within
returns-in-Slim-clause-within c =
    let are = rw c.in-Slim.is at c.self.invariant.columns_are in
    let ws = c.self.inside.row.items in
    let here = rw c.divide-part-in-Slim.ensures.quotient at c.index-here.ensures in
    rw (c.choose.ensures, c.from.ensures, c.divide-part-in-Slim.ensures.quotient, c.divide-part-in-Slim.ensures.rest, ← c.self.view_is)
    (pick-read (own_part (λ (n : ℕ). n)) other_item ws c.in-Slim.columns.items c.args.place c.self.inside.whole c.index-here.result.now
    c.self.invariant.whole_is c.self.invariant.row (rw (← c.self.view_is) at c.requires) are.1 here).1

pub returns-in-Narrow-clause-piece : goal.returns-in-Narrow-clause-piece
returns-in-Narrow-clause-piece c =
    let are = rw c.in-Narrow.is at c.self.invariant.columns_are in
    let ws = c.self.inside.row.items in
    let here = rw c.divide-part-in-Narrow.ensures.quotient at c.index-here-in-Narrow.ensures in
    rw (c.choose-in-Narrow.ensures, c.divide-part-in-Narrow.ensures.quotient, c.divide-part-in-Narrow.ensures.rest, ← c.self.view_is)
    (pick-read (own_part (λ (n : ℕ). n)) other_item ws c.in-Narrow.columns.items c.args.place c.self.inside.whole c.index-here-in-Narrow.result.now
    c.self.invariant.whole_is c.self.invariant.row (rw (← c.self.view_is) at c.requires) are.1 here).0

pub returns-in-Narrow-clause-within : goal.returns-in-Narrow-clause-within
returns-in-Narrow-clause-within c =
    let are = rw c.in-Narrow.is at c.self.invariant.columns_are in
    let ws = c.self.inside.row.items in
    let here = rw c.divide-part-in-Narrow.ensures.quotient at c.index-here-in-Narrow.ensures in
    rw (c.choose-in-Narrow.ensures, c.divide-part-in-Narrow.ensures.quotient, c.divide-part-in-Narrow.ensures.rest, ← c.self.view_is)
    (pick-read (own_part (λ (n : ℕ). n)) other_item ws c.in-Narrow.columns.items c.args.place c.self.inside.whole c.index-here-in-Narrow.result.now
    c.self.invariant.whole_is c.self.invariant.row (rw (← c.self.view_is) at c.requires) are.1 here).1

pub returns-then-place-self-clause-piece : goal.returns-then-place-self-clause-piece
returns-then-place-self-clause-piece c =
    let are = rw c.in-Wide.is at c.self.invariant.columns_are in
    let ws = c.self.inside.row.items in
    let inside = pick-column ws c.args.place c.self.inside.whole c.self.invariant.whole_is (rw (← c.self.view_is) at c.requires) in
    let column = column-at (own_part (λ (n : ℕ). n)) other_item ws c.in-Wide.columns.items (c.args.place / c.self.inside.whole) c.index-here-in-Wide.result.now are inside c.index-here-in-Wide.ensures in
    rw (← c.self.view_is)
    (pick-own ws c.args.place c.self.inside.whole _ _ c.self.invariant.whole_is column c.if-place-self.true)

pub returns-else-place-self-clause-piece : goal.returns-else-place-self-clause-piece
returns-else-place-self-clause-piece c =
    let are = rw c.in-Wide.is at c.self.invariant.columns_are in
    let ws = c.self.inside.row.items in
    let inside = pick-column ws c.args.place c.self.inside.whole c.self.invariant.whole_is (rw (← c.self.view_is) at c.requires) in
    let column = column-at (own_part (λ (n : ℕ). n)) other_item ws c.in-Wide.columns.items (c.args.place / c.self.inside.whole) c.index-here-in-Wide.result.now are inside c.index-here-in-Wide.ensures in
    rw (← c.self.view_is)
    (pick-other ws c.args.place c.self.inside.whole _ _ c.self.invariant.whole_is (sum-some ws c.self.invariant.row) column c.if-place-self.false)

pub returns-else-place-self-clause-within : goal.returns-else-place-self-clause-within
returns-else-place-self-clause-within c =
    let are = rw c.in-Wide.is at c.self.invariant.columns_are in
    let ws = c.self.inside.row.items in
    let inside = pick-column ws c.args.place c.self.inside.whole c.self.invariant.whole_is (rw (← c.self.view_is) at c.requires) in
    let column = column-at (own_part (λ (n : ℕ). n)) other_item ws c.in-Wide.columns.items (c.args.place / c.self.inside.whole) c.index-here-in-Wide.result.now are inside c.index-here-in-Wide.ensures in
    rw (← c.self.view_is)
    (pick-within ws c.args.place c.self.inside.whole _ _ c.self.invariant.whole_is (sum-some ws c.self.invariant.row) inside column c.if-place-self.false)
