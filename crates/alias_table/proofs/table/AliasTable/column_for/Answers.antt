use Rattle.std.proofs.Common.{◌≡◌, arith, length, sum}
use Rattle.alias_table.proofs.TableLemmas.{column-of-word, sum-some}
use Rattle.alias_table.proofs.table.AliasTable.column_for.Goals as goal

pub returns-clause-value : goal.returns-clause-value
returns-clause-value c =
    let ws = c.self.inside.row.items in
    let many : c.len.result ≡ length ws = omega arith in
    rw (c.divide.ensures.quotient, c.divide-place.ensures.rest, c.self.invariant.whole_is, many, ← c.self.view_is)
    (column-of-word c.args.word (length ws) (sum ws) (omega (arith, c.self.invariant.row.some)) (sum-some ws c.self.invariant.row))
