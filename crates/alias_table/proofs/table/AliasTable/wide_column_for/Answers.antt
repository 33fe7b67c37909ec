use Rattle.std.proofs.Common.{◌≡◌, arith, length, sum, sym}
use Rattle.alias_table.proofs.TableLemmas.{column-of-word, sum-some}
use Rattle.alias_table.proofs.table.AliasTable.wide_column_for.Goals as goal

pub returns-clause-column : goal.returns-clause-column
returns-clause-column c =
    let ws = c.self.inside.row.items in
    let many : c.len.result ≡ length ws = omega arith in
    rw (c.from.ensures, c.self.invariant.whole_is, many, ← c.self.view_is)
    (sym (column-of-word c.args.word (length ws) (sum ws) (omega (arith, c.self.invariant.row.some)) (sum-some ws c.self.invariant.row)))
