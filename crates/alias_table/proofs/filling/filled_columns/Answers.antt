use Rattle.std.proofs.Common.{◌∙◌}
use Rattle.alias_table.specs.Filled.{own_part, other_item}
use Rattle.alias_table.specs.declared.columns.Column.{Column}
use Rattle.alias_table.proofs.FillLemmas.{filled-whole, column-is}
use Rattle.alias_table.proofs.filling.filled_columns.Goals as goal

pub fill-requires-clause-filled : goal.fill-requires-clause-filled
fill-requires-clause-filled g c =
    let column : Column g.row.N.Denot = record { own = c.args.whole; other = 0 } in
    rw (c.deref_mut.ensures.value ∙ c.in_ok-columns.ensures.items_if_clones_equal (λ y h. column-is y _ _ (g.met.N.Width.clones_are_equal c.args.whole y.own h.0) h.1))
    (filled-whole (own_part g.N.Width.value) other_item c.args.weights.now column c.requires.row.whole_is)
