use Rattle.std.proofs.Common.{sym, ◌∙◌}
use Rattle.edge_reader.proofs.ByteLemmas.{field-blank, field-more}
use Rattle.edge_reader.proofs.unfinished.take_in_field.Goals as goal

pub returns-then-is_blank_byte-clause-goes_on : goal.returns-then-is_blank_byte-clause-goes_on
returns-then-is_blank_byte-clause-goes_on c = λ rest.
    rw c.add.ensures (field-blank c.args.line.now.fields c.args.line.now.digits _ c.args.b rest (sym c.is_blank_byte.ensures ∙ c.if-is_blank_byte.true))

pub returns-clause-goes_on : goal.returns-clause-goes_on
returns-clause-goes_on c = λ rest.
    field-more _ c.args.line.now.digits c.and-line.result c.args.b rest (sym c.is_blank_byte.ensures ∙ c.if-is_blank_byte.false)
    c.and-line.ensures.value c.and-line.ensures.is_number
