use Rattle.std.proofs.Common.{◌<◌, length, ◌∙◌, arith}
use Rattle.request_reader.proofs.LineLemmas.{fields-end, field-cut}
use Rattle.request_reader.proofs.lines.next_field.Goals as goal

pub returns-then-begin-line-clause-none : goal.returns-then-begin-line-clause-none
returns-then-begin-line-clause-none c =
    c.gap_end-begin.ensures.fields ∙ fields-end c.args.line.now c.gap_end-begin.result (let at = c.if-begin-line.true in omega arith)

pub returns-clause-field : goal.returns-clause-field
returns-clause-field c =
    let low : c.gap_end-begin.result < length c.args.line.now = (let some = c.if-begin-line.false in let most = c.gap_end-begin.ensures.within in omega arith) in
    field-cut c.args.line.now c.args.from c.gap_end-begin.result c.stretch_end.result c.gap_end-begin.ensures.fields low
    (c.gap_end-begin.ensures.solid low) c.stretch_end.ensures.onward c.stretch_end.ensures.field c.stretch_end.ensures.rest
