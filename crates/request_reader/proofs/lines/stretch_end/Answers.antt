use Rattle.std.proofs.Common.{◌∙◌, sym, arith}
use Rattle.request_reader.proofs.LineLemmas.{cut-none, cut-more, cut-blank_field, cut-blank_rest, cut-end_field, cut-end_rest}
use Rattle.request_reader.proofs.lines.stretch_end.Goals as goal

pub solid-init : goal.solid-init
solid-init c = record { onward = omega arith; within = c.requires; cut = cut-none c.args.line.now c.args.from }

pub returns-then-is_blank_byte-clause-field : goal.returns-then-is_blank_byte-clause-field
returns-then-is_blank_byte-clause-field c =
    cut-blank_field c.args.line.now c.args.from c.solid.at c.solid-test.true (sym c.is_blank_byte.ensures ∙ c.if-is_blank_byte.true) c.solid.invariant.cut

pub returns-then-is_blank_byte-clause-rest : goal.returns-then-is_blank_byte-clause-rest
returns-then-is_blank_byte-clause-rest c =
    cut-blank_rest c.args.line.now c.args.from c.solid.at c.solid-test.true (sym c.is_blank_byte.ensures ∙ c.if-is_blank_byte.true) c.solid.invariant.cut

pub solid-preserved : goal.solid-preserved
solid-preserved c = record {
  onward = (let low = c.solid.invariant.onward in omega arith);
  within = omega arith;
  cut = cut-more c.args.line.now c.args.from c.solid.at c.solid.invariant.onward c.solid-test.true (sym c.is_blank_byte.ensures ∙ c.if-is_blank_byte.false) c.solid.invariant.cut;
}

pub returns-clause-field : goal.returns-clause-field
returns-clause-field c = cut-end_field c.args.line.now c.args.from c.solid.at c.solid-test.false c.solid.invariant.cut

pub returns-clause-rest : goal.returns-clause-rest
returns-clause-rest c = cut-end_rest c.args.line.now c.args.from c.solid.at c.solid-test.false c.solid.invariant.cut
