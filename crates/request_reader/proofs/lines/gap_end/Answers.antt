use Rattle.std.proofs.Common.{◌∙◌, sym, arith}
use Rattle.request_reader.proofs.LineLemmas.{gap-more}
use Rattle.request_reader.proofs.lines.gap_end.Goals as goal

pub blanks-preserved : goal.blanks-preserved
blanks-preserved c = record {
  within = omega arith;
  fields = c.blanks.invariant.fields ∙ gap-more c.args.line.now c.blanks.at c.blanks-test.true (sym c.is_blank_byte.ensures ∙ c.if-not-is_blank_byte.false);
}
