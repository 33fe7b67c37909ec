use Rattle.std.proofs.Common.{[], sym, ◌∙◌}
use Rattle.edge_reader.proofs.ByteLemmas.{line_with-end, gap-end, field-end, comment-is}
use Rattle.edge_reader.proofs.unfinished.Line.edge.Goals as goal

pub returns-in-Gap : goal.returns-in-Gap
returns-in-Gap c =
    c.outcome.ensures ∙ sym (line_with-end c.args.self.now ∙ rw c.in-Gap.is (gap-end c.args.self.now.fields c.args.self.now.digits))

pub returns-in-Field : goal.returns-in-Field
returns-in-Field c =
    c.outcome-in-Field.ensures ∙ rw c.add.ensures (sym (line_with-end c.args.self.now ∙ rw c.in-Field.is (field-end c.args.self.now.fields c.args.self.now.digits)))

pub returns-in-Comment : goal.returns-in-Comment
returns-in-Comment c =
    sym (line_with-end c.args.self.now ∙ rw c.in-Comment.is (comment-is c.args.self.now.fields c.args.self.now.digits []))
