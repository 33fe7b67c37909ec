use Rattle.std.proofs.Common.{sym, arith}
use Rattle.request_reader.proofs.LineLemmas.{trimmed-return, trimmed-plain}
use Rattle.request_reader.proofs.lines.trimmed.Goals as goal
use Rattle.request_reader.proofs.lines.trimmed.Goals.{else-count-gt0-via-then-count-gt0+else-line-count-eq13, else-count-gt0-via-else-count-gt0}

pub returns-then-line-count-eq13 : goal.returns-then-line-count-eq13
returns-then-line-count-eq13 c = sym (trimmed-return c.args.line.now c.if-count-gt0.true c.if-line-count-eq13.true)

pub returns : goal.returns
returns c =
    elim c.else-count-gt0.branch [
      | else-count-gt0-via-then-count-gt0+else-line-count-eq13 w ↦ sym (trimmed-plain c.args.line.now (λ some. w.if-line-count-eq13.false))
      | else-count-gt0-via-else-count-gt0 w ↦ sym (trimmed-plain c.args.line.now (λ some. absurd (let none = w.if-count-gt0.false in omega arith)))
    ]
