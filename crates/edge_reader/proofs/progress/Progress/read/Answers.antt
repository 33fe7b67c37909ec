use Rattle.std.proofs.Common.{◌+◌, ◌++◌, get_or, drop, ap, sym, ◌∙◌, arith}
use Rattle.edge_reader.proofs.TextLemmas.{at_line, at_line-own, at_line-next, at_line-fault, drop-next, drop-end}
use Rattle.edge_reader.proofs.progress.Progress.read.Goals as goal

pub reading-init : goal.reading-init
reading-init c = record { within = omega arith; number = omega arith; goes_on = λ whole text. at_line-own c.args.self.now whole (c.args.piece.now ++ text) }

pub returns-in-Err-clause-fault : goal.returns-in-Err-clause-fault
returns-in-Err-clause-fault c = λ whole text.
    rw (c.reading.invariant.goes_on whole text, drop-next c.reading.at c.args.piece.now c.reading-test.true)
    (at_line-fault c.reading.self c.reading.line whole (get_or c.args.piece.now c.reading.at 0) (drop (c.reading.at + 1) c.args.piece.now ++ text) c.in-Err.fault
    c.if-piece-at-eq10.true c.in-Err.ensures.fault)

pub reading-preserved-then-piece-at-eq10 : goal.reading-preserved-then-piece-at-eq10
reading-preserved-then-piece-at-eq10 c = record {
  within = omega (arith, c.reading-test.true);
  number = omega (arith, c.reading.invariant.number, c.end_line.ensures.number);
  goes_on = λ whole text.
      c.reading.invariant.goes_on whole text
      ∙ ap (λ xs. at_line c.reading.self c.reading.line whole (xs ++ text)) (drop-next c.reading.at c.args.piece.now c.reading-test.true)
      ∙ at_line-next c.reading.self c.end_line.new.self c.reading.line c.start-line.result whole _ _ c.if-piece-at-eq10.true
      c.in-Ok.ensures.next c.in-Ok.ensures.undirected c.in-Ok.ensures.added c.start-line.ensures;
}

pub returns-clause-read : goal.returns-clause-read
returns-clause-read c = λ whole text.
    c.reading.invariant.goes_on whole text
    ∙ ap (λ xs. at_line c.reading.self c.reading.line whole (xs ++ text)) (drop-end c.reading.at c.args.piece.now c.reading-test.false)
    ∙ sym (at_line-own _ whole text)
