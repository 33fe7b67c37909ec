use Rattle.std.proofs.Common.{◌≡◌, ◌==◌, ◌&&◌, false, refl, sym, ◌∙◌}
use Rattle.edge_reader.specs.Lines.{is_sign}
use Rattle.edge_reader.proofs.ByteLemmas.{gap-blank, gap-sign, gap-first, and-false}
use Rattle.edge_reader.proofs.unfinished.take_in_gap.Goals as goal
use Rattle.edge_reader.proofs.unfinished.take_in_gap.Goals.{else-is_sign_byte-via-then-is_sign_byte+else-is_empty, else-is_sign_byte-via-else-is_sign_byte}

pub returns-then-is_blank_byte-clause-goes_on : goal.returns-then-is_blank_byte-clause-goes_on
returns-then-is_blank_byte-clause-goes_on c = λ rest.
    gap-blank _ _ _ rest (sym c.is_blank_byte.ensures ∙ c.if-is_blank_byte.true)

pub returns-then-is_empty-clause-goes_on : goal.returns-then-is_empty-clause-goes_on
returns-then-is_empty-clause-goes_on c = λ rest.
    gap-sign _ _ _ rest (sym c.is_blank_byte.ensures ∙ c.if-is_blank_byte.false)
    (sym c.is_sign_byte.ensures ∙ c.if-is_sign_byte.true) (sym c.is_empty.ensures ∙ c.if-is_empty.true)

pub returns-clause-goes_on : goal.returns-clause-goes_on
returns-clause-goes_on c = λ rest.
    let no_sign : (c.args.line.now.fields.count == 0 && is_sign c.args.b) ≡ false =
    elim c.else-is_sign_byte.branch [
      | else-is_sign_byte-via-then-is_sign_byte+else-is_empty w ↦ rw (sym w.is_empty.ensures ∙ w.if-is_empty.false) refl
      | else-is_sign_byte-via-else-is_sign_byte w ↦ rw (sym c.is_sign_byte.ensures ∙ w.if-is_sign_byte.false) (and-false (c.args.line.now.fields.count == 0))
    ] in
    gap-first _ c.none.result _ _ _ rest (sym c.is_blank_byte.ensures ∙ c.if-is_blank_byte.false) no_sign
    c.none.ensures.value c.none.ensures.is_number c.and-line.ensures.value c.and-line.ensures.is_number
