use Rattle.std.proofs.Common.{◌≡◌, ◌<◌, ◌≤◌, ◌+◌, ◌-◌, ◌*◌, get_or, ap, refl, sym, ◌∙◌, arith}
use Rattle.edge_reader.proofs.ByteLemmas.{in_field, number_at, digit-low, digit-no_feed, blank-no_feed, number-first, number-more, number-blank}
use Rattle.edge_reader.proofs.TextLemmas.{lines_with-next}
use Rattle.edge_reader.proofs.unfinished.Line.take_number.Goals as goal

pub digits-init : goal.digits-init
digits-init c =
    let is : c.from-value.result ≡ get_or c.args.piece.now c.args.at 0 - 48 = c.from-value.ensures ∙ c.saturating_sub.ensures in
    let low : get_or c.args.piece.now c.args.at 0 ≤ 57 = digit-low _ c.requires.digit in
    record {
      onward = omega arith;
      within = omega (arith, c.requires.within);
      low = omega (arith, is, low);
      taken = λ digits value number u n r whole text.
          lines_with-next u n r c.args.self.now (in_field c.args.self.now.fields digits) whole c.args.at c.args.piece.now text c.requires.within (digit-no_feed _ c.requires.digit)
          (number-first c.args.self.now digits _ c.requires.gap c.requires.plain c.requires.digit (value ∙ is) number);
    }

pub digits-preserved : goal.digits-preserved
digits-preserved c =
    let is : c.from.result ≡ get_or c.args.piece.now c.digits.next 0 - 48 = c.from.ensures ∙ c.saturating_sub-in-digits.ensures in
    let digit = sym c.is_ascii_digit.ensures.value ∙ c.if-is_ascii_digit.true in
    let low : get_or c.args.piece.now c.digits.next 0 ≤ 57 = digit-low _ digit in
    let small : c.digits.value < 429496729 = c.if-value-lt-SMALL.true in
    record {
      onward = omega (arith, c.digits.invariant.onward);
      within = omega (arith, c.digits-test.true);
      low = omega (arith, is, low, small);
      taken = λ digits value number u n r whole text.
          c.digits.invariant.taken (number_at c.digits.value c.digits.invariant.low) refl refl u n r whole text
          ∙ lines_with-next u n r (in_field c.args.self.now.fields (number_at c.digits.value c.digits.invariant.low)) (in_field c.args.self.now.fields digits) whole c.digits.next c.args.piece.now text
          c.digits-test.true (digit-no_feed _ digit)
          (number-more c.args.self.now.fields (number_at c.digits.value c.digits.invariant.low) digits _ digit small refl (value ∙ ap (λ d. 10 * c.digits.value + d) is) number);
    }

pub returns-then-is_blank_byte-clause-taken : goal.returns-then-is_blank_byte-clause-taken
returns-then-is_blank_byte-clause-taken c = λ u n r whole text.
    let blank = sym c.is_blank_byte.ensures ∙ c.if-is_blank_byte.true in
    c.digits.invariant.taken c.of-self.result c.of-self.ensures.value c.of-self.ensures.is_number u n r whole text
    ∙ lines_with-next u n r (in_field c.args.self.now.fields c.of-self.result) _ whole c.digits.next c.args.piece.now text c.if-next-piece.true (blank-no_feed _ blank)
    (number-blank c.args.self.now.fields c.of-self.result _ _ blank c.requires.gap c.requires.plain c.add.ensures)
