use Rattle.std.proofs.Common.{◌≡◌, ◌+◌, ◌≤◌, ◌++◌, length, take, sym, ap, ◌∙◌, arith}
use Rattle.std.proofs.lemmas.List.{length-take-le}
use Rattle.std.specs.Prelude.{decimal}
use Rattle.path_writer.proofs.DigitLemmas.{kept-digits}
use Rattle.path_writer.proofs.block.Block.push_number.Goals as goal

pub write_digits-requires : goal.write_digits-requires
write_digits-requires c =
    let kept : c.self.inside.len ≤ 65536 = c.self.invariant in
    let array : length c.self.inside.bytes ≡ 65536 = c.self.told in
    let size : length c.args.self.now ≡ c.self.inside.len = ap length (sym c.self.view_is) ∙ length-take-le c.self.inside.len c.self.inside.bytes (omega arith) in
    let room : length c.args.self.now + 10 ≤ 65536 = c.requires in
    let count : c.digit_count.result ≡ length (decimal c.args.number) = c.digit_count.ensures.count in
    let few : c.digit_count.result ≤ 10 = c.digit_count.ensures.few in
    (omega arith, omega arith)

pub returns : goal.returns
returns c =
    let count : c.digit_count.result ≡ length (decimal c.args.number) = c.digit_count.ensures.count in
    let start : c.write_digits.result ≡ c.self.inside.len = let e = c.write_digits.ensures.start in omega arith in
    kept-digits c.self.inside.bytes c.write_digits.new.buf (decimal c.args.number) _ c.write_digits.result (c.self.inside.len + c.digit_count.result)
    c.write_digits.ensures.start c.write_digits.ensures.written c.write_digits.ensures.before
    ∙ ap (λ k. take k c.self.inside.bytes ++ decimal c.args.number) start
    ∙ ap (λ l. l ++ decimal c.args.number) c.self.view_is
