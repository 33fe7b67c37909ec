use Rattle.std.proofs.Common.{◌≡◌, ◌+◌, ◌++◌, length, take, arith, ◌∙◌, ap}
use Rattle.std.proofs.lemmas.List.{length-append, length-take-le}
use Rattle.walk_top.proofs.ReadLemmas.{read-front, stands-moved}
use Rattle.walk_top.proofs.texts.read_text.Goals as goal

pub reading-preserved : goal.reading-preserved
reading-preserved g c =
    let next : c.extend_from_slice.new.self.items ≡ c.reading.text.items ++ take c.in-Ok.count c.read_at.new.buf = c.in-Ok-extend_from_slice.ensures.items in
    let size : length c.extend_from_slice.new.self.items ≡ length c.reading.text.items + c.in-Ok.count =
    ap length next ∙ length-append c.reading.text.items (take c.in-Ok.count c.read_at.new.buf)
    ∙ ap (λ n. length c.reading.text.items + n) (length-take-le c.in-Ok.count c.read_at.new.buf c.in-Ok.ensures.within) in
    record {
      front = read-front (g.F.Files.told c.args.files.now c.args.name.now) c.reading.text.items c.extend_from_slice.new.self.items c.read_at.new.buf c.in-Ok.count
          c.reading.invariant.front
          (stands-moved _ _ _ _ _ _ (c.reading.invariant.kept c.args.name.now) (c.len.ensures ∙ c.reading.text.ok.0) (c.in-Ok.ensures.bytes (omega arith)))
          c.in-Ok.ensures.within next;
      short = omega arith;
      kept = λ n. c.read_at.ensures.kept n ∙ c.reading.invariant.kept n;
      later = λ n. (let e = c.read_at.ensures.later n in let f = c.reading.invariant.later n in omega arith);
    }
