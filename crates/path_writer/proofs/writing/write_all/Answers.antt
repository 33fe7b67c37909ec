use Rattle.std.proofs.Common.{◌+◌, ◌-◌, ◌++◌, length, take, drop, sym, refl, ap, ◌∙◌, arith}
use Rattle.std.proofs.lemmas.Grind.{common_steps}
use Rattle.std.proofs.lemmas.List.{take-append-drop, take_rest}
use Rattle.path_writer.proofs.GainLemmas.{gained-after, take-more, front-first}
use Rattle.path_writer.proofs.writing.write_all.Goals as goal

pub writing-preserved : goal.writing-preserved
writing-preserved g c = record {
  gained = gained-after _ _ _ (take c.writing.done c.args.text.now) (take c.in-Ok.count (take (length c.args.text.now - c.writing.done) (drop c.writing.done c.args.text.now))) (take (c.writing.done + c.in-Ok.count) c.args.text.now)
      (sym (take-more c.writing.done c.in-Ok.count (c.writing.done + c.in-Ok.count) c.args.text.now refl) ∙ ap (λ l. take c.writing.done c.args.text.now ++ take c.in-Ok.count l) (sym (take_rest c.args.text.now c.writing.done)))
      c.writing.invariant.gained c.in-Ok.ensures.appended;
  within = grind (arith, common_steps, c.in-Ok.ensures.within);
  later = let e = c.write.ensures.later in omega arith;
}

pub returns-in-Err-clause-front : goal.returns-in-Err-clause-front
returns-in-Err-clause-front g c =
    front-first _ _ c.args.text.now (take c.writing.done c.args.text.now) (drop c.writing.done c.args.text.now) (sym (take-append-drop c.writing.done c.args.text.now))
    (c.in-Err.ensures.nothing ∙ c.writing.invariant.gained)
