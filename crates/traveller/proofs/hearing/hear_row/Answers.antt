use Rattle.std.proofs.Common.{ℕ, List, length, ap, sym, subst, ◌∙◌, arith}
use Rattle.walk_model.specs.Graph.{row}
use Rattle.walk_model.proofs.BoardLemmas.{length-weights_of}
use Rattle.traveller.specs.Decided.{GoesOn}
use Rattle.traveller.proofs.hearing.hear_row.Goals as goal

pub returns-in-None-clause-mode : goal.returns-in-None-clause-mode
returns-in-None-clause-mode c =
    let none = sym (length-weights_of c.args.part.now.weighted (row c.args.part.now.edges c.args.s.at)) ∙ ap (λ (l : List ℕ). length l) c.in-None.ensures.none in
    let some = c.requires.some in
    absurd (omega (arith, none, some))

pub returns-in-None-clause-onward : goal.returns-in-None-clause-onward
returns-in-None-clause-onward c =
    let none = sym (length-weights_of c.args.part.now.weighted (row c.args.part.now.edges c.args.s.at)) ∙ ap (λ (l : List ℕ). length l) c.in-None.ensures.none in
    let some = c.requires.some in
    absurd (omega (arith, none, some))

pub returns-in-Some-clause-onward : goal.returns-in-Some-clause-onward
returns-in-Some-clause-onward c =
    let long = ap (λ (l : List ℕ). length l) (sym c.in-Some.ensures.table) ∙ length-weights_of c.args.part.now.weighted (row c.args.part.now.edges c.args.s.at) in
    subst (λ n. GoesOn n 0 c.args.reader.now.place c.told_scan.result) long c.told_scan.ensures.onward
