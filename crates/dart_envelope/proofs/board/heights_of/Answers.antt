use Rattle.std.proofs.Common.{arith, drop, Some}
use Rattle.factor_table.proofs.FactorLaws.{greatest-some}
use Rattle.dart_envelope.proofs.AreaLemmas.{rise-within}
use Rattle.dart_envelope.proofs.board.heights_of.Goals as goal

pub returns-in-Some-clause-some : goal.returns-in-Some-clause-some
returns-in-Some-clause-some g c =
    let other = rw c.in-Some.is at c.requires.other in
    rw (c.greatest_from-main.ensures.value) (greatest-some (drop 1 c.args.factors.now) other)

pub returns-in-Some-clause-within : goal.returns-in-Some-clause-within
returns-in-Some-clause-within g c =
    let fs = c.args.factors.now in
    let classes = rw c.in-Some.is at c.requires.classes in
    let long = c.factor.ensures.classes in
    let high = rise-within (Some c.in-Some.field-0) fs (omega arith) in
    rw (c.saturating_sub.ensures, c.factor.ensures.value, c.greatest_from-main.ensures.value) high
