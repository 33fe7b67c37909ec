use Rattle.std.proofs.Common.{◌≤◌, length, ap, ◌∙◌, arith}
use Rattle.std.specs.Result.{result_ok}
use Rattle.walk_programme.proofs.NumberLemmas.{number-found}
use Rattle.walk_programme.proofs.fractions.number.Goals as goal

pub returns-clause-number : goal.returns-clause-number
returns-clause-number c =
    let some : 1 ≤ length c.args.digits.now = grind arith in
    c.ok.ensures.value ∙ ap result_ok c.whole_number.ensures.number ∙ number-found c.args.most c.args.digits.now some (omega arith) c.requires
