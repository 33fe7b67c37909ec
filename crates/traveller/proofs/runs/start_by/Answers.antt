use Rattle.std.proofs.Common.{arith}
use Rattle.traveller.proofs.StepLemmas.{each-below}
use Rattle.traveller.proofs.runs.start_by.Goals as goal

pub overflow_cast-result : goal.overflow_cast-result
overflow_cast-result c =
    let low = each-below c.args.rule c.args.vertices c.args.walker c.in-Each.is c.requires.walker in
    let fits = c.ranges.vertices in
    omega (arith, low)

pub returns-in-Each-clause-within : goal.returns-in-Each-clause-within
returns-in-Each-clause-within c = each-below c.args.rule c.args.vertices c.args.walker c.in-Each.is c.requires.walker
