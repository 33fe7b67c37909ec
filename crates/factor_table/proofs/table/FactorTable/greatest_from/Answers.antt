use Rattle.std.proofs.Common.{◌^◌}
use Rattle.factor_table.proofs.FactorLaws.{greatest-bound_from}
use Rattle.factor_table.proofs.table.FactorTable.greatest_from.Goals as goal

pub returns-in-1-clause-bound : goal.returns-in-1-clause-bound
returns-in-1-clause-bound g c =
    rw c.self.invariant.greatest_other_is (greatest-bound_from c.self.inside.factors 1 (2 ^ 40) c.self.invariant.bound)
