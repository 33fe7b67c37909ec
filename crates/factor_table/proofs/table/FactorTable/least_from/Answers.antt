use Rattle.std.proofs.Common.{◌^◌}
use Rattle.factor_table.proofs.FactorLaws.{least-bound_from}
use Rattle.factor_table.proofs.table.FactorTable.least_from.Goals as goal

pub returns-in-1-clause-bound : goal.returns-in-1-clause-bound
returns-in-1-clause-bound g c =
    rw c.self.invariant.least_other_is (least-bound_from c.self.inside.factors 1 (2 ^ 40) c.self.invariant.bound)
