use Rattle.std.proofs.Common.{arith}
use Rattle.alias_table.proofs.TableLemmas.{own-equal, places-within}
use Rattle.alias_table.proofs.table.columns_of.Goals as goal

pub returns-then-all_are : goal.returns-then-all_are
returns-then-all_are c =
    λ k inside. own-equal c.args.weights.now _ k (c.all_are.ensures.0 c.if-all_are.true) inside

pub overflow_mul-places : goal.overflow_mul-places
overflow_mul-places c =
    let bound = places-within c.args.weights.now c.requires.row in
    rw (c.requires.whole, c.from.ensures) (omega (arith, bound))

pub filled_columns-requires-2-clause-fits : goal.filled_columns-requires-2-clause-fits
filled_columns-requires-2-clause-fits c =
    omega (arith, places-within c.args.weights.now c.requires.row)
