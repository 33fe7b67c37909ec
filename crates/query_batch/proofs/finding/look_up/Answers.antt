use Rattle.std.proofs.Common.{sym, subst}
use Rattle.std.specs.List.Sorted.{IsNonDecreasing}
use Rattle.csr_store.proofs.SearchLemmas.{row-rises}
use Rattle.query_batch.proofs.finding.look_up.Goals as goal

-- the ends of a row don't fall
pub each_once-requires : goal.each_once-requires
each_once-requires c = subst IsNonDecreasing (sym c.dsts.ensures.ends) (row-rises c.args.part.now.edges c.in-Row.t)
