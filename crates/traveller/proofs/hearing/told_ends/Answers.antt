use Rattle.std.proofs.Common.{sym, subst}
use Rattle.std.specs.List.Sorted.{IsNonDecreasing}
use Rattle.traveller.proofs.ToldLemmas.{non_decreasing}
use Rattle.traveller.proofs.hearing.told_ends.Goals as goal

pub returns-in-Row-clause-rising : goal.returns-in-Row-clause-rising
returns-in-Row-clause-rising c = subst IsNonDecreasing (sym c.as_slice.ensures.list) (non_decreasing _ c.as_slice.ensures.rising)
