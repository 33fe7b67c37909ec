use Rattle.std.proofs.Common.{sym, ◌∙◌, ap, subst, eqb}
use Rattle.std.specs.List.{dedup}
use Rattle.std.specs.List.Sorted.{IsStrictlyIncreasing}
use Rattle.std.proofs.lemmas.List.Filters.{dedup_is}
use Rattle.query_batch.proofs.RisingLemmas.{rising-dedup, increasing-dedup}
use Rattle.query_batch.proofs.finding.each_once.Goals as goal

pub returns-clause-numbers : goal.returns-clause-numbers
returns-clause-numbers c =
    dedup_is eqb _ _ c.dedup.ensures.filtered ∙ ap (dedup eqb) c.in_ok-once.ensures.items
    ∙ sym (rising-dedup c.args.numbers.now c.requires)

pub returns-clause-rising : goal.returns-clause-rising
returns-clause-rising c =
    subst IsStrictlyIncreasing
    (sym (dedup_is eqb _ _ c.dedup.ensures.filtered ∙ ap (dedup eqb) c.in_ok-once.ensures.items))
    (increasing-dedup c.args.numbers.now c.requires)
