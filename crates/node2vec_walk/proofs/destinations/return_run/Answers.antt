use Rattle.std.proofs.Common.{◌≡◌, true, ◌∙◌, arith}
use Rattle.std.proofs.lemmas.Bool.Decides.{nat_tests}
use Rattle.csr_store.proofs.SearchLemmas.{tail-of}
use Rattle.node2vec_walk.specs.Destinations.{rises}
use Rattle.node2vec_walk.proofs.DestinationLaws.{run-risen}
use Rattle.node2vec_walk.proofs.destinations.return_run.Goals as goal

pub ends_at-requires-clause-least : goal.ends_at-requires-clause-least
ends_at-requires-clause-least c =
    (tail-of c.args.back c.ends_below-from.result c.args.dsts.now c.requires c.ends_below-from.ensures).least

pub returns-clause-run : goal.returns-clause-run
returns-clause-run c =
    let rise : rises c.args.factors.now ≡ true = grind (arith, nat_tests, c.factor.ensures.value, c.greatest_from.ensures.value, c.if-factor-greatest_from.false) in
    let tail = tail-of c.args.back c.ends_below-from.result c.args.dsts.now c.requires c.ends_below-from.ensures in
    run-risen c.args.factors.now c.args.back c.args.dsts.now c.ends_below-from.result c.ends_at.result rise
    c.ends_below-from.ensures (c.ends_at.ensures ∙ tail.count)
