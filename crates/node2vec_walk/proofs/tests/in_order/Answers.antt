use Rattle.std.proofs.Common.{◌≡◌, true}
use Rattle.std.proofs.lemmas.List.Sorted.{non_decreasing_from_is_sorted}
use Rattle.node2vec_walk.proofs.tests.in_order.Goals as goal

pub returns : goal.returns
returns c = λ yes.
    let is : c.is_sorted.result ≡ true = yes in
    rw is at (non_decreasing_from_is_sorted c.args.dsts.now c.is_sorted.result c.is_sorted.ensures.cases)
