use Rattle.std.proofs.Common.{◌≡◌, true, false, length, ◌∙◌, arith}
use Rattle.std.specs.Prelude.{nat_lt}
use Rattle.std.proofs.lemmas.Bool.Decides.{nat_tests}
use Rattle.node2vec_walk.proofs.DestinationLaws.{near-at}
use Rattle.node2vec_walk.proofs.destinations.is_near.Goals as goal

pub returns-then-place-before : goal.returns-then-place-before
returns-then-place-before c =
    let inside : nat_lt c.ends_below-place.result (length c.args.before.now) ≡ true = grind (arith, nat_tests, c.if-place-before.true) in
    rw inside at (near-at c.args.x c.ends_below-place.result c.args.before.now 0 c.requires c.ends_below-place.ensures)

pub returns-else-place-before : goal.returns-else-place-before
returns-else-place-before c =
    let outside : nat_lt c.ends_below-place.result (length c.args.before.now) ≡ false = grind (arith, nat_tests, c.if-place-before.false) in
    outside ∙ (rw outside at (near-at c.args.x c.ends_below-place.result c.args.before.now 0 c.requires c.ends_below-place.ensures))
