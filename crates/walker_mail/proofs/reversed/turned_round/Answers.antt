use Rattle.std.proofs.Common.{◌≡◌, ◌++◌, length, take, drop, arith}
use Rattle.std.proofs.lemmas.Grind.{common_steps}
use Rattle.std.proofs.lemmas.List.Sorted.{IsPermutation-reverse}
use Rattle.walker_mail.specs.Posts.{all_items}
use Rattle.walker_mail.proofs.reversed.turned_round.Goals as goal

pub returns-clause-moved : goal.returns-clause-moved
returns-clause-moved g c =
    let given = take c.args.parcels.len (c.turn_round.new.parcels ++ drop (length c.turn_round.new.parcels) c.args.parcels.items) in
    let same : given ≡ c.turn_round.new.parcels = grind (arith, common_steps) in
    let was : c.as_mut_slice.result.now ≡ c.args.parcels.items = c.as_mut_slice.ensures.value in
    rw (same, c.turn_round.ensures, was) (IsPermutation-reverse (all_items c.args.parcels.items))
