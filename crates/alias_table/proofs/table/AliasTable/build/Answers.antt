use Rattle.std.proofs.Common.{arith, ◌≤◌, ◌*◌, length, sum}
use Rattle.std.proofs.Math.Nat.{one-le-mul}
use Rattle.alias_table.proofs.TableLemmas.{sum-some}
use Rattle.alias_table.proofs.table.AliasTable.build.Goals as goal

pub inverse_of-places_inverse-requires : goal.inverse_of-places_inverse-requires
inverse_of-places_inverse-requires c =
    let ws = c.args.weights.now in
    let some : 1 ≤ sum ws = omega (arith, sum-some ws c.requires) in
    let both : 1 ≤ sum ws * length ws = one-le-mul some c.requires.some in
    rw c.total-whole.ensures.value (omega (arith, both))
