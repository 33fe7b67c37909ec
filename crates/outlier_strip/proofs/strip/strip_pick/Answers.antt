use Rattle.std.proofs.Common.{◌≡◌, ◌/◌, sum}
use Rattle.walk_model.proofs.NumberLemmas.{first_above-within}
use Rattle.outlier_strip.proofs.RunLemmas.{div-below}
use Rattle.outlier_strip.proofs.strip.strip_pick.Goals as goal

pub returns-in-Ok-clause-within : goal.returns-in-Ok-clause-within
returns-in-Ok-clause-within c =
    let same : c.in-Ok.z ≡ c.args.z = c.in-Ok.ensures.1 in
    rw (c.place_above.ensures.place, same)
    (first_above-within (c.args.z / c.args.n) c.args.weights.now (div-below c.args.z c.args.n (sum c.args.weights.now) c.requires.some c.requires.within))

pub returns-in-Err-clause-within : goal.returns-in-Err-clause-within
returns-in-Err-clause-within c =
    rw (c.place_above_wide.ensures.place, c.from.ensures)
    (first_above-within (c.args.z / c.args.n) c.args.weights.now (div-below c.args.z c.args.n (sum c.args.weights.now) c.requires.some c.requires.within))
