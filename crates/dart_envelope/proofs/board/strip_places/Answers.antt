use Rattle.std.proofs.Common.{◌-◌, arith}
use Rattle.walk_model.proofs.BoardLemmas.{sum-stretch-le}
use Rattle.dart_envelope.proofs.board.strip_places.Goals as goal

pub total-sum-requires : goal.total-sum-requires
total-sum-requires c =
    omega (arith, sum-stretch-le c.args.weights.now c.in-Some.from (c.in-Some.to - c.in-Some.from))
