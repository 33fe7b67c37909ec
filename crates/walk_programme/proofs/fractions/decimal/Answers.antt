use Rattle.std.proofs.Common.{length, lit<}
use Rattle.std.proofs.Math.Nat.{one-le-pow}
use Rattle.walk_programme.proofs.fractions.decimal.Goals as goal

pub returns-clause-bottom : goal.returns-clause-bottom
returns-clause-bottom c = rw c.pow-bottom.ensures (one-le-pow (length c.args.back.now) 10 (lit< tt))
