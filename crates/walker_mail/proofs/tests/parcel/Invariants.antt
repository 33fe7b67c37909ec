use Rattle.std.proofs.Common.{◌≡◌, length}
use Rattle.walker_mail.proofs.tests.parcel.Given as goal

abbrev pub invariant-loop-name : goal.invariant-loop-name
invariant-loop-name l = length l.items.items ≡ l.name-index
