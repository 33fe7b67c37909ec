use Rattle.std.proofs.Common.{◌≡◌, Ok}
use Rattle.std.specs.List.{AllZip}
use Rattle.superstep.proofs.workers.all_ok.Given as goal

abbrev pub invariant-asking : goal.invariant-asking
invariant-asking g l = AllZip (λ answer x. answer ≡ Ok x) l.yielded l.all.items
