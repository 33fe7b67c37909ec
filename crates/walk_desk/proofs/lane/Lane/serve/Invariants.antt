use Rattle.std.proofs.Common.{◌≡◌, None}
use Rattle.walk_desk.proofs.lane.Lane.serve.Given as goal

abbrev pub invariant-loop : goal.invariant-loop
invariant-loop g l = (l.self.taken ≡ None) × (l.self.place ≡ l.initial.self.place)
