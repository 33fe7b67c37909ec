use Rattle.std.proofs.Common.{◌≡◌, vec_len, All}
use Rattle.walk_desk.specs.Lines.{room_of}
use Rattle.walk_desk.specs.declared.ends.Ends.{Ends}
use Rattle.walk_desk.proofs.opening.all_ends.Given as goal

abbrev pub invariant-loop : goal.invariant-loop
invariant-loop l = (vec_len l.all ≡ l.counter) × All (λ (e : Ends). room_of e ≡ l.capacity) l.all.items
