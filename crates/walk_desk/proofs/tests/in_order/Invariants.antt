use Rattle.std.proofs.Common.{◌≡◌, map, take}
use Rattle.walk_desk.specs.Seats.{Seat, places_from}
use Rattle.walk_desk.proofs.tests.in_order.Given as goal

abbrev pub invariant-loop-k : goal.invariant-loop-k
invariant-loop-k g l = map (λ (s : Seat). s.place) (take l.k l.clients) ≡ places_from 0 l.k
