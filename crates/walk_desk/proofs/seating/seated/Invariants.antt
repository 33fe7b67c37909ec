use Rattle.std.proofs.Common.{◌≡◌, ℕ, length, map, All}
use Rattle.walk_desk.specs.Lines.{room_of}
use Rattle.walk_desk.specs.Posts.{Post}
use Rattle.walk_desk.specs.Seats.{new_seats, places_from}
use Rattle.walk_desk.specs.declared.ends.Ends.{Ends}
use Rattle.walk_desk.proofs.seating.seated.Given as goal

abbrev pub invariant-loop-ends : goal.invariant-loop-ends
invariant-loop-ends g l =
    (l.place ≡ length l.yielded)
    × (map (λ (p : Post). p.place) l.lanes.items ≡ places_from 0 l.place)
    × ((capacity : ℕ) → All (λ (e : Ends). room_of e ≡ capacity) l.fn.all.items → l.clients.items ≡ new_seats capacity 0 l.place)
