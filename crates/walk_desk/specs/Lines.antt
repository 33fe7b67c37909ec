-- Which rings four ends belong to.
use Rattle.std.specs.Prelude.{ℕ}
use Rattle.walk_desk.specs.Rings.{Line, producer_ring}
use Rattle.walk_desk.specs.declared.ends.Ends.{Ends}

-- the two rings of a client's four ends
abbrev pub line_of : Ends → Line
line_of e = record { asks = producer_ring e.ask; answers = producer_ring e.answer }

-- the room in each of the two rings
abbrev pub room_of : Ends → ℕ
room_of e = e.capacity
