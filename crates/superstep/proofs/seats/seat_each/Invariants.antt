use Rattle.std.proofs.Common.{◌≡◌, map}
use Rattle.superstep.specs.declared.seats.Seat.{Seat}
use Rattle.superstep.proofs.seats.seat_each.Given as goal

abbrev pub invariant-seating : goal.invariant-seating
invariant-seating l = record {
  shards : map (λ (s : Seat). s.shard) l.seats.items ≡ map (λ p. p.0) l.yielded;
  parcels : map (λ (s : Seat). s.parcels) l.seats.items ≡ map (λ p. p.1) l.yielded;
}
