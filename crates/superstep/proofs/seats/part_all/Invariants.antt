use Rattle.std.proofs.Common.{◌≡◌, map}
use Rattle.std.specs.List.{flat_map}
use Rattle.superstep.specs.declared.seats.Seat.{Seat}
use Rattle.superstep.proofs.seats.part_all.Given as goal

abbrev pub invariant-parting : goal.invariant-parting
invariant-parting l = record {
  shards : l.shards.items ≡ map (λ (s : Seat). s.shard) l.yielded;
  parcels : l.parcels.items ≡ flat_map (λ (s : Seat). s.parcels.items) l.yielded;
}
