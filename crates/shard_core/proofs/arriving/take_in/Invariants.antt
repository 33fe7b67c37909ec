use Rattle.std.proofs.Common.{◌≡◌, ◌++◌, map}
use Rattle.std.specs.List.{filter_map}
use Rattle.shard_core.specs.Items.{item_of}
use Rattle.shard_core.specs.Offers.{ask_in, offer_in, walker_in}
use Rattle.shard_core.proofs.arriving.take_in.Given as goal

abbrev pub invariant-loop-item : goal.invariant-loop-item
invariant-loop-item l = record {
  walkers : l.arrived.walkers.items ≡ filter_map walker_in (map item_of l.yielded);
  asks : l.arrived.asks.items ≡ filter_map ask_in (map item_of l.yielded);
  offers : l.arrived.offers.items ≡ l.initial.arrived.offers.items ++ filter_map offer_in (map item_of l.yielded);
}
