use Rattle.std.proofs.Common.{List, ◌≡◌, ◌++◌, ◌∷◌, [], map, ap, ◌∙◌, sym}
use Rattle.std.specs.List.{filter_map}
use Rattle.std.proofs.lemmas.List.{map_push}
use Rattle.std.proofs.lemmas.List.Elements.{filter_map-append}
use Rattle.shard_core.specs.Items.{item_of}
use Rattle.shard_core.specs.Offers.{ask_in, offer_in, walker_in}
use Rattle.shard_core.proofs.ArriveLemmas.{filter-more}
use Rattle.shard_core.proofs.arriving.take_in.Goals as goal

pub loop-item-preserved : goal.loop-item-preserved
loop-item-preserved c =
    let inv = c.loop-item.invariant in
    record {
      walkers = filter-more walker_in [] c.loop-item.arrived.walkers.items c.add.new.self.walkers.items c.loop-item.yielded c.in-Some.item inv.walkers c.in_ok-add.ensures.walkers;
      asks = filter-more ask_in [] c.loop-item.arrived.asks.items c.add.new.self.asks.items c.loop-item.yielded c.in-Some.item inv.asks c.in_ok-add.ensures.asks;
      offers = filter-more offer_in c.in_ok-offered.field-0.items c.loop-item.arrived.offers.items c.add.new.self.offers.items c.loop-item.yielded c.in-Some.item inv.offers c.in_ok-add.ensures.offers;
    }
