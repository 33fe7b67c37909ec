-- What travels, as the laws of worlds see it.
use Rattle.traveller.specs.Walkers.{Walker}
use Rattle.world_law.specs.Items.{Item as Sent, Travels, Asks, Replies}
use Rattle.shard_core.specs.declared.items.Item.{Item}
use Rattle.shard_core.specs.declared.items.Item.TheVariants as item

-- an item, seen as the walker, the ask or the reply that travels
abbrev pub item_of : Item → Sent
item_of (item.Walker traveller from to) = Travels traveller from to
item_of (item.Ask ask to) = Asks ask to
item_of (item.Reply reply from) = Replies reply from
