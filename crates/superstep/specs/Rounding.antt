-- Rounds of shards, by however many workers.
use Rattle.std.specs.Prelude.{◌≡◌, ℕ, ◌<◌, true, List, length, map, slice_index_or, All}
use Rattle.std.specs.List.Sorted.{IsPermutation}
use Rattle.csr_store.specs.RowGraph.{RowGraph}
use Rattle.vertex_partition.specs.PartViews.{IsPartOf}
use Rattle.traveller.specs.Standing.{parted}
use Rattle.walker_mail.specs.declared.parcels.Addressed.{Addressed}
use Rattle.walker_mail.specs.declared.parcels.Parcel.{Parcel}
use Rattle.walker_mail.specs.Posts.{all_items}
use Rattle.world_law.specs.Items.{Item as Sent, letter_of}
use Rattle.world_law.specs.Rounds.{IsRound}
use Rattle.shard_core.specs.declared.items.Item.{Item}
use Rattle.shard_core.specs.Items.{item_of}
use Rattle.shard_core.specs.Shards.{ShardView, shard_of}
use Rattle.shard_core.specs.SoundWorlds.{IsInFlight, flight_of}
use Rattle.shard_core.specs.Taking.{FitsAmong}
use Rattle.superstep.specs.Boxes.{addressed_of, items_in, joined}
use Rattle.superstep.specs.declared.seats.Seat.{Seat}

-- what arrives at a shard, as the laws of worlds see it
abbrev pub arrived : List Item → List Sent
arrived items = map item_of items

-- an item goes to a shard's part, and fits among the parts
pub record Reaches (s : ShardView) (i : Item) : Type 0 where
  pub to : (letter_of (item_of i)).to ≡ s.part.part
  pub fits : FitsAmong s.run.vertices s.part.cuts (item_of i)

-- there is a list of items for each shard, and what is in it reaches the shard
pub record AreReached (shards : List ShardView) (lists : List (List Item)) : Type 0 where
  pub long : length lists ≡ length shards
  pub each : (k : ℕ) (s : ShardView) (l : List Item) → k < length shards
      → All (Reaches (slice_index_or shards k s)) (slice_index_or lists k l)

-- a round that a shard made
pub record MadeRound : Type 0 where
  pub before : ShardView
  pub arrivals : List Item
  pub after : ShardView
  pub out : List (Addressed Item)
  pub run : after.run ≡ before.run
  pub part : after.part ≡ before.part
  pub fits : All (IsInFlight before.run.vertices before.part.cuts) out
  pub round : (g : RowGraph) → IsPartOf g before.part
      → IsRound (parted g before.run before.part.cuts) (shard_of before) (arrived arrivals) (shard_of after) (flight_of out)

-- a shard made this round
abbrev pub RoundIs : ShardView → List Item → ShardView → List (Addressed Item) → Type 0
RoundIs before arrivals after out =
    (r : MadeRound) × (r.before ≡ before) × (r.arrivals ≡ arrivals) × (r.after ≡ after) × (r.out ≡ out)

-- a shard is whole, and what is in its parcels reaches it
pub record IsReady (s : Seat) : Type 0 where
  pub whole : s.shard.whole ≡ true
  pub reached : All (Reaches s.shard) (items_in (all_items s.parcels.items))

-- a shard took in what was in its parcels and made a round; what it gave out is in its parcels now
pub record HasTurned (before after : Seat) : Type 0 where
  pub out : List (Addressed Item)
  pub round : RoundIs before.shard (items_in (all_items before.parcels.items)) after.shard out
  pub packed : IsPermutation out (map addressed_of (all_items after.parcels.items))
  pub whole : after.shard.whole ≡ true

-- each shard, in its place, made one round of what came for it; what it gave out is in the list of its number
pub record HaveMade (befores : List ShardView) (arrivals : List (List Item)) (afters : List ShardView) (given : List (List (Addressed Item))) : Type 0 where
  pub rounds : List MadeRound
  pub before : map (λ r. r.before) rounds ≡ befores
  pub came : map (λ r. r.arrivals) rounds ≡ arrivals
  pub after : map (λ r. r.after) rounds ≡ afters
  pub out : map (λ r. r.out) rounds ≡ given

-- they did so, and all that they gave out is in parcels
pub record HavePacked (befores : List ShardView) (arrivals : List (List Item)) (afters : List ShardView) (parcels : List (Parcel Item)) : Type 0 where
  pub given : List (List (Addressed Item))
  pub made : HaveMade befores arrivals afters given
  pub packed : IsPermutation (joined given) (map addressed_of (all_items parcels))
