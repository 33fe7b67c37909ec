-- Replies that walkers may hear, and walkers that wait for them.
use Rattle.std.specs.Prelude.{◌≡◌, ℕ, ◌+◌, ◌<◌, Bool, false, if◌then◌else◌, List, [], ◌∷◌, ◌++◌, map, length, All, count_by, sum_by, slice_index_or, Option, Some, None}
use Rattle.std.specs.List.{flat_map}
use Rattle.std.specs.List.Sorted.{IsNonDecreasingBy}
use Rattle.walk_model.specs.declared.messages.Ask.{Ask}
use Rattle.walk_model.specs.declared.messages.Reply.{Reply}
use Rattle.csr_store.specs.RowGraph.{RowGraph}
use Rattle.vertex_partition.specs.PartViews.{PartView, IsPartOf}
use Rattle.walk_model.specs.Cuts.{owner}
use Rattle.traveller.specs.declared.runs.Run.{Run}
use Rattle.traveller.specs.Standing.{parted}
use Rattle.traveller.specs.Walkers.{Walker, ask_of}
use Rattle.world_law.specs.Items.{Item as Sent, Travels, Asks, Replies}
use Rattle.world_law.specs.Worlds.{Piece, Resident, Aside}
use Rattle.world_law.specs.Events.{Becomes}
use Rattle.world_law.specs.Rounds.{same_ask, waits_with}
use Rattle.walker_mail.specs.declared.parcels.Addressed.{Addressed}
use Rattle.shard_core.specs.declared.items.Item.{Item}
use Rattle.shard_core.specs.declared.items.Item.TheVariants as item
use Rattle.shard_core.specs.declared.shards.Told.{Told}
use Rattle.shard_core.specs.declared.hearing.Offer.{Offer}
use Rattle.shard_core.specs.declared.hearing.Hearing.{Hearing}
use Rattle.shard_core.specs.Abreast.{IsReadyIn}
use Rattle.shard_core.specs.KeptShards.{WaitsIn, HasForm, told_item}

-- some pieces become others by events of a part, on each graph of which it is one
abbrev pub BecomesIn : Run → PartView → List Piece → List Piece → Type 0
BecomesIn run p before after = (g : RowGraph) → IsPartOf g p → Becomes (parted g run p.cuts) p.part before after

-- the walker, the ask and the reply in an item, the reply as one that no walker has heard yet
abbrev pub offer_of : Told → Offer
offer_of told = record { told = told; taken = false }

abbrev pub walker_in : Sent → Option Walker
walker_in (Travels v from to) = Some v
walker_in _ = None

abbrev pub ask_in : Sent → Option Ask
ask_in (Asks ask to) = Some ask
ask_in _ = None

abbrev pub offer_in : Sent → Option Offer
offer_in (Replies reply from) = Some (offer_of (record { reply = reply; from = from }))
offer_in _ = None

-- a reply on its way from a part to the part that asked
abbrev pub sent_home : ℕ → Reply → Addressed Item
sent_home k reply = record { to = reply.ask.home; item = item.Reply reply k }

-- what a reply weighs that no walker has heard, and how many of these answer an ask
abbrev pub open_weight : (Told → ℕ) → Offer → ℕ
open_weight f o = if o.taken then 0 else f o.told

abbrev pub answer_count : Ask → Told → ℕ
answer_count a told = if same_ask a told.reply.ask then 1 else 0

abbrev pub open_count : Ask → List Offer → ℕ
open_count a os = sum_by (open_weight (answer_count a)) os

-- these replies, and as pieces that were set aside
abbrev pub open_told : Offer → List Told
open_told o = if o.taken then [] else o.told ∷ []

abbrev pub open_tolds : List Offer → List Told
open_tolds os = flat_map open_told os

abbrev pub told_pieces : ℕ → List Told → List Piece
told_pieces k tolds = map (λ t. Aside k (told_item t)) tolds

-- the walker whose ask a reply answers
abbrev pub asker_of : Offer → ℕ
asker_of o = o.told.reply.ask.walker

-- the replies stand by rising walkers
abbrev pub AreRising : List Offer → Type 0
AreRising os = IsNonDecreasingBy asker_of os

-- a reply at a place answers an ask, and no walker has heard it
pub record IsOpenAt (os : List Offer) (a : Ask) (i : ℕ) : Type 0 where
  pub low : i < length os
  pub open_is : (d : Offer) → (slice_index_or os i d).taken ≡ false
  pub answers : (d : Offer) → (slice_index_or os i d).told.reply.ask ≡ a

-- a reply at a place answers a walker's ask, and no walker has heard it
pub record MayHear (owner_of : ℕ → ℕ) (os : List Offer) (w : Walker) (i : ℕ) : Type 0 where
  pub ask : Ask
  pub waits : ask_of owner_of w ≡ Some ask
  pub there : IsOpenAt os ask i

-- how many of some walkers wait for the reply to an ask
abbrev pub wait_count : PartView → Ask → List Walker → ℕ
wait_count p a ws = count_by (λ v. waits_with a (ask_of (owner p.cuts) v)) ws

-- what has become of walkers that waited, and of the replies that there were at first: each walker can go on, having
-- heard a reply to its ask, or waits, and then no such reply is left
pub record IsHearing (run : Run) (p : PartView) (first : List Offer) (passed : List Walker) (h : Hearing) : Type 0 where
  pub rising : AreRising h.offers.items
  pub forms : All (λ o. HasForm o.told) h.offers.items
  pub ready : All (IsReadyIn run p) h.ready.items
  pub waiting : All (WaitsIn run p) h.waiting.items
  pub becomes : BecomesIn run p (map (Resident p.part) passed ++ told_pieces p.part (open_tolds first))
      (map (Resident p.part) h.ready.items ++ (map (Resident p.part) h.waiting.items ++ told_pieces p.part (open_tolds h.offers.items)))
  pub counts : (a : Ask) → open_count a h.offers.items + wait_count p a passed ≡ open_count a first + wait_count p a h.waiting.items
  pub none : (a : Ask) → 0 < wait_count p a h.waiting.items → open_count a h.offers.items ≡ 0
