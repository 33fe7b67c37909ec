-- When the shards of a world, and what is in flight between them, are sound.
use Rattle.std.specs.Prelude.{◌≡◌, ℕ, ◌+◌, ◌<◌, Bool, List, [], length, map, true, All, slice_index_or, sum_by}
use Rattle.csr_store.specs.RowGraph.{RowGraph}
use Rattle.vertex_partition.specs.PartViews.{PartView, IsPart}
use Rattle.traveller.specs.declared.runs.Run.{Run}
use Rattle.traveller.specs.Standing.{parted}
use Rattle.walker_mail.specs.declared.parcels.Addressed.{Addressed}
use Rattle.world_law.specs.Finishing.{unfinished}
use Rattle.world_law.specs.Histories.{begin_pieces}
use Rattle.world_law.specs.Items.{letter_of}
use Rattle.world_law.specs.Soundness.{IsSound, of_walker}
use Rattle.world_law.specs.Worlds.{WorldData, Same, world_pieces}
use Rattle.shard_core.specs.declared.items.Item.{Item}
use Rattle.shard_core.specs.declared.worlds.World.{World}
use Rattle.shard_core.specs.Items.{item_of}
use Rattle.shard_core.specs.Shards.{ShardView, shard_of}
use Rattle.shard_core.specs.Taking.{FitsAmong}

-- parts in order: all parts between some cuts
pub record AreInOrder (ps : List PartView) : Type 0 where
  pub cuts : List ℕ
  pub count : length ps ≡ length cuts + 1
  pub each : (k : ℕ) (d : PartView) → k < length ps
      → ((slice_index_or ps k d).part ≡ k) × ((slice_index_or ps k d).cuts ≡ cuts)

-- they are, in order, all parts of a graph between these cuts
pub record ArePartsOf (g : RowGraph) (weighted : Bool) (cuts : List ℕ) (ps : List PartView) : Type 0 where
  pub count : length ps ≡ length cuts + 1
  pub each : (k : ℕ) (d : PartView) → k < length ps → IsPart g weighted cuts k (slice_index_or ps k d)

-- two runs are the same: what their walkers do, the seed, the number of vertices, and the start
pub record IsSameRun (a b : Run) : Type 0 where
  pub plan : a.plan ≡ b.plan
  pub seed : a.seed ≡ b.seed
  pub vertices : a.vertices ≡ b.vertices
  pub start : a.start ≡ b.start

-- a world as the laws of worlds see it
abbrev pub flight_of : List (Addressed Item) → List (Rattle.world_law.specs.Items.Item)
flight_of out = map (λ a. item_of a.item) out

abbrev pub world_data : World → WorldData
world_data w = record { shards = map shard_of w.shards.items; flight = flight_of w.flight.items }

-- an item in flight is addressed to the part that its letter goes to, which takes it in
pub record IsInFlight (vertices : ℕ) (cuts : List ℕ) (a : Addressed Item) : Type 0 where
  pub addressed : a.to ≡ (letter_of (item_of a.item)).to
  pub fits : FitsAmong vertices cuts (item_of a.item)

-- shards that have one run and, in order, all parts of a graph
pub record AreShardsOf (g : RowGraph) (run : Run) (cuts : List ℕ) (shards : List ShardView) : Type 0 where
  pub parts : ArePartsOf g run.plan.weighted cuts (map (λ s. s.part) shards)
  pub runs : All (λ s. IsSameRun s.run run) shards

-- a world is sound: its shards have one run and all parts of one graph, what is in flight goes where it belongs, and
-- all its pieces are sound
pub record IsSoundWorld (g : RowGraph) (run : Run) (cuts : List ℕ) (w : World) : Type 0 where
  pub shards : AreShardsOf g run cuts w.shards.items
  pub flight : All (IsInFlight run.vertices cuts) w.flight.items
  pub sound : IsSound (parted g run cuts) (world_pieces (world_data w))

-- a world is one of some graph, run and cuts
pub record IsSomeWorld (w : World) : Type 0 where
  pub graph : RowGraph
  pub run : Run
  pub cuts : List ℕ
  pub sound : IsSoundWorld graph run cuts w

-- a world at its beginning: it is sound and every shard is whole, every walker stands at its start, at the owner of
-- that vertex and without a step, its print is kept there, and nothing is in flight or set aside
pub record HasBegun (g : RowGraph) (run : Run) (cuts : List ℕ) (w : World) : Type 0 where
  pub sound : IsSoundWorld g run cuts w
  pub whole : All (λ s. s.whole ≡ true) w.shards.items
  pub starts : Same (world_pieces (world_data w)) (begin_pieces (parted g run cuts))
  pub aside : All (λ s. s.aside ≡ []) w.shards.items
  pub flight : w.flight.items ≡ []

-- a world is the beginning of some run
pub record HasBegunSomehow (w : World) : Type 0 where
  pub graph : RowGraph
  pub run : Run
  pub cuts : List ℕ
  pub begun : HasBegun graph run cuts w

-- no walker of a world is unfinished
abbrev pub HasFinished : World → Type 0
HasFinished w = sum_by (of_walker unfinished) (world_pieces (world_data w)) ≡ 0
