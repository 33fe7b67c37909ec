-- What stands between two steps of a run, and how one such moment leads to a later one.
use Rattle.std.specs.Prelude.{◌≡◌, ℕ, ◌+◌, ◌*◌, ◌^◌, ◌<◌, ◌≤◌, false, List, [], ◌++◌, length, map, drop, sum_by, All, Option, option_map}
use Rattle.walk_model.specs.declared.messages.Letter.{Letter}
use Rattle.walk_model.specs.Counts.{sum_below}
use Rattle.walk_model.specs.Walk.{walker_count}
use Rattle.csr_store.specs.RowGraph.{RowGraph}
use Rattle.traveller.specs.declared.runs.Run.{Run}
use Rattle.traveller.specs.PartedRuns.{PartedRun}
use Rattle.traveller.specs.Standing.{parted}
use Rattle.traveller.specs.Walkers.{is_ready}
use Rattle.walker_mail.specs.declared.parcels.Posted.{Posted}
use Rattle.world_law.specs.Items.{Item as Sent, letter_of}
use Rattle.world_law.specs.LettersAhead.{ahead, count_ahead, of_come}
use Rattle.world_law.specs.Soundness.{IsSound}
use Rattle.world_law.specs.Worlds.{Piece, Comes, Goes, all_pieces}
use Rattle.shard_core.specs.declared.items.Item.{Item}
use Rattle.shard_core.specs.Items.{item_of}
use Rattle.shard_core.specs.Shards.{ShardView, shard_of}
use Rattle.shard_core.specs.SoundWorlds.{AreShardsOf}
use Rattle.shard_core.specs.Taking.{FitsAmong}
use Rattle.superstep.specs.Carried.{of_one, count_letters}

-- a moment of a run: the shards; the items that were given out and not yet posted; those that were posted and not yet
-- taken in by a shard; how many were ever posted, and their letters, where these are told
pub record Moment : Type 0 where
  pub shards : List ShardView
  pub given : List Sent
  pub held : List Sent
  pub carried : ℕ
  pub log : Option (List Letter)

abbrev pub moment : List ShardView → List Sent → List Sent → ℕ → Option (List Letter) → Moment
moment shards given held carried log =
    record { shards = shards; given = given; held = held; carried = carried; log = log }

-- what a carrier holds, as the laws of worlds see it
abbrev pub sent_of : List (Posted Item) → List Sent
sent_of held = map (λ p. item_of p.item) held

-- an item that was posted is addressed to the part that its letter goes to
abbrev pub IsAddressed : Posted Item → Type 0
IsAddressed p = p.to ≡ (letter_of (item_of p.item)).to

-- the pieces of a moment
abbrev pub pieces_of : Moment → List Piece
pieces_of m = all_pieces (map shard_of m.shards) ++ (map Goes m.given ++ map Comes m.held)

-- a moment is a sound one of a graph, a run and cuts
pub record Stands (g : RowGraph) (run : Run) (cuts : List ℕ) (m : Moment) : Type 0 where
  pub shards : AreShardsOf g run cuts m.shards
  pub given : All (FitsAmong run.vertices cuts) m.given
  pub held : All (FitsAmong run.vertices cuts) m.held
  pub sound : IsSound (parted g run cuts) (pieces_of m)

-- the letters of walker i that have not yet been posted: those that have not been taken in, without the one that was
-- posted and has not yet been taken in, if one was
abbrev pub not_posted : PartedRun → List Piece → ℕ → List Letter
not_posted g ps i = drop (sum_by (of_come i) ps) (ahead g ps i)

-- how many letters have not yet been taken in
abbrev pub all_ahead : PartedRun → List Piece → ℕ
all_ahead g ps = sum_below g.walkers (λ i. count_ahead g i ps)

-- a moment leads to a sound later one, letters being posted between and at least so many taken in: those of each
-- walker are the first of those that had not yet been posted
pub record LeadsTo (g : RowGraph) (run : Run) (cuts : List ℕ) (taken : ℕ) (letters : List Letter) (before after : Moment) : Type 0 where
  pub stands : Stands g run cuts after
  pub each : (i : ℕ) → i < (parted g run cuts).walkers
      → of_one i letters ++ not_posted (parted g run cuts) (pieces_of after) i ≡ not_posted (parted g run cuts) (pieces_of before) i
  pub alone : All (λ l. l.walker < (parted g run cuts).walkers) letters
  pub fewer : all_ahead (parted g run cuts) (pieces_of after) + taken ≤ all_ahead (parted g run cuts) (pieces_of before)

-- it does so for each graph, run and cuts of which it is a sound one, and the carrier has counted and told the letters
pub record Passes (taken : ℕ) (before after : Moment) : Type 0 where
  pub letters : List Letter
  pub carried : after.carried ≡ before.carried + length letters
  pub logged : after.log ≡ option_map (λ told. told ++ letters) before.log
  pub leads : (g : RowGraph) (run : Run) (cuts : List ℕ) → Stands g run cuts before → LeadsTo g run cuts taken letters before after

-- a moment from which a run can go on: it is a sound one, and what is still to be posted and taken in can be counted
pub record IsGoing (m : Moment) : Type 0 where
  pub graph : RowGraph
  pub run : Run
  pub cuts : List ℕ
  pub stands : Stands graph run cuts m
  pub room : m.carried + count_letters (parted graph run cuts).walkers (not_posted (parted graph run cuts) (pieces_of m)) < 2 ^ 64
  pub few : all_ahead (parted graph run cuts) (pieces_of m) < 2 ^ 63

-- no walker of a shard can go on by itself, and nothing is set aside there
pub record IsSettled (s : ShardView) : Type 0 where
  pub unready : All (λ v. is_ready v.mode ≡ false) s.residents
  pub aside : s.aside ≡ []

-- the most letters that all walks of a run may have together: for each step one of a move, and an ask and its reply for
-- each dart and for the scan
abbrev pub most_letters : Run → ℕ
most_letters run = walker_count run.plan.start run.vertices * (run.plan.length * (2 * run.plan.retries + 3))
