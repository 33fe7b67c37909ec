-- What the turns of walkers leave in a part.
use Rattle.std.specs.Prelude.{◌≡◌, ℕ, suc, ◌+◌, ◌-◌, ◌==◌, ◌⊎◌, if◌then◌else◌, true, false, List, ◌++◌, map, All, sum_by}
use Rattle.walk_model.specs.declared.messages.Question.{Question}
use Rattle.walk_model.specs.declared.results.Print.{Print}
use Rattle.walk_model.specs.Cuts.{owner}
use Rattle.vertex_partition.specs.PartViews.{PartView}
use Rattle.traveller.specs.declared.modes.Mode.{Mode}
use Rattle.traveller.specs.declared.modes.Mode.TheVariants.{Fresh, Darts, Asked, AskedRow, Chosen}
use Rattle.traveller.specs.declared.runs.Run.{Run}
use Rattle.traveller.specs.Standing.{IsWithin, StandsIn, Suits}
use Rattle.traveller.specs.Walkers.{Walker, is_fresh, is_ready, asked_vertex, ask_with}
use Rattle.world_law.specs.Items.{Travels, Asks}
use Rattle.world_law.specs.Worlds.{Piece, Resident, Goes}
use Rattle.shard_core.specs.declared.leaving.Left.{Left}
use Rattle.shard_core.specs.Items.{item_of}
use Rattle.shard_core.specs.KeptShards.{WaitsIn, HasEndedIn}
use Rattle.shard_core.specs.SoundWorlds.{IsInFlight}

-- a walker that has made a turn in a part: it has made a step, perhaps out of the part, or rests where it stands
pub record HasTurned (run : Run) (p : PartView) (w : Walker) : Type 0 where
  pub suits : Suits run p
  pub within : IsWithin p.vertices w
  pub stands : owner p.cuts w.state.at ≡ p.part → StandsIn run p w
  pub rests : (w.mode ≡ Fresh) ⊎ ((is_ready w.mode ≡ false) × (owner p.cuts w.state.at ≡ p.part))

-- what such a walker weighs as pieces, beside the print that it left: it stays or goes, it asks, or it stays
abbrev pub asks_weight : (Piece → ℕ) → (ℕ → ℕ) → ℕ → Walker → Question → ℕ
asks_weight h owner_of k w q = h (Resident k w) + h (Goes (Asks (ask_with owner_of w q) (owner_of (asked_vertex q))))

abbrev pub turned_weight : (Piece → ℕ) → (ℕ → ℕ) → ℕ → Walker → Mode → ℕ
turned_weight h owner_of k w Fresh =
    h (if k == owner_of w.state.at then Resident k w else Goes (Travels w k (owner_of w.state.at)))
turned_weight h owner_of k w (Asked left place q) = asks_weight h owner_of k w q
turned_weight h owner_of k w (AskedRow place q) = asks_weight h owner_of k w q
turned_weight h owner_of k w _ = h (Resident k w)

abbrev pub turn_weight : (Piece → ℕ) → PartView → Walker → ℕ
turn_weight h p w = turned_weight h (owner p.cuts) p.part w w.mode

-- what residents of a part weigh
abbrev pub resident_weight : (Piece → ℕ) → PartView → List Walker → ℕ
resident_weight h p ws = sum_by (λ w. h (Resident p.part w)) ws

-- what turns left weighs
abbrev pub left_weight : (Piece → ℕ) → PartView → Left → ℕ
left_weight h p l =
    resident_weight h p l.waiting.items + resident_weight h p l.ended.items + sum_by (λ a. h (Goes (item_of a.item))) l.out.items

-- each walker waits or has ended in the part, and each item goes where it belongs
pub record IsLeft (run : Run) (p : PartView) (l : Left) : Type 0 where
  pub waiting : All (WaitsIn run p) l.waiting.items
  pub ended : All (HasEndedIn run p) l.ended.items
  pub out : All (IsInFlight run.vertices p.cuts) l.out.items

-- the most turns that a walker can make before it rests for good, if it hears no reply
abbrev pub most_turns : ℕ → ℕ → Mode → ℕ
most_turns length steps Fresh = suc (length - steps)
most_turns length steps (Darts left place) = suc (suc (length - steps))
most_turns length steps (Chosen edge place) = suc (suc (length - steps))
most_turns length steps _ = 0

abbrev pub turns_ahead : Walker → ℕ
turns_ahead w = most_turns w.length w.state.steps w.mode

-- prints that were kept, and more behind them
abbrev pub IsMore : List Print → List Print → Type 0
IsMore before after = (more : List Print) × (after ≡ before ++ more)
