-- Travellers of one part that go abreast.
use Rattle.std.specs.Prelude.{◌≡◌, ℕ, zero, suc, ◌-◌, ◌<◌, ◌⊎◌, true, if◌then◌else◌, List, [], ◌∷◌, ◌++◌, length, slice_index_or, sum_by}
use Rattle.walk_model.specs.declared.results.Print.{Print}
use Rattle.walk_model.specs.Cuts.{owner}
use Rattle.walk_model.specs.Prints.{prints_from}
use Rattle.csr_store.specs.RowGraph.{RowGraph}
use Rattle.vertex_partition.specs.PartViews.{PartView, IsPartOf}
use Rattle.traveller.specs.declared.modes.Mode.TheVariants.{Fresh}
use Rattle.traveller.specs.declared.runs.Run.{Run}
use Rattle.traveller.specs.Ahead.{left_print, prints_ahead}
use Rattle.traveller.specs.Deciding.{decided, gone}
use Rattle.traveller.specs.PartedRuns.{PartedRun, walk_in}
use Rattle.traveller.specs.Standing.{CanGo, IsWithin, StandsIn, journey_on, parted}
use Rattle.traveller.specs.Turns.{turned}
use Rattle.traveller.specs.Walkers.{Walker, is_fresh, is_over, is_ready}

-- a part owns all vertices
abbrev pub OwnsAll : PartView → Type 0
OwnsAll p = (v : ℕ) → v < p.vertices → owner p.cuts v ≡ p.part

-- a walker that stands in a run and a part, and can go on by itself
pub record IsReadyIn (run : Run) (p : PartView) (w : Walker) : Type 0 where
  pub stands : StandsIn run p w
  pub ready : is_ready w.mode ≡ true

-- a walker that stands at the beginning of a step
pub record IsOnWay (run : Run) (p : PartView) (w : Walker) : Type 0 where
  pub stands : StandsIn run p w
  pub fresh : w.mode ≡ Fresh

-- one that does, or is at the end of its walk
abbrev pub IsBetween : Run → PartView → Walker → Type 0
IsBetween run p w = (is_over w.mode ≡ true) ⊎ IsOnWay run p w

-- a walker decides its step
pub record Decides (run : Run) (p : PartView) (old new : Walker) : Type 0 where
  pub data_is : (g : RowGraph) → IsPartOf g p → new ≡ decided (journey_on g run p.cuts old) old
  pub number : new.number ≡ old.number
  pub start : new.start ≡ old.start
  pub within : IsWithin p.vertices new
  pub goes : CanGo p new new.mode
  pub stands : owner p.cuts new.state.at ≡ p.part → StandsIn run p new

-- a walker stands in a graph, and at a vertex of the part if it has chosen an edge
pub record CanGoFrom (p : PartView) (w : Walker) : Type 0 where
  pub within : IsWithin p.vertices w
  pub goes : CanGo p w w.mode

-- a walker goes along the edge that it has chosen
pub record Goes (run : Run) (p : PartView) (old new : Walker) : Type 0 where
  pub data_is : (g : RowGraph) → IsPartOf g p → new ≡ gone (journey_on g run p.cuts old) old
  pub within : IsWithin p.vertices new
  pub stands : (owner p.cuts old.state.at ≡ p.part → StandsIn run p old) → owner p.cuts new.state.at ≡ p.part → StandsIn run p new

-- a walker makes a turn
pub record Turns (run : Run) (p : PartView) (old new : Walker) : Type 0 where
  pub data_is : (g : RowGraph) → IsPartOf g p → new ≡ turned (journey_on g run p.cuts old) old old.mode
  pub within : IsWithin p.vertices new
  pub stands : owner p.cuts new.state.at ≡ p.part → StandsIn run p new

-- each walker of a list becomes the one at its place in another
abbrev pub EachBecomes : (Walker → Walker → Type 0) → List Walker → List Walker → Type 0
EachBecomes R olds news =
    (length news ≡ length olds) × ((k : ℕ) (d : Walker) → k < length olds → R (slice_index_or olds k d) (slice_index_or news k d))

-- the prints that the last turns of walkers left
unfoldable pub turn_prints : List Walker → List Print
turn_prints [] = []
turn_prints (w ∷ ws) = left_print w ++ turn_prints ws

-- what the prints that a walker will still leave weigh together, whatever each print weighs
abbrev pub heft : (Print → ℕ) → RowGraph → Run → PartView → Walker → ℕ
heft h g run p w = sum_by h (prints_ahead (journey_on g run p.cuts w).course w)

-- the prints of the walks of the first walkers
unfoldable pub first_prints : PartedRun → ℕ → List Print
first_prints g zero = []
first_prints g (suc n) = first_prints g n ++ prints_from n 0 (walk_in g n)

-- what the prints of the first walkers weigh together
abbrev pub first_heft : (Print → ℕ) → RowGraph → Run → PartView → ℕ → ℕ
first_heft h g run p n = sum_by h (first_prints (parted g run p.cuts) n)

-- what is left of a walk at most: its turns
abbrev pub turns_left : Walker → ℕ
turns_left w = if is_fresh w.mode then suc (w.length - w.state.steps) else 0
