-- Walkers of a part that make their turns.
use Rattle.std.specs.Prelude.{ℕ, ◌==◌, if◌then◌else◌, List, [], ◌∷◌, ◌++◌, map}
use Rattle.std.specs.List.{flat_map}
use Rattle.walk_model.specs.declared.messages.Question.{Question}
use Rattle.walk_model.specs.declared.results.Print.{Print}
use Rattle.walk_model.specs.Cuts.{owner}
use Rattle.vertex_partition.specs.PartViews.{PartView}
use Rattle.traveller.specs.declared.modes.Mode.{Mode}
use Rattle.traveller.specs.declared.modes.Mode.TheVariants.{Fresh, Asked, AskedRow}
use Rattle.traveller.specs.Walkers.{Walker, asked_vertex, ask_with}
use Rattle.world_law.specs.Items.{Travels, Asks}
use Rattle.world_law.specs.Worlds.{Piece, Resident, Printed, Goes}
use Rattle.shard_core.specs.declared.leaving.Left.{Left}
use Rattle.shard_core.specs.SoundWorlds.{flight_of}

-- a walker after a turn as pieces, beside the print that it left
abbrev pub ask_pieces : (ℕ → ℕ) → ℕ → Walker → Question → List Piece
ask_pieces owner_of k w q = Resident k w ∷ Goes (Asks (ask_with owner_of w q) (owner_of (asked_vertex q))) ∷ []

abbrev pub turned_by : (ℕ → ℕ) → ℕ → Walker → Mode → List Piece
turned_by owner_of k w Fresh =
    (if k == owner_of w.state.at then Resident k w else Goes (Travels w k (owner_of w.state.at))) ∷ []
turned_by owner_of k w (Asked left place q) = ask_pieces owner_of k w q
turned_by owner_of k w (AskedRow place q) = ask_pieces owner_of k w q
turned_by owner_of k w _ = Resident k w ∷ []

abbrev pub turned_pieces : PartView → List Walker → List Piece
turned_pieces p ws = flat_map (λ w. turned_by (owner p.cuts) p.part w w.mode) ws

-- the pieces that turns have in hand: walkers that can go on, what other turns left, and prints
unfoldable pub at_hand : PartView → List Walker → Left → List Print → List Piece
at_hand p ready l prints =
    map (Resident p.part) ready
    ++ (map (Resident p.part) l.waiting.items
    ++ (map (Resident p.part) l.ended.items ++ (map Goes (flight_of l.out.items) ++ map (Printed p.part) prints)))
