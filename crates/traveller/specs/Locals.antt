-- Steps that ask no other part.
use Rattle.std.specs.Prelude.{ℕ, ◌≤◌, ◌<◌, ◌==◌, if◌then◌else◌, List, length, Option, Some, None, ⊤}
use Rattle.walk_model.specs.declared.graph.Edge.{Edge}
use Rattle.walk_model.specs.declared.programme.Rule.{Rule}
use Rattle.walk_model.specs.declared.programme.Rule.TheVariants.{Plain, Scheme, Node2vec}
use Rattle.walk_model.specs.Dart.{Board, darts}
use Rattle.walk_model.specs.Letters.{Asker}
use Rattle.vertex_partition.specs.PartViews.{PartView, Owns}
use Rattle.traveller.specs.declared.modes.Mode.{Mode}
use Rattle.traveller.specs.declared.modes.Mode.TheVariants.{Chosen, Over}
use Rattle.traveller.specs.Turns.{chosen_or_over, throws}

-- a part has what a step needs to know: under node2vec it owns the vertex before
abbrev pub IsLocal : PartView → Rule → Option ℕ → Type 0
IsLocal p Plain previous = Unit {0}
IsLocal p (Scheme kinds) previous = Unit {0}
IsLocal p (Node2vec a b) None = Unit {0}
IsLocal p (Node2vec a b) (Some t) = Owns p t

-- what so many darts on a board of a row come to where all classes are known
abbrev pub local_mode : ℕ → Board → List Edge → (ℕ → ℕ) → ℕ → Mode
local_mode left b out words place =
    if length out == 0 then Over else chosen_or_over (darts left b words place)

-- an edge that is chosen is one of so many, with a next word up to a place
abbrev pub IsInRow : ℕ → ℕ → Mode → Type 0
IsInRow count most (Chosen edge place) = (edge < count) × (place ≤ most)
IsInRow count most _ = ⊤

-- what so many darts on a board of a row come to, where another part may have to be asked
abbrev pub row_mode : ℕ → Option Asker → Board → List Edge → (ℕ → ℕ) → ℕ → Mode
row_mode left r b out words place = if length out == 0 then Over else throws left r b words place
