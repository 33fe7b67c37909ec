-- Histories of a world: what happens in its parts, and what is carried between them, one thing after another.
use Rattle.std.specs.Prelude.{ℕ, zero, suc, ◌==◌, if◌then◌else◌, List, [], ◌∷◌, ◌++◌, Option, Some, None}
use Rattle.walk_model.specs.declared.messages.Letter.{Letter}
use Rattle.walk_model.specs.declared.results.Print.{Print}
use Rattle.walk_model.specs.Prints.{prints_from}
use Rattle.traveller.specs.PartedRuns.{PartedRun, walk_in}
use Rattle.traveller.specs.Walkers.{Walker, first_walker}
use Rattle.traveller.specs.Ahead.{print_of}
use Rattle.world_law.specs.Items.{Item}
use Rattle.world_law.specs.Worlds.{Piece, Resident, Printed, Comes, Goes, Same}
use Rattle.world_law.specs.Events.{Event, May, taken_by, given_by, letter_in}

-- an event of a part, or an item that was given out is carried to where it comes
pub data Happening : Type 0 where
  InPart : (part : ℕ) (e : Event) → Happening
  Carries : (i : Item) → Happening

abbrev pub CanHappen : PartedRun → Happening → Type 0
CanHappen g (InPart k e) = May g k e
CanHappen g (Carries i) = Unit {0}

abbrev pub pieces_taken : Happening → List Piece
pieces_taken (InPart k e) = taken_by k e
pieces_taken (Carries i) = Goes i ∷ []

abbrev pub pieces_given : PartedRun → Happening → List Piece
pieces_given g (InPart k e) = given_by g k e
pieces_given g (Carries i) = Comes i ∷ []

abbrev pub letter_taken : Happening → Option Letter
letter_taken (InPart k e) = letter_in e
letter_taken (Carries i) = None

-- a history leads from some pieces to others
unfoldable pub Unrolls : PartedRun → List Happening → List Piece → List Piece → Type 0
Unrolls g [] before after = Same before after
Unrolls g (e ∷ es) before after = (others : List Piece)
    × CanHappen g e × Same before (pieces_taken e ++ others) × Unrolls g es (pieces_given g e ++ others) after

-- the letters of walker i that are taken in, in order
abbrev pub letter_for : ℕ → Option Letter → List Letter
letter_for i None = []
letter_for i (Some l) = if l.walker == i then l ∷ [] else []

unfoldable pub letters_taken : ℕ → List Happening → List Letter
letters_taken i [] = []
letters_taken i (e ∷ es) = letter_for i (letter_taken e) ++ letters_taken i es

-- the first n walkers at their starts, each with the owner of its start, and with the print of step 0
abbrev pub starter : PartedRun → ℕ → Walker
starter g n = first_walker n (g.start n) g.plan.length

unfoldable pub starters : PartedRun → ℕ → List Piece
starters g zero = []
starters g (suc n) =
    Resident (g.owner (g.start n)) (starter g n) ∷ Printed (g.owner (g.start n)) (print_of (starter g n)) ∷ starters g n

-- the pieces of a world in which no walker has made a step
abbrev pub begin_pieces : PartedRun → List Piece
begin_pieces g = starters g g.walkers

-- the prints of the first n walks
unfoldable pub walk_prints : PartedRun → ℕ → List Print
walk_prints g zero = []
walk_prints g (suc n) = walk_prints g n ++ prints_from n 0 (walk_in g n)
