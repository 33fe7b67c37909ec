-- Prints in pieces.
use Rattle.std.specs.Prelude.{ℕ, List, Vec}
use Rattle.std.specs.List.{flat_map}
use Rattle.std.specs.declared.alloc.Global.{Global}
use Rattle.walk_model.specs.declared.results.Print.{Print}

-- prints in their order, and for how many more there is room
pub record PrintList : Type 0 where
  pub prints : List Print
  pub room : ℕ

-- the prints of some pieces, one piece after another
abbrev pub all_of : List (Vec Print Global) → List Print
all_of pieces = flat_map (λ piece. piece.items) pieces
