-- Pieces are items of the row.
use Rattle.std.proofs.Common.{ℕ, ◌*◌, ◌/◌, ◌<◌, List, length, sum, refl}
use Rattle.walk_model.specs.Alias.{piece, own, filler}
use Rattle.alias_table.specs.Columns.{IsRow}
use Rattle.alias_table.proofs.TableLemmas.{sum-some, pick-column, pick-either-within}

-- the piece of a place is one of the items
pub piece-within : (ws : List ℕ) (u : ℕ) → IsRow ws → u < length ws * sum ws → piece ws u < length ws
unfolding piece
piece-within ws u row h =
    pick-either-within ws u (sum ws) (own ws (u / sum ws)) (filler ws (u / sum ws)) refl (sum-some ws row)
    (pick-column ws u (sum ws) refl h) (record { part_is = refl; other_is = λ room. refl })
