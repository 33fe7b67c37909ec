-- What a walker can come to by its darts, and by a reply.
use Rattle.std.specs.Prelude.{◌≡◌, ℕ, ◌+◌, ◌≤◌, ◌<◌, length, Some, ⊤}
use Rattle.walk_model.specs.declared.states.State.{State}
use Rattle.walk_model.specs.Letters.{Journey}
use Rattle.traveller.specs.declared.modes.Mode.{Mode}
use Rattle.traveller.specs.declared.modes.Mode.TheVariants.{Darts, Asked, AskedRow, Chosen, Over}
use Rattle.traveller.specs.Turns.{row_at, board_at, asker_at, edge_question, row_question}

-- by so many darts, all of them up to a place, and a scan: an edge of the row is chosen, the question of a
-- dart or of the scan has to be asked, or the walk ends
abbrev pub IsDecided : Journey → State → ℕ → ℕ → Mode → Type 0
IsDecided j s n most (Chosen edge place) = (edge < length (row_at j s)) × (place ≤ most + 64)
IsDecided j s n most (Asked left place question) =
    (0 < length (row_at j s)) × (left < n) × (place + left + 1 ≤ most)
    × (edge_question (asker_at j s) (board_at j s) (j.course.words place) ≡ Some question)
IsDecided j s n most (AskedRow place question) =
    (0 < length (row_at j s)) × (place ≤ most) × (row_question (asker_at j s) ≡ Some question)
IsDecided j s n most Over = ⊤
IsDecided j s n most _ = ⊥

-- by a reply: the darts that are left go on up to a place, or an edge of so many is chosen
abbrev pub GoesOn : ℕ → ℕ → ℕ → Mode → Type 0
GoesOn count n most (Darts left place) = (left ≤ n) × (place + left ≤ most)
GoesOn count n most (Chosen edge place) = (edge < count) × (place ≤ most + 64)
GoesOn count n most _ = ⊥
