-- In what proportion the darts of a step take the edges of its row.
use Rattle.std.specs.Prelude.{◌≡◌, ℕ, ◌*◌, ◌/◌, ◌^◌, ◌<◌, length, slice_index}
use Rattle.walk_model.specs.Counts.{count_below}
use Rattle.walk_model.specs.Dart.{Board, area, hit}
use Rattle.dart_envelope.specs.Hits.{is_edge}

-- of all words of 64 bits each edge is hit by its weight times its factor for each column, in each
-- whole round of the board's places
abbrev pub HasFairDarts : Board → Type 0
HasFairDarts b = (edge : ℕ) → edge < length b.weights
    → count_below (2 ^ 64) (λ w. is_edge edge (hit b w))
    ≡ 2 ^ 64 / area b * (length b.weights * slice_index b.weights edge * slice_index b.factors edge)
