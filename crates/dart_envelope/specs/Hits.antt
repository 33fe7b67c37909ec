-- How many words hit each edge, and how many numbers a scan finds it by.
use Rattle.std.specs.Prelude.{◌≡◌, ℕ, ◌*◌, ◌/◌, ◌^◌, ◌<◌, ◌==◌, Bool, List, length, slice_index, Option}
use Rattle.walk_model.specs.Counts.{count_below}
use Rattle.walk_model.specs.Dart.{area, hit}
use Rattle.walker_stream.specs.Folds.{passes}
use Rattle.dart_envelope.specs.Scans.{total_of, scan_of}
use Rattle.dart_envelope.specs.ClassBoards.{ClassBoard, board_by, frame, Suits}

-- whether an edge is the one that is taken
abbrev pub is_edge : ℕ → Option ℕ → Bool
is_edge edge taken = passes (λ v. v == edge) taken

-- of the numbers below a total each edge is found by its weight times its factor
abbrev pub HasFairScansOf : List ℕ → List ℕ → ℕ → Type 0
HasFairScansOf weights factors total = (edge : ℕ) → edge < length weights
    → count_below total (λ z. is_edge edge (scan_of weights factors z)) ≡ slice_index weights edge * slice_index factors edge

-- that is so of the total of a scan
abbrev pub HasFairScans : List ℕ → List ℕ → Type 0
HasFairScans weights factors = HasFairScansOf weights factors (total_of weights factors)

-- whatever classes the edges may have, of all words of 64 bits each edge is hit by its weight times
-- the factor of its class for each column, in each whole round of so many places
abbrev pub HasFairHitsOf : ClassBoard → ℕ → Type 0
HasFairHitsOf b places = (classes : List ℕ) → Suits b classes → (edge : ℕ) → edge < length b.weights
    → count_below (2 ^ 64) (λ w. is_edge edge (hit (board_by b classes) w))
    ≡ 2 ^ 64 / places * (length b.weights * slice_index b.weights edge * slice_index b.factors (slice_index classes edge))

-- that is so of the board's places
abbrev pub HasFairHits : ClassBoard → Type 0
HasFairHits b = HasFairHitsOf b (area (frame b))
