-- The classes of a row's edges by the destinations of the row and of the previous vertex's row.
use Rattle.std.specs.Prelude.{ℕ, ◌+◌, ◌==◌, nat_lt, Bool, if◌then◌else◌, List, Option, Some, map, drop, slice_index}
use Rattle.std.specs.List.{list_any}
use Rattle.walk_model.specs.Dart.{ends_below, ends_at}
use Rattle.factor_table.specs.Factors.{greatest_of}
use Rattle.node2vec_walk.specs.Nearness.{class_to, known_to}

-- a vertex is among some destinations
abbrev pub is_among : List ℕ → ℕ → Bool
is_among dsts x = list_any (λ d. d == x) dsts

-- the classes of edges to some destinations after a step from t, which has edges to `before`
abbrev pub classes_to : List ℕ → ℕ → List ℕ → List ℕ
classes_to before t dsts = map (λ x. class_to x t (is_among before x)) dsts

-- what is known of these classes without asking
abbrev pub known_of : ℕ → List ℕ → List (Option ℕ)
known_of t dsts = map (λ x. known_to x t) dsts

-- the run of the edges to t in a row: the place of the first, or of the first edge behind where there is
-- none, and the place behind the last
abbrev pub run_to : ℕ → List ℕ → ℕ × ℕ
run_to t dsts = (ends_below (Some t) dsts, ends_below (Some t) dsts + ends_at (Some t) dsts)

-- the factor of class 0 rises above the others
abbrev pub rises : List ℕ → Bool
rises fs = nat_lt (greatest_of (drop 1 fs)) (slice_index fs 0)

-- the run of the return edges that a board has a strip for: none where their factor doesn't rise
abbrev pub strip_run : List ℕ → List ℕ → ℕ → ℕ × ℕ
strip_run fs dsts t = if rises fs then run_to t dsts else (0, 0)
