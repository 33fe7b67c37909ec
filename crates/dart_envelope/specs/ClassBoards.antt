-- Boards of rows whose edges have their factors by class.
use Rattle.std.specs.Prelude.{◌≡◌, ℕ, ◌-◌, ◌≤◌, ◌<◌, List, [], length, map, take, drop, slice_index, slice_index_or, Option, Some, None}
use Rattle.factor_table.specs.Factors.{greatest_of, least_of}
use Rattle.walk_model.specs.Dart.{Board}

-- the weights of a row, the factor of each class, the class of each edge where it is known, and,
-- where class 0 is that of the return edges, their run: its first place and the one behind it. Which
-- run matters only where the factor of class 0 rises above the others
pub record ClassBoard : Type 0 where
  pub weights : List ℕ
  pub factors : List ℕ
  pub known : List (Option ℕ)
  pub back : Option (ℕ × ℕ)

-- the board of these parts
abbrev pub class_board : List ℕ → List ℕ → List (Option ℕ) → Option (ℕ × ℕ) → ClassBoard
class_board weights factors known back = record { weights = weights; factors = factors; known = known; back = back }

-- the first class that isn't the return class
abbrev pub first_other : Option (ℕ × ℕ) → ℕ
first_other None = 0
first_other (Some run) = 1

-- the factors of the classes other than the return class
abbrev pub other_factors : ClassBoard → List ℕ
other_factors b = drop (first_other b.back) b.factors

-- the height of the main part: the greatest factor but that of the return class
abbrev pub height : ClassBoard → ℕ
height b = greatest_of (other_factors b)

-- up to here an edge is taken whatever its class: the least factor but that of the return class
abbrev pub low : ClassBoard → ℕ
low b = least_of (other_factors b)

-- how far the return class's factor rises above the main part
abbrev pub rise : Option (ℕ × ℕ) → List ℕ → ℕ → ℕ
rise None factors height = 0
rise (Some run) factors height = slice_index factors 0 - height

-- where the run of the return edges begins, and how many they are
abbrev pub run_from : Option (ℕ × ℕ) → ℕ
run_from None = 0
run_from (Some run) = run.0

abbrev pub run_count : Option (ℕ × ℕ) → ℕ
run_count None = 0
run_count (Some run) = run.1 - run.0

-- the weights of the return edges
abbrev pub run_weights : Option (ℕ × ℕ) → List ℕ → List ℕ
run_weights back weights = take (run_count back) (drop (run_from back) weights)

-- the board of the row where its edges have these classes
abbrev pub board_by : ClassBoard → List ℕ → Board
board_by b classes = record {
  weights = b.weights;
  factors = map (slice_index b.factors) classes;
  height = height b;
  lift = rise b.back b.factors (height b);
  back_from = run_from b.back;
  back_count = run_count b.back;
}

-- the places of the board, which depend on no edge's class
abbrev pub frame : ClassBoard → Board
frame b = board_by b []

-- the class of an edge where it is known
abbrev pub known_at : ClassBoard → ℕ → Option ℕ
known_at b edge = slice_index_or b.known edge None

-- a class that an edge may have: the known one, or else any but the return class
abbrev pub MayHave : Option ℕ → ℕ → ℕ → Type 0
MayHave (Some known) first class = class ≡ known
MayHave None first class = first ≤ class

-- a list of classes that the edges of the board may have
pub record Suits (b : ClassBoard) (classes : List ℕ) : Type 0 where
  pub long : length classes ≡ length b.weights
  pub below : (edge : ℕ) → edge < length b.weights → slice_index classes edge < length b.factors
  pub may : (edge : ℕ) → edge < length b.weights → MayHave (known_at b edge) (first_other b.back) (slice_index classes edge)
