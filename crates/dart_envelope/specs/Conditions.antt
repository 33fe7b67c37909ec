-- What boards may be made of, and what they keep.
use Rattle.std.specs.Prelude.{◌≡◌, ℕ, ◌*◌, ◌^◌, ◌≤◌, ◌<◌, ◌↔◌, List, length, sum, drop, slice_index, slice_index_or, Option, Some, None, IfSome, Any}
use Rattle.walk_model.specs.Dart.{main_area, area}
use Rattle.alias_table.specs.Columns.{IsRow}
use Rattle.factor_table.specs.Factors.{greatest_of}
use Rattle.dart_envelope.specs.ClassBoards.{ClassBoard, height, low, rise, frame}

-- each known class has a factor
abbrev pub HaveFactors : List (Option ℕ) → ℕ → Type 0
HaveFactors known count = (edge : ℕ) → edge < length known → IfSome (slice_index_or known edge None) (λ class. class < count)

-- the factor of class 0 lies above those of all other classes
abbrev pub Rises : List ℕ → Type 0
Rises factors = greatest_of (drop 1 factors) < slice_index factors 0

-- a run of places in the row, where another class has a factor; and where the factor of class 0 rises,
-- the edges of the run, and no others, are known to have that class
pub record IsReturnRun (count : ℕ) (factors : List ℕ) (known : List (Option ℕ)) (run : ℕ × ℕ) : Type 0 where
  pub classes : 2 ≤ count
  pub order : run.0 ≤ run.1
  pub within : run.1 ≤ length known
  pub edges : Rises factors → (edge : ℕ) → edge < length known
      → (slice_index_or known edge None ≡ Some 0) ↔ ((run.0 ≤ edge) × (edge < run.1))
  pub other : Any (λ factor. 1 ≤ factor) (drop 1 factors)

-- the parts of a board fit together
pub record IsBoard (count : ℕ) (b : ClassBoard) : Type 0 where
  pub row : IsRow b.weights
  pub classes : length b.factors ≡ count
  pub long : length b.known ≡ length b.weights
  pub known : HaveFactors b.known count
  pub fits : length b.weights * sum b.weights * greatest_of b.factors ≤ 2 ^ 62
  pub run : IfSome b.back (IsReturnRun count b.factors b.known)
  pub high : 1 ≤ height b

-- a board of so many classes, and the numbers that it keeps
pub record IsMade (count : ℕ) (b : ClassBoard) (above least lift main places : ℕ) : Type 0 where
  pub board : IsBoard count b
  pub above_is : above ≡ height b
  pub least_is : least ≡ low b
  pub lift_is : lift ≡ rise b.back b.factors (height b)
  pub main_is : main ≡ main_area (frame b)
  pub places_is : places ≡ area (frame b)
