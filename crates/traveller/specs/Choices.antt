-- Rows that a step can choose from.
use Rattle.std.specs.Prelude.{◌≡◌, ℕ, ◌*◌, ◌^◌, ◌≤◌, List, length, sum, Option, IfSome}
use Rattle.factor_table.specs.Factors.{greatest_of}
use Rattle.dart_envelope.specs.ClassBoards.{class_board, Suits}
use Rattle.dart_envelope.specs.Conditions.{HaveFactors, IsReturnRun}

-- the weights of a row, the factors by class, the classes that are known, all classes, and the run of
-- the return edges fit together: a board can be made of them, and the classes suit it
pub record IsChoice (count : ℕ) (weights factors : List ℕ) (known : List (Option ℕ)) (classes : List ℕ) (back : Option (ℕ × ℕ)) : Type 0 where
  pub sized : length factors ≡ count
  pub long : length known ≡ length weights
  pub classed : HaveFactors known count
  pub fits : length weights * sum weights * greatest_of factors ≤ 2 ^ 62
  pub run : IfSome back (IsReturnRun count factors known)
  pub suits : Suits (class_board weights factors known back) classes
