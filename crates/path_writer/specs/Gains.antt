-- What a sink has gained in a call.
use Rattle.std.specs.Prelude.{ℕ, ◌≡◌, List, ◌++◌, Option}
use Rattle.std.specs.Io.KnownBytes.{append_known}

-- a sink has gained bytes from the front of a text
pub record GainsFront (old new : Option (List ℕ)) (text : List ℕ) : Type 0 where
  pub front : List ℕ
  pub rest : List ℕ
  pub is : text ≡ front ++ rest
  pub gained : new ≡ append_known old front

-- a sink has gained a text but for its end, which still waits
pub record GainsBut (old new : Option (List ℕ)) (text waiting : List ℕ) : Type 0 where
  pub front : List ℕ
  pub is : text ≡ front ++ waiting
  pub gained : new ≡ append_known old front
