-- What a comparison of two numbers of a width tells.
use Rattle.std.proofs.Common.{◌≡◌, ℕ, ◌<◌, ◌≤◌, ◌↔◌, Bool, false, IsTrue, inl, inr}
use Rattle.std.proofs.lemmas.Bool.{cases_lt}

-- a comparison that fails tells the other way round
pub exceeds-not : (answer : Bool) (x y : ℕ) → (IsTrue answer ↔ (x < y)) → answer ≡ false → y ≤ x
exceeds-not answer x y told fails =
    elim (cases_lt x y) [
      | inl less ↦ absurd (never answer fails (told.1 less))
      | inr more ↦ more
    ]
  where
    never : (answer : Bool) → answer ≡ false → IsTrue answer → ⊥
    never answer fails holds = cc
