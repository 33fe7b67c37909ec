-- The greatest common divisor as the greatest number that divides two.
use Rattle.std.proofs.Common.{◌≡◌, ◌≢◌, ℕ, zero, suc, ◌%◌, ◌&&◌, ◌==◌, ◌≤◌, ◌<◌, arith, inl, inr}
use Rattle.std.specs.Int.{IsGcd}
use Rattle.std.proofs.lemmas.Bool.{cases_Bool, and_parts, and_from, eqb-true, eq-eqb, both_ways}
use Rattle.std.proofs.lemmas.Nat.Gcd.{le_from_IsGcd, le_of_dvd, dvd_of_mod-eq-zero, mod-eq-zero_of_dvd}
use Rattle.walk_model.proofs.FractionLemmas.{IsGcd-some}
use Rattle.walk_programme.specs.Fractions.{divisor_up_to}

-- the search from a number on downwards finds the greatest common divisor
divisor_up_to-from : (n a b g : ℕ) → 1 ≤ b → IsGcd a b g → g ≤ n → divisor_up_to n a b ≡ g
unfolding divisor_up_to
divisor_up_to-from zero a b g some h low = let above = IsGcd-some a b g some h in absurd (omega arith)
divisor_up_to-from (suc n) a b g some h low =
    let above : 0 < g = IsGcd-some a b g some h in
    elim (cases_Bool (a % suc n == 0 && b % suc n == 0)) [
      | inl both ↦
          let (left, right) = and_parts (a % suc n == 0) (b % suc n == 0) both in
          let most : suc n ≤ g = le_from_IsGcd a b g (suc n) h above
          (dvd_of_mod-eq-zero (suc n) (eqb-true (a % suc n) 0 left)) (dvd_of_mod-eq-zero (suc n) (eqb-true (b % suc n) 0 right)) in
          let same : suc n ≡ g = omega arith in
          rw both same
      | inr other ↦
          let differs : g ≢ suc n = λ same. both_ways (a % suc n == 0 && b % suc n == 0) other
          (and_from (a % suc n == 0) (b % suc n == 0)
          (eq-eqb (a % suc n) 0 (rw (← same) (mod-eq-zero_of_dvd g h.0)))
          (eq-eqb (b % suc n) 0 (rw (← same) (mod-eq-zero_of_dvd g h.1)))) in
          rw other (divisor_up_to-from n a b g some h (omega arith))
    ]

-- and so does the search from one of the two on
pub divisor_up_to-gcd : (a b g : ℕ) → 1 ≤ b → IsGcd a b g → divisor_up_to b a b ≡ g
divisor_up_to-gcd a b g some h = let above : 0 < b = some in divisor_up_to-from b a b g some h (le_of_dvd above h.1)
