-- Numbers of few digits.
use Rattle.std.proofs.Common.{◌≡◌, ℕ, ◌+◌, ◌-◌, ◌*◌, ◌^◌, ◌≤◌, nat_le, true, List, [], ◌∷◌, length, refl, lit<, arith, inl, inr}
use Rattle.std.proofs.Math.Nat.{pow-suc, pow-le-pow_right, mul-le-mul_right}
use Rattle.std.proofs.lemmas.Bool.{cases_Bool, and_parts, leb-true, le-leb}
use Rattle.std.specs.Char.{is_ascii_digit}
use Rattle.std.specs.Result.{result_ok}
use Rattle.std.specs.Str.{all_ascii_digits}
use Rattle.walk_model.specs.Digits.{continued, number_of}
use Rattle.walk_programme.specs.Fractions.{number}

-- a digit stands for at most 9
digit-most : (d : ℕ) → is_ascii_digit d ≡ true → d - 48 ≤ 9
digit-most d h = let (low, high) = and_parts (nat_le 48 d) (nat_le d 57) h in let top = leb-true d 57 high in omega arith

-- a number of so many digits is below the power of ten
pub continued-below : (n : ℕ) (ds : List ℕ) → all_ascii_digits ds ≡ true → continued n ds + 1 ≤ (n + 1) * 10 ^ length ds
unfolding continued
continued-below n [] h = omega arith
continued-below n (d ∷ ds) h =
    let (first, others) = and_parts (is_ascii_digit d) (all_ascii_digits ds) h in
    let small = digit-most d first in
    let rest = continued-below (10 * n + (d - 48)) ds others in
    let step : (10 * n + (d - 48)) + 1 ≤ 10 * (n + 1) = omega arith in
    let wide = mul-le-mul_right (10 ^ length ds) step in
    rw (pow-suc 10 (length ds)) (grind arith)

-- a number of at most seven digits
pub continued-seven : (ds : List ℕ) → all_ascii_digits ds ≡ true → length ds ≤ 7 → continued 0 ds ≤ 9999999
continued-seven ds digits few =
    let below = continued-below 0 ds digits in
    let most : 10 ^ length ds ≤ 10 ^ 7 = pow-le-pow_right (lit< tt) few in
    omega arith

-- the number that few digits write is found with a greatest value of seven digits
pub number-found : (most : ℕ) (ds : List ℕ) → 1 ≤ length ds → length ds ≤ most → most ≤ 7 → result_ok (number_of 9999999 ds) ≡ number most ds
unfolding number number_of
number-found most ds some few seven =
    elim (cases_Bool (all_ascii_digits ds)) [
      | inl digits ↦
          let within = le-leb (continued 0 ds) 9999999 (continued-seven ds digits (omega arith)) in
          rw (digits, within, le-leb 1 (length ds) some, le-leb (length ds) most few) refl
      | inr other ↦ rw (other, le-leb 1 (length ds) some, le-leb (length ds) most few) refl
    ]
