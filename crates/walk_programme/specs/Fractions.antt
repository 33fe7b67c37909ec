-- Fractions in texts.
use Rattle.std.specs.Prelude.{ℕ, zero, suc, ◌+◌, ◌*◌, ◌/◌, ◌%◌, ◌^◌, ◌==◌, nat_le, Bool, ◌&&◌, if◌then◌else◌, List, length, Option, Some, None, option_map, option_and_then}
use Rattle.std.specs.List.{before_first, after_first}
use Rattle.std.specs.Str.{all_ascii_digits}
use Rattle.walk_model.specs.Digits.{continued}
use Rattle.walk_model.specs.Ratio.{Ratio}

-- the value, if it passes a test
abbrev pub such_that : {X : Type 0} → (X → Bool) → Option X → Option X
such_that test None = None
such_that test (Some x) = if test x then Some x else None

-- the greatest number up to n that divides both a and b
unfoldable pub divisor_up_to : ℕ → ℕ → ℕ → ℕ
divisor_up_to zero a b = 1
divisor_up_to (suc n) a b = if a % suc n == 0 && b % suc n == 0 then suc n else divisor_up_to n a b

-- a ratio with top and bottom divided by a number
abbrev pub divided : ℕ → ℕ → ℕ → Ratio
divided g a b = record { top = a / g; bottom = b / g }

-- top and bottom are each at most 1,000,000
abbrev pub is_small : Ratio → Bool
is_small r = nat_le r.top 1000000 && nat_le r.bottom 1000000

-- a over b in lowest terms, if these are small; b isn't 0
unfoldable pub reduced : ℕ → ℕ → Option Ratio
reduced a b = such_that is_small (Some (divided (divisor_up_to b a b) a b))

-- one to so many digits
abbrev pub is_number : ℕ → List ℕ → Bool
is_number most ds = (nat_le 1 (length ds) && nat_le (length ds) most) && all_ascii_digits ds

-- the number that one to so many digits write
unfoldable pub number : ℕ → List ℕ → Option ℕ
number most ds = if is_number most ds then Some (continued 0 ds) else None

-- two numbers of one to seven digits, the second not 0, as top and bottom
abbrev pub quotient : List ℕ → List ℕ → Option (ℕ × ℕ)
quotient top bottom =
    option_and_then (λ a. option_map (λ b. (a, b)) (such_that (nat_le 1) (number 7 bottom))) (number 7 top)

-- one to seven digits and one to six digits behind the point: all of them over the power of ten
abbrev pub decimal : List ℕ → List ℕ → Option (ℕ × ℕ)
decimal front back =
    option_and_then (λ a. option_map (λ b. (a * 10 ^ length back + b, 10 ^ length back)) (number 6 back)) (number 7 front)

-- the first of two values that is there
abbrev pub or_else : {X : Type 0} → Option X → Option X → Option X
or_else None later = later
or_else (Some x) later = Some x

-- the top and bottom that a text writes: a whole number, two numbers with a slash between them,
-- or digits with a point between them
unfoldable pub written : List ℕ → Option (ℕ × ℕ)
written text =
    or_else (option_map (λ n. (n, 1)) (number 7 text))
    (or_else (quotient (before_first (λ b. b == 47) text) (after_first (λ b. b == 47) text))
    (decimal (before_first (λ b. b == 46) text) (after_first (λ b. b == 46) text)))

-- the fraction that a text writes
abbrev pub fraction_of : List ℕ → Option Ratio
fraction_of text = option_and_then (λ r. reduced r.0 r.1) (written text)
