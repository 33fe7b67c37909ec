-- How many places a board has.
use Rattle.std.proofs.Common.{◌≡◌, ℕ, zero, suc, ◌+◌, ◌-◌, ◌*◌, ◌/◌, ◌^◌, ◌<◌, ◌≤◌, List, [], ◌∷◌, length, get_or, drop, sum, refl, arith, Some, None}
use Rattle.std.specs.Prelude.{Option, IfSome, unwrap_or}
use Rattle.std.proofs.lemmas.List.Sums.{sum_by-cons}
use Rattle.std.proofs.Math.Nat.{mul-le-mul_left, mul-le-mul_right, one-le-mul, div-lt_iff_lt-mul}
use Rattle.walk_model.specs.Dart.{area}
use Rattle.walk_model.proofs.BoardLemmas.{sum-stretch-le, area-le}
use Rattle.alias_table.specs.Columns.{IsRow}
use Rattle.factor_table.specs.Factors.{greatest_of}
use Rattle.factor_table.proofs.FactorLaws.{greatest-above, greatest-bound_from}
use Rattle.dart_envelope.specs.ClassBoards.{ClassBoard, first_other, height, rise, run_from, run_count, run_weights, frame}
use Rattle.dart_envelope.specs.Conditions.{IsBoard, IsReturnRun}

-- a row weighs something
pub row-some : (ws : List ℕ) → IsRow ws → 1 ≤ sum ws
row-some [] row = absurd (let some = row.some in omega arith)
row-some (w ∷ ws) row =
    let first : 1 ≤ w = (row.weights 0 0 (omega arith)).0 in
    let whole : sum (w ∷ ws) ≡ w + sum ws = sum_by-cons (λ x. x) w ws in
    omega arith

-- the greatest factor of the later classes isn't above that of all
pub greatest-later : (fs : List ℕ) (first : ℕ) → greatest_of (drop first fs) ≤ greatest_of fs
greatest-later fs first = greatest-bound_from fs first (greatest_of fs) (greatest-above fs)

-- the board rises no higher than the greatest factor
pub rise-within : (back : Option (ℕ × ℕ)) (fs : List ℕ) → IfSome back (λ run. 1 ≤ length fs)
    → greatest_of (drop (first_other back) fs) + rise back fs (greatest_of (drop (first_other back) fs)) ≤ greatest_of fs
rise-within None fs some = let later = greatest-later fs 0 in omega (arith, later)
rise-within (Some run) fs some =
    let later = greatest-later fs 1 in
    let first : get_or fs 0 0 ≤ greatest_of fs = greatest-above fs 0 0 some in
    omega (arith, later, first)

-- the parts of a row within the bound of its places
pub parts-within : (n w h g bound : ℕ) → 1 ≤ n → 1 ≤ h → h ≤ g → n * w * g ≤ bound
    → (w ≤ bound) × (n * w ≤ bound) × (n * w * h ≤ bound)
parts-within n w h g bound some high under fits =
    let main : n * w * h ≤ n * w * g = mul-le-mul_left (n * w) under in
    let columns : n * w * 1 ≤ n * w * h = mul-le-mul_left (n * w) high in
    let one : 1 * w ≤ n * w = mul-le-mul_right w some in
    (omega arith, omega arith, omega arith)

-- the places of a board are within its bound
pub area-within : (count : ℕ) (b : ClassBoard) → IsBoard count b → IfSome b.back (λ run. 1 ≤ length b.factors)
    → area (frame b) ≤ 2 ^ 62
area-within count b board some =
    area-le (length b.weights) (sum b.weights) (sum (run_weights b.back b.weights)) (height b) (rise b.back b.factors (height b)) (2 ^ 62)
    (sum-stretch-le b.weights (run_from b.back) (run_count b.back))
    (let fits = board.fits in
    let under = mul-le-mul_left (length b.weights * sum b.weights) (rise-within b.back b.factors some) in
    omega (arith, under, fits))

-- a board with a return class has a factor of it
pub has-factor : (count : ℕ) (b : ClassBoard) → IsBoard count b → IfSome b.back (λ run. 1 ≤ length b.factors)
has-factor count b board = cases b.back board.run
  where
    cases : (back : Option (ℕ × ℕ)) → IfSome back (IsReturnRun count b.factors b.known) → IfSome back (λ run. 1 ≤ length b.factors)
    cases None h = h
    cases (Some run) h = let long = h.classes in let is = board.classes in omega arith

pub area-bound : (count : ℕ) (b : ClassBoard) → IsBoard count b → area (frame b) ≤ 2 ^ 62
area-bound count b board = area-within count b board (has-factor count b board)

-- and there is one at least
pub area-some : (count : ℕ) (b : ClassBoard) → IsBoard count b → 1 ≤ area (frame b)
area-some count b board =
    let columns = one-le-mul board.row.some (row-some b.weights board.row) in
    let main = one-le-mul columns board.high in
    omega (arith, main)

-- a place of so many rounds lies in one of them
pub div-below : (x n h : ℕ) → 1 ≤ h → x < n * h → x / h < n
div-below x n h some below = (div-lt_iff_lt-mul {k = h} {x = x} {y = n} some).1 below

-- the place in the run of a place of the strip
pub strip-place : (n s l x m : ℕ) → m ≤ x → x < m + n * s * l → (x - m) / l < n * s
strip-place n s zero x m past within = absurd (omega arith)
strip-place n s (suc l) x m past within = div-below (x - m) (n * s) (suc l) (omega arith) (omega arith)

-- a run is that of the board, or none
pub run-is : (back : Option (ℕ × ℕ)) (run : ℕ × ℕ) → run ≡ unwrap_or back (0, 0)
    → (run.0 ≡ run_from back) × (run.1 - run.0 ≡ run_count back)
run-is None run is = rw is (refl, refl)
run-is (Some there) run is = rw is (refl, refl)

-- the columns of a run are within the bound
pub run-within : (count : ℕ) (b : ClassBoard) → IsBoard count b → length b.weights * sum (run_weights b.back b.weights) ≤ 2 ^ 62
run-within count b board =
    let under = greatest-later b.factors (first_other b.back) in
    let parts = parts-within (length b.weights) (sum b.weights) (height b) (greatest_of b.factors) (2 ^ 62) board.row.some board.high under board.fits in
    let run = mul-le-mul_left (length b.weights) (sum-stretch-le b.weights (run_from b.back) (run_count b.back)) in
    omega (arith, parts.1, run)

-- the strip is within the bound
pub strip-within : (ws : List ℕ) (back : Option (ℕ × ℕ)) (h l g : ℕ) → h + l ≤ g → length ws * sum ws * g ≤ 2 ^ 62
    → length ws * sum ws * h + length ws * sum (run_weights back ws) * l ≤ 2 ^ 62
strip-within ws back h l g under fits =
    let high = mul-le-mul_left (length ws * sum ws) under in
    area-le (length ws) (sum ws) (sum (run_weights back ws)) h l (2 ^ 62)
    (sum-stretch-le ws (run_from back) (run_count back)) (omega (arith, high, fits))
