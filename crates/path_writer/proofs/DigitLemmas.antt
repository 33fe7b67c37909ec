-- How many digits a number has.
use Rattle.std.proofs.Common.{◌≡◌, ℕ, suc, ◌+◌, ◌/◌, ◌%◌, ◌^◌, ◌<◌, ◌≤◌, List, [], ◌∷◌, ◌++◌, length, take, drop, refl, ap, sym, ◌∙◌, add-one, length-append, arith}
use Rattle.std.proofs.lemmas.Fmt.{decimal_digit, decimal_step}
use Rattle.std.specs.Fmt.{decimal}
use Rattle.path_writer.proofs.GainLemmas.{take-more}

-- one digit more than a tenth of it
length-step : (n : ℕ) → 10 ≤ n → n < 2 ^ 64 → length (decimal n) ≡ suc (length (decimal (n / 10)))
length-step n lo hi = ap length (decimal_step n lo hi) ∙ length-append (decimal (n / 10)) ((48 + n % 10) ∷ []) ∙ add-one (length (decimal (n / 10)))

pub digits-1 : (n : ℕ) → n < 10 → length (decimal n) ≡ 1
digits-1 n h = ap length (decimal_digit n h)

pub digits-2 : (n : ℕ) → 10 ≤ n → n < 100 → length (decimal n) ≡ 2
digits-2 n lo hi = length-step n (omega arith) (omega arith) ∙ ap suc (digits-1 (n / 10) (omega arith))

pub digits-3 : (n : ℕ) → 100 ≤ n → n < 1000 → length (decimal n) ≡ 3
digits-3 n lo hi = length-step n (omega arith) (omega arith) ∙ ap suc (digits-2 (n / 10) (omega arith) (omega arith))

pub digits-4 : (n : ℕ) → 1000 ≤ n → n < 10000 → length (decimal n) ≡ 4
digits-4 n lo hi = length-step n (omega arith) (omega arith) ∙ ap suc (digits-3 (n / 10) (omega arith) (omega arith))

pub digits-5 : (n : ℕ) → 10000 ≤ n → n < 100000 → length (decimal n) ≡ 5
digits-5 n lo hi = length-step n (omega arith) (omega arith) ∙ ap suc (digits-4 (n / 10) (omega arith) (omega arith))

pub digits-6 : (n : ℕ) → 100000 ≤ n → n < 1000000 → length (decimal n) ≡ 6
digits-6 n lo hi = length-step n (omega arith) (omega arith) ∙ ap suc (digits-5 (n / 10) (omega arith) (omega arith))

pub digits-7 : (n : ℕ) → 1000000 ≤ n → n < 10000000 → length (decimal n) ≡ 7
digits-7 n lo hi = length-step n (omega arith) (omega arith) ∙ ap suc (digits-6 (n / 10) (omega arith) (omega arith))

pub digits-8 : (n : ℕ) → 10000000 ≤ n → n < 100000000 → length (decimal n) ≡ 8
digits-8 n lo hi = length-step n (omega arith) (omega arith) ∙ ap suc (digits-7 (n / 10) (omega arith) (omega arith))

pub digits-9 : (n : ℕ) → 100000000 ≤ n → n < 1000000000 → length (decimal n) ≡ 9
digits-9 n lo hi = length-step n (omega arith) (omega arith) ∙ ap suc (digits-8 (n / 10) (omega arith) (omega arith))

pub digits-10 : (n : ℕ) → 1000000000 ≤ n → n < 10000000000 → length (decimal n) ≡ 10
digits-10 n lo hi = length-step n (omega arith) (omega arith) ∙ ap suc (digits-9 (n / 10) (omega arith) (omega arith))

pub ruleset digit_counts = (digits-1, digits-2, digits-3, digits-4, digits-5, digits-6, digits-7, digits-8, digits-9, digits-10)

take-front : (xs ys : List ℕ) → take (length xs) (xs ++ ys) ≡ xs
take-front [] ys = refl
take-front (x ∷ xs) ys = ap (λ l. x ∷ l) (take-front xs ys)

-- what is kept, and digits behind it
pub kept-digits : (old new digits rest : List ℕ) (start end : ℕ) → start + length digits ≡ end → drop start new ≡ digits ++ rest
    → take start new ≡ take start old → take end new ≡ take start old ++ digits
kept-digits old new digits rest start end e written before =
    sym (take-more start (length digits) end new (sym e)) ∙ ap (λ l. take start new ++ take (length digits) l) written
    ∙ ap (λ l. take start new ++ l) (take-front digits rest) ∙ ap (λ l. l ++ digits) before
