-- How many prints of some walks each walker has.
use Rattle.std.proofs.Common.{◌≡◌, ◌<◌, ◌≤◌, ◌+◌, ◌^◌, ◌∷◌, [], ℕ, zero, suc, Bool, true, false, List, length, set, get_or, refl, ap, sym, ◌∙◌, arith}
use Rattle.std.specs.Prelude.{◌-◌, ◌==◌, if◌then◌else◌, min, sum_by}
use Rattle.std.proofs.lemmas.Bool.Decides.{nat_tests}
use Rattle.std.proofs.lemmas.List.{get_or-set_same, get_or-set_other, length-set}
use Rattle.std.proofs.lemmas.List.Sums.{sum_by-append, sum_by-cons}
use Rattle.walk_model.specs.declared.results.Print.{Print}
use Rattle.walk_model.specs.Prints.{prints_from}
use Rattle.shard_core.specs.Counted.{count_one, count_all}
use Rattle.shard_core.specs.Gathered.{prints_since}

-- 1 for a print of a walker
abbrev pub of_walker : ℕ → Print → ℕ
of_walker i p = if p.walker == i then 1 else 0

pub length-count_all : (cs : List ℕ) (ps : List Print) → length (count_all cs ps) ≡ length cs
length-count_all cs [] = refl
length-count_all cs (p ∷ ps) = length-count_all (count_one cs p) ps ∙ length-set cs p.walker (min (get_or cs p.walker 0 + 1) (2 ^ 64 - 1))

-- a count is what it was and one for each print
pub counted : (cs : List ℕ) (ps : List Print) (i : ℕ) → i < length cs → get_or cs i 0 + sum_by (of_walker i) ps < 2 ^ 64
    → get_or (count_all cs ps) i 0 ≡ get_or cs i 0 + sum_by (of_walker i) ps
counted cs [] i low few = omega arith
counted cs (p ∷ ps) i low few =
    let here = sum_by-cons (of_walker i) p ps in
    let one = one-more cs p i low (omega (arith, here, few)) in
    let long = length-set cs p.walker (min (get_or cs p.walker 0 + 1) (2 ^ 64 - 1)) in
    let rest = counted (count_one cs p) ps i (omega (arith, low, long)) (omega (arith, one, here, few)) in
    omega (arith, rest, one, here)
  where
    one-more : (cs : List ℕ) (p : Print) (i : ℕ) → i < length cs → get_or cs i 0 + of_walker i p < 2 ^ 64
        → get_or (count_one cs p) i 0 ≡ get_or cs i 0 + of_walker i p
    one-more cs p i low few = by (p.walker == i) refl
      where
        by : (b : Bool) → (p.walker == i) ≡ b → get_or (count_one cs p) i 0 ≡ get_or cs i 0 + of_walker i p
        by true e =
            let same : p.walker ≡ i = grind (arith, nat_tests) in
            let own : of_walker i p ≡ 1 = rw e refl in
            let most = rw own at few in
            let value : get_or (set cs p.walker (min (get_or cs p.walker 0 + 1) (2 ^ 64 - 1))) i 0 ≡ min (get_or cs i 0 + 1) (2 ^ 64 - 1) =
            rw same (get_or-set_same cs i (min (get_or cs i 0 + 1) (2 ^ 64 - 1)) 0 low) in
            omega (arith, value, own, most)
        by false e =
            let other : p.walker ≡ i → ⊥ = λ same. grind (arith, nat_tests) in
            let none : of_walker i p ≡ 0 = rw e refl in
            get_or-set_other cs p.walker i (min (get_or cs p.walker 0 + 1) (2 ^ 64 - 1)) 0 (λ same. other (sym same)) ∙ omega (arith, none)

zero-either : (b : Bool) → ◌≡◌ {A = ℕ} 0 (if b then 0 else 0)
zero-either true = refl
zero-either false = refl

-- the prints of one walker
walk-prints : (i w step : ℕ) (xs : List ℕ) → sum_by (of_walker i) (prints_from w step xs) ≡ (if w == i then length xs else 0)
unfolding prints_from
walk-prints i w step [] = zero-either (w == i)
walk-prints i w step (x ∷ xs) =
    let rest = walk-prints i w (step + 1) xs in
    let first = sum_by-cons (of_walker i) (record { walker = w; step = step; at = x }) (prints_from w (step + 1) xs) in
    by (w == i) rest first
  where
    by : (b : Bool) → sum_by (of_walker i) (prints_from w (step + 1) xs) ≡ (if b then length xs else 0)
        → sum_by (of_walker i) (record { walker = w; step = step; at = x } ∷ prints_from w (step + 1) xs)
        ≡ (if b then 1 else 0) + sum_by (of_walker i) (prints_from w (step + 1) xs)
        → sum_by (of_walker i) (record { walker = w; step = step; at = x } ∷ prints_from w (step + 1) xs) ≡ (if b then suc (length xs) else 0)
    by true rest first = omega (arith, rest, first)
    by false rest first = omega (arith, rest, first)

-- none of walkers with greater numbers
later-prints : (i w : ℕ) (walks : List (List ℕ)) → i < w → sum_by (of_walker i) (prints_since w walks) ≡ 0
unfolding prints_since
later-prints i w [] low = refl
later-prints i w (walk ∷ walks) low =
    let other : (w == i) ≡ false = grind (arith, nat_tests) in
    let own : sum_by (of_walker i) (prints_from w 0 walk) ≡ 0 = walk-prints i w 0 walk ∙ rw other refl in
    let rest = later-prints i (suc w) walks (omega (arith, low)) in
    let both = sum_by-append (of_walker i) (prints_from w 0 walk) (prints_since (suc w) walks) in
    omega (arith, own, rest, both)

-- none of walkers with smaller numbers
pub earlier-prints : (i w : ℕ) (walks : List (List ℕ)) → w + length walks ≤ i → sum_by (of_walker i) (prints_since w walks) ≡ 0
unfolding prints_since
earlier-prints i w [] past = refl
earlier-prints i w (walk ∷ walks) past =
    let other : (w == i) ≡ false = grind (arith, nat_tests) in
    let own : sum_by (of_walker i) (prints_from w 0 walk) ≡ 0 = walk-prints i w 0 walk ∙ rw other refl in
    let rest = earlier-prints i (suc w) walks (omega (arith, past)) in
    let both = sum_by-append (of_walker i) (prints_from w 0 walk) (prints_since (suc w) walks) in
    omega (arith, own, rest, both)

-- as many as the walk has entries
pub walker-prints : (k w : ℕ) (walks : List (List ℕ)) → k < length walks
    → sum_by (of_walker (w + k)) (prints_since w walks) ≡ length (get_or walks k [])
unfolding prints_since
walker-prints k w [] low = absurd (omega (arith, low))
walker-prints zero w (walk ∷ walks) low =
    let same : (w == w + 0) ≡ true = grind (arith, nat_tests) in
    let own : sum_by (of_walker (w + 0)) (prints_from w 0 walk) ≡ length walk = walk-prints (w + 0) w 0 walk ∙ rw same refl in
    let rest = later-prints (w + 0) (suc w) walks (omega arith) in
    let both = sum_by-append (of_walker (w + 0)) (prints_from w 0 walk) (prints_since (suc w) walks) in
    omega (arith, own, rest, both)
walker-prints (suc k) w (walk ∷ walks) low =
    let other : (w == w + suc k) ≡ false = grind (arith, nat_tests) in
    let own : sum_by (of_walker (w + suc k)) (prints_from w 0 walk) ≡ 0 = walk-prints (w + suc k) w 0 walk ∙ rw other refl in
    let shift : w + suc k ≡ suc w + k = omega arith in
    let rest : sum_by (of_walker (w + suc k)) (prints_since (suc w) walks) ≡ length (get_or walks k []) =
    ap (λ n. sum_by (of_walker n) (prints_since (suc w) walks)) shift ∙ walker-prints k (suc w) walks (omega (arith, low)) in
    let both = sum_by-append (of_walker (w + suc k)) (prints_from w 0 walk) (prints_since (suc w) walks) in
    omega (arith, own, rest, both)

-- two lists of numbers that agree place by place
pub same-places : (xs ys : List ℕ) → length xs ≡ length ys → ((k : ℕ) → k < length xs → get_or xs k 0 ≡ get_or ys k 0) → xs ≡ ys
same-places [] [] long each = refl
same-places [] (y ∷ ys) long each = absurd (omega (arith, long))
same-places (x ∷ xs) [] long each = absurd (omega (arith, long))
same-places (x ∷ xs) (y ∷ ys) long each =
    ap (λ z. z ∷ xs) (each 0 (omega arith)) ∙ ap (λ zs. y ∷ zs) (same-places xs ys (omega (arith, long)) (λ k low. each (suc k) (omega (arith, low))))
