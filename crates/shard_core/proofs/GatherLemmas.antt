-- Where prints put the entries of walks.
use Rattle.std.proofs.Common.{◌≡◌, ℕ, suc, ◌+◌, ◌<◌, ◌≤◌, ◌⊎◌, inl, inr, Bool, true, false, List, [], ◌∷◌, ◌++◌, length, get_or, map, refl, sym, ap, ◌∙◌, append_assoc, arith}
use Rattle.std.specs.Prelude.{if◌then◌else◌, ◌==◌, nat_lt, ◌&&◌, replicate, sum_by}
use Rattle.std.specs.List.{concat, slice_set}
use Rattle.std.proofs.lemmas.Bool.{cases_lt, cases_eq}
use Rattle.std.proofs.lemmas.Bool.Decides.{nat_tests}
use Rattle.std.proofs.lemmas.Grind.{same_number_lists, get_or-set_at}
use Rattle.std.proofs.lemmas.List.{length-append, length-replicate, length-set, get_or-set_other, get_or_append_left, get_or_at}
use Rattle.std.proofs.lemmas.List.Sums.{sum_by-cons, sum_by-append, fold-append}
use Rattle.walk_model.specs.declared.results.Print.{Print}
use Rattle.walk_model.specs.Prints.{prints_from}
use Rattle.walk_model.specs.Beginnings.{begins_from}
use Rattle.shard_core.specs.Gathered.{prints_since, AreAllPrints, place_of, put, put_all}

-- 1 where a place is the one asked for, else 0
abbrev pub hits : ℕ → ℕ → ℕ
hits k place = if place == k then 1 else 0

-- 0 where a number stands at a place of a list, else 1
abbrev pub misses : List ℕ → ℕ → ℕ → ℕ
misses target place at = if nat_lt place (length target) && (get_or target place 0 == at) then 0 else 1

hits-same : (k place : ℕ) → place ≡ k → hits k place ≡ 1
hits-same k place e = grind (arith, nat_tests)

hits-other : (k place : ℕ) → (place ≡ k) ⊎ ((k ≡ place → ⊥) × (hits k place ≡ 0))
hits-other k place = by (place == k) refl
  where
    by : (b : Bool) → (place == k) ≡ b → (place ≡ k) ⊎ ((k ≡ place → ⊥) × (hits k place ≡ 0))
    by true e = inl (grind (arith, nat_tests))
    by false e = inr (λ same. grind (arith, nat_tests), rw e refl)

misses-none : (target : List ℕ) (place at : ℕ) → misses target place at ≡ 0 → (place < length target) × (get_or target place 0 ≡ at)
misses-none target place at = by (nat_lt place (length target)) (get_or target place 0 == at) refl refl
  where
    by : (b c : Bool) → nat_lt place (length target) ≡ b → (get_or target place 0 == at) ≡ c
        → misses target place at ≡ 0 → (place < length target) × (get_or target place 0 ≡ at)
    by true true e f h = (grind (arith, nat_tests), grind (arith, nat_tests))
    by true false e f h = absurd (let z = rw (e, f) at h in omega (arith, z))
    by false c e f h = absurd (let z = rw e at h in omega (arith, z))

misses-right : (target : List ℕ) (place at : ℕ) → place < length target → get_or target place 0 ≡ at → misses target place at ≡ 0
misses-right target place at low e = grind (arith, nat_tests)

-- 1 for a print at a place, and 1 for a print that says another entry than the one at its place
abbrev pub hit_by : List ℕ → ℕ → ℕ → Print → ℕ
hit_by begins end k p = hits k (place_of begins end p)

abbrev pub miss_by : List ℕ → ℕ → List ℕ → Print → ℕ
miss_by begins end target p = misses target (place_of begins end p) p.at

-- prints keep the number of entries
pub length-put_all : (begins entries : List ℕ) (prints : List Print) → length (put_all begins entries prints) ≡ length entries
length-put_all begins entries [] = refl
length-put_all begins entries (p ∷ ps) =
    length-put_all begins (put begins entries p) ps ∙ length-set entries (place_of begins (length entries) p) p.at

-- prints one after another
pub put_all-append : (begins entries : List ℕ) (xs ys : List Print)
    → put_all begins entries (xs ++ ys) ≡ put_all begins (put_all begins entries xs) ys
put_all-append begins entries xs ys = fold-append (put begins) entries xs ys

-- a right print makes its place right and leaves the others
put-right : (begins target entries : List ℕ) (end : ℕ) (p : Print) (ps : List Print) (k : ℕ)
    → length entries ≡ end → length target ≡ end → miss_by begins end target p ≡ 0
    → (get_or entries k 0 ≡ get_or target k 0) ⊎ (1 ≤ sum_by (hit_by begins end k) (p ∷ ps))
    → (get_or (put begins entries p) k 0 ≡ get_or target k 0) ⊎ (1 ≤ sum_by (hit_by begins end k) ps)
put-right begins target entries end p ps k long same right h =
    rw long (by (hits-other k (place_of begins end p)) h)
  where
    here : (place_of begins end p < length target) × (get_or target (place_of begins end p) 0 ≡ p.at)
    here = misses-none target (place_of begins end p) p.at right

    by : (place_of begins end p ≡ k) ⊎ ((k ≡ place_of begins end p → ⊥) × (hit_by begins end k p ≡ 0))
        → (get_or entries k 0 ≡ get_or target k 0) ⊎ (1 ≤ sum_by (hit_by begins end k) (p ∷ ps))
        → (get_or (slice_set entries (place_of begins end p) p.at) k 0 ≡ get_or target k 0) ⊎ (1 ≤ sum_by (hit_by begins end k) ps)
    by (inl e) h =
        inl (get_or-set_at entries (place_of begins end p) k p.at 0 (sym e) (omega (arith, here.0))
        ∙ sym here.1 ∙ ap (λ n. get_or target n 0) e)
    by (inr other) (inl kept) = inl (get_or-set_other entries (place_of begins end p) k p.at 0 other.0 ∙ kept)
    by (inr other) (inr some) =
        inr (let none = other.1 in omega (arith, some, none, sum_by-cons (hit_by begins end k) p ps))

-- where all prints are right, a place is right in the end if it was or if a print has it
pub put_all-right : (begins target entries : List ℕ) (end : ℕ) (prints : List Print) (k : ℕ)
    → length entries ≡ end → length target ≡ end → sum_by (miss_by begins end target) prints ≡ 0
    → (get_or entries k 0 ≡ get_or target k 0) ⊎ (1 ≤ sum_by (hit_by begins end k) prints)
    → get_or (put_all begins entries prints) k 0 ≡ get_or target k 0
put_all-right begins target entries end [] k long same right (inl kept) = kept
put_all-right begins target entries end [] k long same right (inr some) = absurd (omega arith)
put_all-right begins target entries end (p ∷ ps) k long same right h =
    let sums = sum_by-cons (miss_by begins end target) p ps in
    let first : miss_by begins end target p ≡ 0 = omega (arith, right, sums) in
    let later : sum_by (miss_by begins end target) ps ≡ 0 = omega (arith, right, sums) in
    put_all-right begins target (put begins entries p) end ps k
    (length-set entries (place_of begins (length entries) p) p.at ∙ long) same later
    (put-right begins target entries end p ps k long same first h)

-- the walks of some walkers begin, one behind another from a base on, where a function says
unfoldable Stand : (ℕ → ℕ) → ℕ → ℕ → List (List ℕ) → Type 0
Stand begin base walker [] = Unit {0}
Stand begin base walker (w ∷ ws) = (begin walker ≡ base) × Stand begin (base + length w) (suc walker) ws

stand-begins : (all front : List ℕ) (end base : ℕ) (walks : List (List ℕ)) → all ≡ front ++ begins_from base (map length walks)
    → Stand (λ i. get_or all i end) base (length front) walks
unfolding Stand begins_from
stand-begins all front end base [] e = tt
stand-begins all front end base (w ∷ ws) e =
    let later : List ℕ = begins_from (base + length w) (map length ws) in
    let here : get_or all (length front) end ≡ base = rw e (get_or_at front base later end (length front) refl) in
    let split : all ≡ (front ++ base ∷ []) ++ later = e ∙ sym (append_assoc front (base ∷ []) later) in
    let long : length (front ++ base ∷ []) ≡ suc (length front) = omega (arith, length-append front (base ∷ [])) in
    (here, rw long at (stand-begins all (front ++ base ∷ []) end (base + length w) ws split))

-- each print of a walk says the entry at its place
walk-misses : (begin : ℕ → ℕ) (target front w later : List ℕ) (walker step : ℕ) → target ≡ front ++ (w ++ later)
    → length front ≡ begin walker + step
    → sum_by (λ (p : Print). misses target (begin p.walker + p.step) p.at) (prints_from walker step w) ≡ 0
unfolding prints_from
walk-misses begin target front [] later walker step e long = refl
walk-misses begin target front (x ∷ xs) later walker step e long =
    let weigh : Print → ℕ = λ p. misses target (begin p.walker + p.step) p.at in
    let first : Print = record { walker = walker; step = step; at = x } in
    let low : begin walker + step < length target =
    rw e (omega (arith, long, length-append front (x ∷ (xs ++ later)))) in
    let is : get_or target (begin walker + step) 0 ≡ x = rw (← long, e) (get_or_at front x (xs ++ later) 0 (length front) refl) in
    let none : weigh first ≡ 0 = misses-right target (begin walker + step) x low is in
    let rest = walk-misses begin target (front ++ x ∷ []) xs later walker (step + 1)
    (e ∙ sym (append_assoc front (x ∷ []) (xs ++ later))) (omega (arith, long, length-append front (x ∷ []))) in
    omega (arith, none, rest, sum_by-cons weigh first (prints_from walker (step + 1) xs))

-- and so does each print of all walks
all-misses : (begin : ℕ → ℕ) (target front : List ℕ) (base walker : ℕ) (walks : List (List ℕ)) → target ≡ front ++ concat walks
    → length front ≡ base → Stand begin base walker walks
    → sum_by (λ (p : Print). misses target (begin p.walker + p.step) p.at) (prints_since walker walks) ≡ 0
unfolding prints_since Stand
all-misses begin target front base walker [] e long stand = refl
all-misses begin target front base walker (w ∷ ws) e long stand =
    let weigh : Print → ℕ = λ p. misses target (begin p.walker + p.step) p.at in
    let here = walk-misses begin target front w (concat ws) walker 0 e (let at = stand.0 in omega (arith, long, at)) in
    let rest = all-misses begin target (front ++ w) (base + length w) (suc walker) ws
    (e ∙ sym (append_assoc front w (concat ws))) (omega (arith, long, length-append front w)) stand.1 in
    omega (arith, here, rest, sum_by-append weigh (prints_from walker 0 w) (prints_since (suc walker) ws))

-- each place of a walk has a print
walk-hits : (begin : ℕ → ℕ) (k walker step : ℕ) (w : List ℕ) → begin walker + step ≤ k → k < begin walker + step + length w
    → 1 ≤ sum_by (λ (p : Print). hits k (begin p.walker + p.step)) (prints_from walker step w)
unfolding prints_from
walk-hits begin k walker step [] low high = absurd (omega arith)
walk-hits begin k walker step (x ∷ xs) low high =
    let weigh : Print → ℕ = λ p. hits k (begin p.walker + p.step) in
    let first : Print = record { walker = walker; step = step; at = x } in
    let sums = sum_by-cons weigh first (prints_from walker (step + 1) xs) in
    elim (cases_eq (begin walker + step) k) [
      | inl e ↦ (let one : weigh first ≡ 1 = hits-same k (begin walker + step) e in omega (arith, one, sums))
      | inr other ↦
          (let above : begin walker + (step + 1) ≤ k = grind arith in
          let rest = walk-hits begin k walker (step + 1) xs above (omega arith) in
          omega (arith, rest, sums))
    ]

-- and so has each place of all walks
all-hits : (begin : ℕ → ℕ) (k base walker : ℕ) (walks : List (List ℕ)) → Stand begin base walker walks
    → base ≤ k → k < base + length (concat walks)
    → 1 ≤ sum_by (λ (p : Print). hits k (begin p.walker + p.step)) (prints_since walker walks)
unfolding prints_since Stand
all-hits begin k base walker [] stand low high = absurd (omega arith)
all-hits begin k base walker (w ∷ ws) stand low high =
    let weigh : Print → ℕ = λ p. hits k (begin p.walker + p.step) in
    let sums = sum_by-append weigh (prints_from walker 0 w) (prints_since (suc walker) ws) in
    let at = stand.0 in
    elim (cases_lt k (base + length w)) [
      | inl inside ↦
          (let here = walk-hits begin k walker 0 w (omega (arith, at, low)) (omega (arith, at, inside)) in omega (arith, here, sums))
      | inr past ↦
          (let rest = all-hits begin k (base + length w) (suc walker) ws stand.1 past (omega (arith, high, length-append w (concat ws))) in
          omega (arith, rest, sums))
    ]

-- all prints of walks, put at their places, make the walks one after another
pub gathered : (walks : List (List ℕ)) (prints : List Print) (entries : List ℕ) → AreAllPrints walks prints
    → length entries ≡ length (concat walks) → put_all (begins_from 0 (map length walks)) entries prints ≡ concat walks
gathered walks prints entries all long =
    let begins : List ℕ = begins_from 0 (map length walks) in
    let end : ℕ = length entries in
    let stand = stand-begins begins [] end 0 walks refl in
    let right : sum_by (miss_by begins end (concat walks)) prints ≡ 0 =
    all (miss_by begins end (concat walks)) ∙ all-misses (λ i. get_or begins i end) (concat walks) [] 0 0 walks refl refl stand in
    same_number_lists (put_all begins entries prints) (concat walks) (length-put_all begins entries prints ∙ long) (λ k low.
    (let within : k < length (concat walks) = omega (arith, low, length-put_all begins entries prints, long) in
    let some : 1 ≤ sum_by (hit_by begins end k) prints =
    rw (all (hit_by begins end k)) (all-hits (λ i. get_or begins i end) k 0 0 walks stand (omega arith) (omega (arith, within))) in
    put_all-right begins (concat walks) entries end prints k refl (sym long) right (inr some)))

-- prints of walks behind others, put at their places, make those walks behind the entries of the others
pub gathered-behind : (front begun : List ℕ) (walks : List (List ℕ)) (prints : List Print) (begins entries : List ℕ) (n : ℕ)
    → ((h : Print → ℕ) → sum_by h prints ≡ sum_by h (prints_since (length begun) walks))
    → begins ≡ begun ++ begins_from (length front) (map length walks) → entries ≡ front ++ replicate n 0 → n ≡ length (concat walks)
    → put_all begins entries prints ≡ front ++ concat walks
gathered-behind front begun walks prints begins entries n all b e many =
    same_number_lists (put_all begins entries prints) target (length-put_all begins entries prints ∙ long) (λ k low.
    (let within : k < length target = omega (arith, low, length-put_all begins entries prints, long) in
    put_all-right begins target entries end prints k refl (sym long) right (either k within)))
  where
    target : List ℕ
    target = front ++ concat walks

    end : ℕ
    end = length entries

    sizes : length target ≡ length front + length (concat walks)
    sizes = length-append front (concat walks)

    long : length entries ≡ length target
    long = ap length e ∙ length-append front (replicate n 0) ∙ (let zeros = length-replicate {A = ℕ} n 0 in omega (arith, zeros, many, sizes))

    stand : Stand (λ i. get_or begins i end) (length front) (length begun) walks
    stand = stand-begins begins begun end (length front) walks b

    right : sum_by (miss_by begins end target) prints ≡ 0
    right =
        all (miss_by begins end target)
        ∙ all-misses (λ i. get_or begins i end) target front (length front) (length begun) walks refl refl stand

    either : (k : ℕ) → k < length target → (get_or entries k 0 ≡ get_or target k 0) ⊎ (1 ≤ sum_by (hit_by begins end k) prints)
    either k within = elim (cases_lt k (length front)) [
      | inl before ↦
          inl (ap (λ (l : List ℕ). get_or l k 0) e ∙ get_or_append_left front (replicate n 0) 0 k before
          ∙ sym (get_or_append_left front (concat walks) 0 k before))
      | inr behind ↦
          inr (rw (all (hit_by begins end k))
          (all-hits (λ i. get_or begins i end) k (length front) (length begun) walks stand behind (omega (arith, within, sizes))))
    ]
