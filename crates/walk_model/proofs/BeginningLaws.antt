-- Walks in one list of entries: what a walk is, and that all of them are the list.
use Rattle.std.proofs.Common.{◌≡◌, ℕ, zero, suc, ◌+◌, ◌-◌, ◌<◌, ◌≤◌, ◌⊎◌, inl, inr, List, [], ◌∷◌, ◌++◌, length, get_or, drop, map, sum, All, Some, refl, sym, ap, add-zero, add-one, append_assoc, arith}
use Rattle.std.specs.List.{concat, slice_get, slice_range}
use Rattle.std.specs.List.Sorted.{IsStrictlyIncreasing}
use Rattle.std.proofs.lemmas.List.{length-append, get_or_default, get_or_past}
use Rattle.std.proofs.lemmas.List.Elements.{All-tail}
use Rattle.std.proofs.lemmas.List.Folds.{drop_split}
use Rattle.std.proofs.lemmas.List.Sums.{sum_by-cons}
use Rattle.std.proofs.lemmas.Bool.{cases_lt}
use Rattle.std.proofs.Math.Seq.{take-append_seam, drop-append_seam, drop-length}
use Rattle.walk_model.specs.Beginnings.{walks_at, begins_from}

-- there is a walk for each beginning
pub length-walks_at : (entries begins : List ℕ) → length (walks_at entries begins) ≡ length begins
unfolding walks_at
length-walks_at entries [] = refl
length-walks_at entries (b ∷ bs) = ap suc (length-walks_at entries bs)

-- a walk goes from its beginning to the next, or to the end
pub walks_at-get : (entries begins : List ℕ) (i : ℕ) → i < length begins
    → slice_get (walks_at entries begins) i ≡ Some (slice_range entries (get_or begins i 0) (get_or begins (suc i) (length entries)))
unfolding walks_at
walks_at-get entries [] i h = absurd (omega arith)
walks_at-get entries (b ∷ bs) zero h = refl
walks_at-get entries (b ∷ bs) (suc i) h = walks_at-get entries bs i (omega arith)

-- the next beginning, or the end, is after a beginning and no further than the end
pub begin-lt-next : (begins : List ℕ) (end i : ℕ) → IsStrictlyIncreasing begins → All (λ b. b < end) begins → i < length begins
    → (get_or begins i 0 < get_or begins (suc i) end) × (get_or begins (suc i) end ≤ end)
begin-lt-next begins end i rising below low = by (cases_lt (suc i) (length begins))
  where
    by : (suc i < length begins) ⊎ (length begins ≤ suc i) → (get_or begins i 0 < get_or begins (suc i) end) × (get_or begins (suc i) end ≤ end)
    by (inr past) = rw (get_or_past begins (suc i) end past) (below i 0 low, omega arith)
    by (inl more) =
        let same : get_or begins (suc i) end ≡ get_or begins (suc i) 0 = get_or_default begins (suc i) end 0 more in
        let next = rw add-one at (rising i (omega arith)) in
        (rw same next, let under = below (suc i) end more in omega (arith, under))

increasing-tail : (b : ℕ) (bs : List ℕ) → IsStrictlyIncreasing (b ∷ bs) → IsStrictlyIncreasing bs
increasing-tail b bs rising = λ k low. rw add-one (rw add-one at (rising (suc k) (omega arith)))

-- one after another the walks are the entries from the first beginning on
pub concat-walks_at : (entries begins : List ℕ) → IsStrictlyIncreasing begins → All (λ b. b < length entries) begins
    → concat (walks_at entries begins) ≡ drop (get_or begins 0 (length entries)) entries
unfolding walks_at
concat-walks_at entries [] rising below = sym (drop-length entries)
concat-walks_at entries (b ∷ bs) rising below =
    let next = get_or bs 0 (length entries) in
    let later = concat-walks_at entries bs (increasing-tail b bs rising) (All-tail (λ b. b < length entries) b bs below) in
    let order = begin-lt-next (b ∷ bs) (length entries) 0 rising below (omega arith) in
    rw later (sym (drop_split entries b next (omega (arith, order.0))))

-- behind some entries, the first walk goes to where the second begins
range-behind : (front w later : List ℕ) → slice_range (front ++ (w ++ later)) (length front) (length front + length w) ≡ w
range-behind front w later =
    let long : length front + length w - length front ≡ length w = omega arith in
    rw (long, drop-append_seam front (w ++ later)) (take-append_seam w later)

-- behind some entries, the first walk begins at once, and without one there is the end
begins-behind : (front : List ℕ) (walks : List (List ℕ))
    → get_or (begins_from (length front) (map length walks)) 0 (length (front ++ concat walks)) ≡ length front
unfolding begins_from
begins-behind front [] = omega (arith, length-append front (concat []))
begins-behind front (w ∷ ws) = refl

walks-behind : (front : List ℕ) (walks : List (List ℕ))
    → walks_at (front ++ concat walks) (begins_from (length front) (map length walks)) ≡ walks
unfolding walks_at begins_from
walks-behind front [] = refl
walks-behind front (w ∷ ws) =
    let next = rw (length-append front w, append_assoc) at (begins-behind (front ++ w) ws) in
    let later = rw (length-append front w, append_assoc) at (walks-behind (front ++ w) ws) in
    rw (next, range-behind front w (concat ws), later) refl

-- walks one after another are found again by where their lengths let them begin
pub walks_at-concat : (walks : List (List ℕ)) → walks_at (concat walks) (begins_from 0 (map length walks)) ≡ walks
walks_at-concat walks = walks-behind [] walks

-- places from which lengths above 0 count on rise, and each is before their end
pub length-begins_from : (place : ℕ) (lengths : List ℕ) → length (begins_from place lengths) ≡ length lengths
unfolding begins_from
length-begins_from place [] = refl
length-begins_from place (n ∷ ns) = ap suc (length-begins_from (place + n) ns)

pub begins_from-rise : (place : ℕ) (lengths : List ℕ) → All (λ n. 1 ≤ n) lengths → IsStrictlyIncreasing (begins_from place lengths)
unfolding begins_from
begins_from-rise place [] some = λ k low. absurd (omega arith)
begins_from-rise place (n ∷ []) some = λ k low. absurd (omega arith)
begins_from-rise place (n ∷ m ∷ ns) some =
    by (begins_from-rise (place + n) (m ∷ ns) (All-tail (λ n. 1 ≤ n) n (m ∷ ns) some))
  where
    by : IsStrictlyIncreasing (begins_from (place + n) (m ∷ ns)) → (k : ℕ) → k + 1 < length (begins_from place (n ∷ m ∷ ns))
        → get_or (begins_from place (n ∷ m ∷ ns)) k 0 < get_or (begins_from place (n ∷ m ∷ ns)) (k + 1) 0
    by later zero low = let one = some 0 0 (omega arith) in omega (arith, one)
    by later (suc k) low = rw add-one (rw add-one at (later k (omega arith)))

pub begins_from-below : (place : ℕ) (lengths : List ℕ) → All (λ n. 1 ≤ n) lengths
    → All (λ b. b < place + sum lengths) (begins_from place lengths)
unfolding begins_from
begins_from-below place [] some = λ k d low. absurd (omega arith)
begins_from-below place (n ∷ ns) some = by (begins_from-below (place + n) ns (All-tail (λ n. 1 ≤ n) n ns some))
  where
    by : All (λ b. b < place + n + sum ns) (begins_from (place + n) ns)
        → (k d : ℕ) → k < length (begins_from place (n ∷ ns)) → get_or (begins_from place (n ∷ ns)) k d < place + sum (n ∷ ns)
    by later zero d low = let one = some 0 0 (omega arith) in omega (arith, one, sum_by-cons (λ x. x) n ns)
    by later (suc k) d low = let here = later k d (omega arith) in omega (arith, here, sum_by-cons (λ x. x) n ns)

-- one more length puts one more beginning where the others end
pub begins_from-more : (place : ℕ) (lengths : List ℕ) (n : ℕ)
    → begins_from place (lengths ++ n ∷ []) ≡ begins_from place lengths ++ (place + sum lengths) ∷ []
unfolding begins_from
begins_from-more place [] n = rw add-zero refl
begins_from-more place (m ∷ ms) n =
    let total : place + m + sum ms ≡ place + sum (m ∷ ms) = omega (arith, sum_by-cons (λ x. x) m ms) in
    let later = rw total at (begins_from-more (place + m) ms n) in
    ap (λ bs. place ∷ bs) later

-- so the first walk begins at place 0, and without one there is no entry
pub begins_from-first : (lengths : List ℕ) → get_or (begins_from 0 lengths) 0 (sum lengths) ≡ 0
unfolding begins_from
begins_from-first [] = refl
begins_from-first (n ∷ ns) = refl
