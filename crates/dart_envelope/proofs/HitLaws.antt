-- Each edge is hit by as many words as its weight and its factor say.
use Rattle.std.proofs.Common.{◌≡◌, ℕ, zero, suc, ◌+◌, ◌-◌, ◌*◌, ◌/◌, ◌%◌, ◌^◌, ◌<◌, ◌≤◌, Bool, true, false, not, ◌&&◌, cond, List, [], ◌∷◌, length, get_or, sum, take, drop, min, refl, arith, ap, sym, ◌∙◌, Some, None, inl, inr}
use Rattle.std.specs.Prelude.{Option, nat_lt, nat_le, ◌==◌, if◌then◌else◌, option_and_then, IfSome}
use Rattle.std.proofs.lemmas.Bool.{cases_lt, cases_eq}
use Rattle.std.proofs.lemmas.Bool.Decides.{nat_tests}
use Rattle.std.proofs.lemmas.List.{get_or-take, get_or-drop, length-take, length-drop}
use Rattle.std.proofs.lemmas.List.Sums.{sum_by-cons}
use Rattle.walk_model.specs.Counts.{count_below, sum_below}
use Rattle.walk_model.specs.Words.{fold_word}
use Rattle.walk_model.specs.Lists.{first_above, products}
use Rattle.walk_model.specs.Alias.{piece}
use Rattle.walk_model.specs.Dart.{Board, main_area, area, back_weights, edge_at, taken_at, hit}
use Rattle.walk_model.proofs.CountLemmas.{count_below-add, count_below-same, count_below-none, count_below-rounds}
use Rattle.walk_model.proofs.PieceLemmas.{count_below-grid, count_below-column, sum_below-same}
use Rattle.walk_model.proofs.NumberLemmas.{first_above-within}
use Rattle.walker_stream.specs.Folds.{passes}
use Rattle.alias_table.proofs.ShareLemmas.{piece-shares}
use Rattle.factor_table.specs.Factors.{greatest_of}
use Rattle.factor_table.proofs.FactorLaws.{greatest-above}
use Rattle.dart_envelope.specs.ClassBoards.{ClassBoard, board_by, frame, height, rise, first_other, known_at, MayHave, Suits}
use Rattle.dart_envelope.specs.Conditions.{IsBoard, IsReturnRun, Rises}
use Rattle.dart_envelope.specs.Hits.{is_edge, HasFairHits, HasFairScans}
use Rattle.dart_envelope.specs.Scans.{total_of, scan_of}
use Rattle.dart_envelope.proofs.AreaLemmas.{row-some, area-some}
use Rattle.dart_envelope.proofs.BoardLaws.{factor-by}

-- a choice passes a test where its number is there and passes
passes-choice : (test : ℕ → Bool) (past : Bool) (v : ℕ) (f : ℕ → Option ℕ)
    → passes test (option_and_then f (if past then None else Some v)) ≡ not past && passes test (f v)
passes-choice test true v f = refl
passes-choice test false v f = refl

-- whether a word that folds to a value below n passes a test of the value
abbrev pub folds_and : ℕ → ℕ → (ℕ → Bool) → ℕ → Bool
folds_and m n p w = not (nat_le (n * (m / n)) w) && p (w % n)

inside : (m n w : ℕ) (p : ℕ → Bool) → w < n * (m / n) → folds_and m n p w ≡ p (w % n)
inside m n w p h = let e : nat_le (n * (m / n)) w ≡ false = grind (arith, nat_tests) in rw e refl

outside : (m n w : ℕ) (p : ℕ → Bool) → n * (m / n) ≤ w → folds_and m n p w ≡ false
outside m n w p h = let e : nat_le (n * (m / n)) w ≡ true = grind (arith, nat_tests) in rw e refl

-- a test of values passes as often in each whole round of words
pub count-folded : (m n : ℕ) (p : ℕ → Bool) → 0 < n → count_below m (folds_and m n p) ≡ m / n * count_below n p
count-folded m n p some =
    let whole : m ≡ (m / n) * n + m % n = omega arith in
    let turned : (m / n) * n ≡ n * (m / n) = omega arith in
    let all : count_below ((m / n) * n + m % n) (folds_and m n p) ≡ m / n * count_below n p =
    rw (
      count_below-add ((m / n) * n) (m % n) (folds_and m n p),
      count_below-same ((m / n) * n) (folds_and m n p) (λ w. p (w % n)) (λ w l. inside m n w p (omega (arith, l, turned))),
      count_below-rounds (m / n) n p some,
      count_below-none (m % n) (λ w. folds_and m n p ((m / n) * n + w)) (λ w l. outside m n ((m / n) * n + w) p (omega (arith, turned))),
    )
    (omega arith) in
    ap (λ k. count_below k (folds_and m n p)) whole ∙ all

-- of all words as many hit an edge as take it among the places of the board, in each whole round
pub count-hits : (b : Board) (edge : ℕ) → 0 < area b
    → count_below (2 ^ 64) (λ w. is_edge edge (hit b w)) ≡ 2 ^ 64 / area b * count_below (area b) (λ x. is_edge edge (edge_at b x))
unfolding hit fold_word
count-hits b edge some =
    count_below-same (2 ^ 64) _ (folds_and (2 ^ 64) (area b) (λ x. is_edge edge (edge_at b x)))
    (λ w l. passes-choice (λ v. v == edge) (nat_le (area b * (2 ^ 64 / area b)) w) (w % area b) (edge_at b))
    ∙ count-folded (2 ^ 64) (area b) (λ x. is_edge edge (edge_at b x)) some

count_below-zero : (p : ℕ → Bool) → count_below 0 p ≡ 0
unfolding count_below
count_below-zero p = refl

-- a test that doesn't look at the number passes always or never
pub count_below-all : (n : ℕ) (t : Bool) → count_below n (λ r. t) ≡ cond t n 0
unfolding count_below
count_below-all zero true = refl
count_below-all zero false = refl
count_below-all (suc n) true = omega (arith, count_below-all n true)
count_below-all (suc n) false = omega (arith, count_below-all n false)

sum_below-tests : (n d : ℕ) (p : ℕ → Bool) → sum_below n (λ c. cond (p c) d 0) ≡ d * count_below n p
unfolding sum_below count_below
sum_below-tests zero d p = omega arith
sum_below-tests (suc n) d p =
    rw (sum_below-tests n d p)
    (elim (p n) as (λ t. d * count_below n p + cond t d 0 ≡ d * (count_below n p + (if t then 1 else 0))) [
      | true ↦ omega arith
      | false ↦ omega arith
    ])

-- a test of the quotient passes as often in each of the rests
pub count-quotients : (n m : ℕ) (p : ℕ → Bool) → 0 < m → count_below (n * m) (λ x. p (x / m)) ≡ m * count_below n p
count-quotients n m p some =
    count_below-grid n m (λ q r. p q) some
    ∙ sum_below-same n _ _ (λ q. count_below-all m (p q))
    ∙ sum_below-tests n m p

-- an item of a list has as many numbers below the whole sum as it is great
now : (z x : ℕ) (xs : List ℕ) → z < x → first_above z (x ∷ xs) ≡ 0
unfolding first_above
now z x xs h = let e : nat_lt z x ≡ true = grind (arith, nat_tests) in rw e refl

later : (z x : ℕ) (xs : List ℕ) → first_above (x + z) (x ∷ xs) ≡ suc (first_above z xs)
unfolding first_above
later z x xs =
    let e : nat_lt (x + z) x ≡ false = grind (arith, nat_tests) in
    let less : x + z - x ≡ z = omega arith in
    rw (e, less) refl

yes : (k j : ℕ) → k ≡ j → (k == j) ≡ true
yes k j h = grind (arith, nat_tests)

no : (k j : ℕ) → (k ≡ j → ⊥) → (k == j) ≡ false
no k j h = grind (arith, nat_tests)

suc-same : (k j : ℕ) → (suc k == suc j) ≡ (k == j)
suc-same k j = grind (arith, nat_tests)

pub count-first_above : (xs : List ℕ) (j : ℕ) → j < length xs
    → count_below (sum xs) (λ z. first_above z xs == j) ≡ get_or xs j 0
count-first_above [] j h = absurd (omega arith)
count-first_above (x ∷ xs) zero h =
    let whole : sum (x ∷ xs) ≡ x + sum xs = sum_by-cons (λ v. v) x xs in
    rw (
      whole,
      count_below-add x (sum xs) (λ z. first_above z (x ∷ xs) == 0),
      count_below-same x (λ z. first_above z (x ∷ xs) == 0) (λ z. true) (λ z l. yes _ 0 (now z x xs l)),
      count_below-all x true,
      count_below-none (sum xs) (λ z. first_above (x + z) (x ∷ xs) == 0) (λ z l. no _ 0 (λ e. omega (arith, e, later z x xs))),
    )
    (omega arith)
count-first_above (x ∷ xs) (suc j) h =
    let whole : sum (x ∷ xs) ≡ x + sum xs = sum_by-cons (λ v. v) x xs in
    rw (
      whole,
      count_below-add x (sum xs) (λ z. first_above z (x ∷ xs) == suc j),
      count_below-none x (λ z. first_above z (x ∷ xs) == suc j) (λ z l. no _ (suc j) (λ e. omega (arith, e, now z x xs l))),
      count_below-same (sum xs) (λ z. first_above (x + z) (x ∷ xs) == suc j) (λ z. first_above z xs == j)
          (λ z l. ap (λ k. k == suc j) (later z x xs) ∙ suc-same (first_above z xs) j),
      count-first_above xs j (omega arith),
    )
    (omega arith)

-- whether a place at a height of a column takes an edge depends on that edge's factor
takes : (b : Board) (edge : ℕ) → ℕ → ℕ → Bool
takes b edge u r = if nat_lt r (get_or b.factors edge 0) then piece b.weights u == edge else false

choice-passes : (edge p : ℕ) (t : Bool) → is_edge edge (if t then Some p else None) ≡ (if t then p == edge else false)
choice-passes edge p true = refl
choice-passes edge p false = refl

never : (t : Bool) → (if t then false else false) ≡ false
never true = refl
never false = refl

same-factor : (fs : List ℕ) (edge p r : ℕ)
    → (if nat_lt r (get_or fs p 0) then p == edge else false) ≡ (if nat_lt r (get_or fs edge 0) then p == edge else false)
same-factor fs edge p r =
    elim (cases_eq p edge) [
      | inl same ↦ rw same refl
      | inr apart ↦ rw (no p edge apart) (never (nat_lt r (get_or fs p 0)) ∙ sym (never (nat_lt r (get_or fs edge 0))))
    ]

taken-main : (b : Board) (edge x : ℕ) → x < main_area b → is_edge edge (edge_at b x) ≡ takes b edge (x / b.height) (x % b.height)
unfolding edge_at taken_at takes
taken-main b edge x within =
    let e : nat_lt x (main_area b) ≡ true = grind (arith, nat_tests) in
    rw e
    (choice-passes edge (piece b.weights (x / b.height)) (nat_lt (x % b.height) (get_or b.factors (piece b.weights (x / b.height)) 0))
    ∙ same-factor b.factors edge (piece b.weights (x / b.height)) (x % b.height))

-- in the main part an edge is taken under its factor, at each place of its columns
pub main-hits : (b : Board) (edge : ℕ) → 0 < b.height
    → count_below (length b.weights * sum b.weights) (λ u. piece b.weights u == edge) ≡ length b.weights * get_or b.weights edge 0
    → count_below (main_area b) (λ x. is_edge edge (edge_at b x)) ≡ min b.height (get_or b.factors edge 0) * (length b.weights * get_or b.weights edge 0)
unfolding takes
main-hits b edge high shares =
    let h = b.height in
    let f = get_or b.factors edge 0 in
    let n = length b.weights * sum b.weights in
    count_below-same (main_area b) _ (λ x. takes b edge (x / h) (x % h)) (λ x l. taken-main b edge x l)
    ∙ count_below-grid n h (takes b edge) high
    ∙ sum_below-same n _ (λ u. cond (piece b.weights u == edge) (min h f) 0) (λ u. count_below-column h f (piece b.weights u == edge) false ∙ omega arith)
    ∙ sum_below-tests n (min h f) (λ u. piece b.weights u == edge)
    ∙ ap (λ k. min h f * k) shares

-- a place of the strip takes a return edge
taken-strip : (b : Board) (edge x : ℕ)
    → is_edge edge (edge_at b (main_area b + x)) ≡ (b.back_from + first_above (x / b.lift / length b.weights) (back_weights b) == edge)
unfolding edge_at
taken-strip b edge x =
    let e : nat_lt (main_area b + x) (main_area b) ≡ false = grind (arith, nat_tests) in
    let less : main_area b + x - main_area b ≡ x = omega arith in
    rw (e, less) refl

-- the places of the strip by those of the run
pub strip-hits : (b : Board) (edge : ℕ) → 0 < length b.weights
    → count_below (length b.weights * sum (back_weights b) * b.lift) (λ x. is_edge edge (edge_at b (main_area b + x)))
    ≡ b.lift * (length b.weights * count_below (sum (back_weights b)) (λ z. b.back_from + first_above z (back_weights b) == edge))
strip-hits b edge some =
    let n = length b.weights in
    let s = sum (back_weights b) in
    let q : ℕ → Bool = λ z. b.back_from + first_above z (back_weights b) == edge in
    let turned : n * s ≡ s * n = omega arith in
    count_below-same (n * s * b.lift) _ (λ x. q (x / b.lift / n)) (λ x l. taken-strip b edge x)
    ∙ by-lift b.lift (n * s) (λ y. q (y / n))
    ∙ ap (λ k. b.lift * k) (ap (λ m. count_below m (λ y. q (y / n))) turned ∙ count-quotients s n q some)
  where
    by-lift : (l m : ℕ) (p : ℕ → Bool) → count_below (m * l) (λ x. p (x / l)) ≡ l * count_below m p
    by-lift zero m p =
        let none : m * 0 ≡ 0 = omega arith in
        ap (λ k. count_below k (λ x. p (x / 0))) none ∙ count_below-zero (λ x. p (x / 0)) ∙ omega arith
    by-lift (suc l) m p = count-quotients m (suc l) p (omega arith)

-- an edge of the run has as many places of it as its weight
pub run-hits : (ws : List ℕ) (from count edge : ℕ) → from ≤ edge → edge < from + count → from + count ≤ length ws
    → count_below (sum (take count (drop from ws))) (λ z. from + first_above z (take count (drop from ws)) == edge) ≡ get_or ws edge 0
run-hits ws from count edge low high within =
    let run = take count (drop from ws) in
    let j = edge - from in
    let there : from + j ≡ edge = omega arith in
    let long : length run ≡ count = length-take count (drop from ws) ∙ omega (arith, length-drop from ws) in
    let item : get_or run j 0 ≡ get_or ws edge 0 = get_or-take count (drop from ws) j 0 (omega arith) ∙ get_or-drop from ws j 0 ∙ ap (λ k. get_or ws k 0) there in
    count_below-same (sum run) _ (λ z. first_above z run == j) (λ z l. shifted from (first_above z run) edge low)
    ∙ count-first_above run j (omega arith)
    ∙ item
  where
    shifted : (from k edge : ℕ) → from ≤ edge → (from + k == edge) ≡ (k == edge - from)
    shifted from k edge low = grind (arith, nat_tests)

-- and any other edge none
pub run-misses : (ws : List ℕ) (from count edge : ℕ) → (from ≤ edge → edge < from + count → ⊥) → from + count ≤ length ws
    → count_below (sum (take count (drop from ws))) (λ z. from + first_above z (take count (drop from ws)) == edge) ≡ 0
run-misses ws from count edge out within =
    let run = take count (drop from ws) in
    let long : length run ≡ count = length-take count (drop from ws) ∙ omega (arith, length-drop from ws) in
    count_below-none (sum run) _ (λ z l. no (from + first_above z run) edge (λ e. let inside = first_above-within z run l in out (omega arith) (omega arith)))

-- the places of the board that an edge is taken at: those of the main part and those of the strip
pub count-places : (b : Board) (edge strip : ℕ) → 0 < b.height → 0 < length b.weights
    → count_below (length b.weights * sum b.weights) (λ u. piece b.weights u == edge) ≡ length b.weights * get_or b.weights edge 0
    → count_below (sum (back_weights b)) (λ z. b.back_from + first_above z (back_weights b) == edge) ≡ strip
    → count_below (area b) (λ x. is_edge edge (edge_at b x))
    ≡ min b.height (get_or b.factors edge 0) * (length b.weights * get_or b.weights edge 0) + b.lift * (length b.weights * strip)
count-places b edge strip high some shares run =
    count_below-add (main_area b) (length b.weights * sum (back_weights b) * b.lift) (λ x. is_edge edge (edge_at b x))
    ∙ ap (λ k. k + count_below (length b.weights * sum (back_weights b) * b.lift) (λ x. is_edge edge (edge_at b (main_area b + x)))) (main-hits b edge high shares)
    ∙ ap (λ k. min b.height (get_or b.factors edge 0) * (length b.weights * get_or b.weights edge 0) + k)
    (strip-hits b edge some ∙ ap (λ k. b.lift * (length b.weights * k)) run)

-- a class but the return class has a factor within the height
pub factor-within : (fs : List ℕ) (first class : ℕ) → first ≤ class → class < length fs → get_or fs class 0 ≤ greatest_of (drop first fs)
factor-within fs first class other within =
    let there : first + (class - first) ≡ class = omega arith in
    let same = get_or-drop first fs (class - first) 0 ∙ ap (λ k. get_or fs k 0) there in
    let long = length-drop first fs in
    let most : get_or (drop first fs) (class - first) 0 ≤ greatest_of (drop first fs) = greatest-above (drop first fs) (class - first) 0 (omega arith) in
    omega (arith, same, most)

-- the parts of an edge below the height and above it are its whole
pub low-part : (h l f n w strip : ℕ) → f ≤ h → l ≡ 0 → min h f * (n * w) + l * (n * strip) ≡ n * w * f
low-part h l f n w strip under none =
    let least : min h f ≡ f = omega arith in
    rw (none, least) (omega arith)

pub strip-none : (h l f n w strip : ℕ) → f ≤ h → strip ≡ 0 → min h f * (n * w) + l * (n * strip) ≡ n * w * f
strip-none h l f n w strip under none =
    let least : min h f ≡ f = omega arith in
    rw (none, least) (omega arith)

both-parts : (h f nw : ℕ) → min h f * nw + (f - h) * nw ≡ nw * f
both-parts h f nw =
    elim (cases_lt h f) [
      | inl above ↦
          let least : min h f ≡ h = omega arith in
          let whole : f ≡ h + (f - h) = omega arith in
          let all : h * nw + (f - h) * nw ≡ nw * (h + (f - h)) = omega arith in
          rw least (all ∙ ap (λ k. nw * k) (sym whole))
      | inr under ↦
          let least : min h f ≡ f = omega arith in
          let none : f - h ≡ 0 = omega arith in
          rw (least, none) (omega arith)
    ]

pub high-part : (h l f n w strip : ℕ) → l ≡ f - h → strip ≡ w → min h f * (n * w) + l * (n * strip) ≡ n * w * f
high-part h l f n w strip is same = rw (is, same) (both-parts h f (n * w))

-- an edge outside the run hasn't the return class
pub not-return : (count : ℕ) (b : ClassBoard) (run : ℕ × ℕ) (edge class : ℕ) → IsReturnRun count b.factors b.known run → Rises b.factors
    → edge < length b.known → (run.0 ≤ edge → edge < run.1 → ⊥) → MayHave (known_at b edge) 1 class → 1 ≤ class
not-return count b run edge class is rises inside out may = cases (known_at b edge) refl may
  where
    cases : (told : Option ℕ) → known_at b edge ≡ told → MayHave told 1 class → 1 ≤ class
    cases None e h = h
    cases (Some zero) e h = let there = (is.edges rises edge inside).0 e in absurd (out there.0 there.1)
    cases (Some (suc k)) e h = omega (arith, h)

-- where the factor of class 0 doesn't rise, none is above the greatest of the others
factor-under : (fs : List ℕ) (class : ℕ) → get_or fs 0 0 ≤ greatest_of (drop 1 fs) → class < length fs → get_or fs class 0 ≤ greatest_of (drop 1 fs)
factor-under fs zero flat within = flat
factor-under fs (suc class) flat within = factor-within fs 1 (suc class) (omega arith) within

-- where nothing rises, an edge lies within the main part
hits-flat : (count : ℕ) (b : ClassBoard) (classes : List ℕ) (edge : ℕ) → IsBoard count b → Suits b classes → edge < length b.weights
    → rise b.back b.factors (height b) ≡ 0 → get_or b.factors (get_or classes edge 0) 0 ≤ height b
    → count_below (area (board_by b classes)) (λ x. is_edge edge (edge_at (board_by b classes) x))
    ≡ length b.weights * get_or b.weights edge 0 * get_or b.factors (get_or classes edge 0) 0
hits-flat count b classes edge board suits inside flat under =
    let long = suits.long in
    count-places (board_by b classes) edge _ board.high board.row.some (piece-shares b.weights edge (row-some b.weights board.row) inside) refl
    ∙ ap (λ k. min (height b) k * (length b.weights * get_or b.weights edge 0) + rise b.back b.factors (height b) * (length b.weights * count_below (sum (back_weights (board_by b classes))) (λ z. (board_by b classes).back_from + first_above z (back_weights (board_by b classes)) == edge)))
    (factor-by b classes edge (omega arith))
    ∙ low-part (height b) (rise b.back b.factors (height b)) (get_or b.factors (get_or classes edge 0) 0) (length b.weights) (get_or b.weights edge 0) _ under flat

-- so it is without a return class
hits-none : (count : ℕ) (b : ClassBoard) (classes : List ℕ) (edge : ℕ) → IsBoard count b → Suits b classes → edge < length b.weights → b.back ≡ None
    → count_below (area (board_by b classes)) (λ x. is_edge edge (edge_at (board_by b classes) x))
    ≡ length b.weights * get_or b.weights edge 0 * get_or b.factors (get_or classes edge 0) 0
hits-none count b classes edge board suits inside e =
    let class = get_or classes edge 0 in
    let first : first_other b.back ≤ class = rw e (omega arith) in
    hits-flat count b classes edge board suits inside (rw e refl) (factor-within b.factors (first_other b.back) class first (suits.below edge inside))

-- and with one whose factor doesn't rise, whatever its run
hits-under : (count : ℕ) (b : ClassBoard) (classes : List ℕ) (edge : ℕ) (run : ℕ × ℕ) → IsBoard count b → Suits b classes → edge < length b.weights
    → b.back ≡ Some run → get_or b.factors 0 0 ≤ greatest_of (drop 1 b.factors)
    → count_below (area (board_by b classes)) (λ x. is_edge edge (edge_at (board_by b classes) x))
    ≡ length b.weights * get_or b.weights edge 0 * get_or b.factors (get_or classes edge 0) 0
hits-under count b classes edge run board suits inside e flat =
    let none : get_or b.factors 0 0 - greatest_of (drop 1 b.factors) ≡ 0 = omega (arith, flat) in
    let under = factor-under b.factors (get_or classes edge 0) flat (suits.below edge inside) in
    hits-flat count b classes edge board suits inside (rw e none) (rw e under)

-- the run of a board lies in its row
run-inside : (count : ℕ) (b : ClassBoard) (run : ℕ × ℕ) → IsBoard count b → IsReturnRun count b.factors b.known run → run.0 + (run.1 - run.0) ≤ length b.weights
run-inside count b run board is = let long = board.long in let order = is.order in let within = is.within in omega arith

hits-out : (count : ℕ) (b : ClassBoard) (classes : List ℕ) (edge : ℕ) (run : ℕ × ℕ) → IsBoard count b → Suits b classes → edge < length b.weights
    → b.back ≡ Some run → IsReturnRun count b.factors b.known run → Rises b.factors → (run.0 ≤ edge → edge < run.1 → ⊥)
    → count_below (area (board_by b classes)) (λ x. is_edge edge (edge_at (board_by b classes) x))
    ≡ length b.weights * get_or b.weights edge 0 * get_or b.factors (get_or classes edge 0) 0
hits-out count b classes edge run board suits inside e is rises out =
    let long = suits.long in
    let known = board.long in
    let order = is.order in
    let class = get_or classes edge 0 in
    let f = get_or b.factors class 0 in
    let may = rw (e) at (suits.may edge inside) in
    let first : first_other b.back ≤ class = rw e (not-return count b run edge class is rises (omega arith) out may) in
    let under : f ≤ height b = factor-within b.factors (first_other b.back) class first (suits.below edge inside) in
    let misses : count_below (sum (back_weights (board_by b classes))) (λ z. (board_by b classes).back_from + first_above z (back_weights (board_by b classes)) == edge) ≡ 0 =
    rw e (run-misses b.weights run.0 (run.1 - run.0) edge (λ low high. out low (omega arith)) (run-inside count b run board is)) in
    count-places (board_by b classes) edge 0 board.high board.row.some (piece-shares b.weights edge (row-some b.weights board.row) inside) misses
    ∙ ap (λ k. min (height b) k * (length b.weights * get_or b.weights edge 0) + rise b.back b.factors (height b) * (length b.weights * 0))
    (factor-by b classes edge (omega arith))
    ∙ strip-none (height b) (rise b.back b.factors (height b)) f (length b.weights) (get_or b.weights edge 0) 0 under refl

hits-in : (count : ℕ) (b : ClassBoard) (classes : List ℕ) (edge : ℕ) (run : ℕ × ℕ) → IsBoard count b → Suits b classes → edge < length b.weights
    → b.back ≡ Some run → IsReturnRun count b.factors b.known run → Rises b.factors → run.0 ≤ edge → edge < run.1
    → count_below (area (board_by b classes)) (λ x. is_edge edge (edge_at (board_by b classes) x))
    ≡ length b.weights * get_or b.weights edge 0 * get_or b.factors (get_or classes edge 0) 0
hits-in count b classes edge run board suits inside e is above low high =
    let long = suits.long in
    let known = board.long in
    let order = is.order in
    let class = get_or classes edge 0 in
    let w = get_or b.weights edge 0 in
    let told : known_at b edge ≡ Some 0 = (is.edges above edge (omega arith)).1 (low, high) in
    let class_is : class ≡ 0 = rw told at (suits.may edge inside) in
    let rises : rise b.back b.factors (height b) ≡ get_or b.factors class 0 - height b = rw (class_is) (risen b.back run b.factors (height b) e) in
    let hits : count_below (sum (back_weights (board_by b classes))) (λ z. (board_by b classes).back_from + first_above z (back_weights (board_by b classes)) == edge) ≡ w =
    rw e (run-hits b.weights run.0 (run.1 - run.0) edge low (omega arith) (run-inside count b run board is)) in
    count-places (board_by b classes) edge w board.high board.row.some (piece-shares b.weights edge (row-some b.weights board.row) inside) hits
    ∙ ap (λ k. min (height b) k * (length b.weights * w) + rise b.back b.factors (height b) * (length b.weights * w))
    (factor-by b classes edge (omega arith))
    ∙ high-part (height b) (rise b.back b.factors (height b)) (get_or b.factors class 0) (length b.weights) w w rises refl
  where
    risen : (back : Option (ℕ × ℕ)) (run : ℕ × ℕ) (fs : List ℕ) (h : ℕ) → back ≡ Some run → rise back fs h ≡ get_or fs 0 0 - h
    risen back run fs h e = rw e refl

-- of the places of a board each edge is taken at its weight times its factor for each column
pub fair-places : (count : ℕ) (b : ClassBoard) (classes : List ℕ) (edge : ℕ) → IsBoard count b → Suits b classes → edge < length b.weights
    → count_below (area (board_by b classes)) (λ x. is_edge edge (edge_at (board_by b classes) x))
    ≡ length b.weights * get_or b.weights edge 0 * get_or b.factors (get_or classes edge 0) 0
fair-places count b classes edge board suits inside = cases b.back refl board.run
  where
    cases : (back : Option (ℕ × ℕ)) → b.back ≡ back → IfSome back (IsReturnRun count b.factors b.known)
        → count_below (area (board_by b classes)) (λ x. is_edge edge (edge_at (board_by b classes) x))
        ≡ length b.weights * get_or b.weights edge 0 * get_or b.factors (get_or classes edge 0) 0
    cases None e is = hits-none count b classes edge board suits inside e
    cases (Some run) e is =
        elim (cases_lt (greatest_of (drop 1 b.factors)) (get_or b.factors 0 0)) [
          | inl rises ↦ elim (cases_lt edge run.0) [
            | inl before ↦ hits-out count b classes edge run board suits inside e is rises (λ low high. omega arith)
            | inr from ↦ elim (cases_lt edge run.1) [
              | inl within ↦ hits-in count b classes edge run board suits inside e is rises from within
              | inr behind ↦ hits-out count b classes edge run board suits inside e is rises (λ low high. omega arith)
            ]
          ]
          | inr flat ↦ hits-under count b classes edge run board suits inside e flat
        ]

-- and so of the words
pub fair-hits : (count : ℕ) (b : ClassBoard) → IsBoard count b → HasFairHits b
fair-hits count b board classes suits edge inside =
    count-hits (board_by b classes) edge (area-some count b board)
    ∙ ap (λ k. 2 ^ 64 / area (frame b) * k) (fair-places count b classes edge board suits inside)

-- the product at a place
product-at : (ws fs : List ℕ) (i : ℕ) → i < length ws → length fs ≡ length ws → get_or (products ws fs) i 0 ≡ get_or ws i 0 * get_or fs i 0
unfolding products
product-at [] fs i inside long = absurd (omega arith)
product-at (w ∷ ws) [] i inside long = absurd (omega arith)
product-at (w ∷ ws) (f ∷ fs) zero inside long = refl
product-at (w ∷ ws) (f ∷ fs) (suc i) inside long = product-at ws fs i (omega arith) (omega arith)

length-products : (ws fs : List ℕ) → length fs ≡ length ws → length (products ws fs) ≡ length ws
unfolding products
length-products [] fs long = refl
length-products (w ∷ ws) [] long = absurd (omega arith)
length-products (w ∷ ws) (f ∷ fs) long = ap suc (length-products ws fs (omega arith))

found-at : (ws fs : List ℕ) (edge z : ℕ) → z < total_of ws fs → is_edge edge (scan_of ws fs z) ≡ (first_above z (products ws fs) == edge)
unfolding scan_of
found-at ws fs edge z below =
    let e : (total_of ws fs == 0) ≡ false = grind (arith, nat_tests) in
    rw e refl

-- of the numbers below a scan's total each edge is found by its weight times its factor
pub fair-scans : (ws fs : List ℕ) → length fs ≡ length ws → HasFairScans ws fs
fair-scans ws fs long edge inside =
    let inside_too = length-products ws fs long in
    count_below-same (total_of ws fs) _ (λ z. first_above z (products ws fs) == edge) (λ z l. found-at ws fs edge z l)
    ∙ count-first_above (products ws fs) edge (omega arith)
    ∙ product-at ws fs edge inside long
