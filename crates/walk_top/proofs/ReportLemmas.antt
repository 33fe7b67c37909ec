-- The numbers of a report, counted along finished walks.
use Rattle.std.proofs.Common.{◌≡◌, ◌≤◌, ◌<◌, ◌+◌, ◌-◌, ◌*◌, ◌/◌, ◌^◌, ℕ, zero, suc, List, [], ◌∷◌, length, map, refl, ap, sym, ◌∙◌, arith}
use Rattle.std.specs.Prelude.{sum_by}
use Rattle.std.proofs.lemmas.List.{length-append, length-map, map-append}
use Rattle.std.proofs.lemmas.List.Sums.{sum_by-append, sum_by-cons}
use Rattle.walk_model.specs.Counts.{sum_below}
use Rattle.walk_model.specs.Numbers.{below}
use Rattle.traveller.specs.PartedRuns.{PartedRun, letters_in, walk_in}
use Rattle.shard_core.specs.Walks.{walks_in}
use Rattle.superstep.specs.Carried.{count_letters}
use Rattle.walk_top.specs.Changes.{all_changes, changes, steps_in}
use Rattle.walk_top.specs.Reports.{all_saying, all_steps, count_saying, is_ask, is_move, report, report_on}
use Rattle.walk_top.proofs.LetterCounts.{changes-le, steps-le, walk-moves}

length-below : (n : ℕ) → length (below n) ≡ n
unfolding below
length-below zero = refl
length-below (suc n) =
    let long = length-append (below n) (n ∷ []) in
    let rest = length-below n in
    omega (arith, long, rest)

-- a sum over what the numbers below a bound give
sum-below : {X : Type 0} (n : ℕ) (f : X → ℕ) (g : ℕ → X) → sum_by f (map g (below n)) ≡ sum_below n (λ i. f (g i))
unfolding below sum_below
sum-below zero f g = refl
sum-below (suc n) f g =
    let more = ap (sum_by f) (map-append g (below n) (n ∷ [])) in
    let both = sum_by-append f (map g (below n)) (g n ∷ []) in
    let one = sum_by-cons f (g n) [] in
    let rest = sum-below n f g in
    omega (arith, more, both, one, rest)

-- sums of values that are no more than others, or than a bound
sum-le : (n : ℕ) (f g : ℕ → ℕ) → ((i : ℕ) → f i ≤ g i) → sum_below n f ≤ sum_below n g
unfolding sum_below
sum-le zero f g each = omega arith
sum-le (suc n) f g each = let rest = sum-le n f g each in let one = each n in omega (arith, rest, one)

sum-most : (n most : ℕ) (f : ℕ → ℕ) → ((i : ℕ) → f i ≤ most) → sum_below n f ≤ n * most
unfolding sum_below
sum-most zero most f each = omega arith
sum-most (suc n) most f each =
    let rest = sum-most n most f each in
    let one = each n in
    let product : suc n * most ≡ n * most + most = omega arith in
    omega (arith, rest, one, product)

-- equal values have equal sums
pub sum-same : (n : ℕ) (f g : ℕ → ℕ) → ((i : ℕ) → i < n → f i ≡ g i) → sum_below n f ≡ sum_below n g
unfolding sum_below
sum-same zero f g each = refl
sum-same (suc n) f g each =
    let rest = sum-same n f g (λ i low. each i (omega (arith, low))) in
    let one = each n (omega arith) in
    omega (arith, rest, one)

-- values that are others and twice others more
sum-pairs : (n : ℕ) (f g h : ℕ → ℕ) → ((i : ℕ) → f i ≡ g i + 2 * h i) → sum_below n f ≡ sum_below n g + 2 * sum_below n h
unfolding sum_below
sum-pairs zero f g h each = refl
sum-pairs (suc n) f g h each =
    let rest = sum-pairs n f g h each in
    let one = each n in
    omega (arith, rest, one)

-- there are as many walks as walkers
pub count-walks : (g : PartedRun) → length (walks_in g) ≡ g.walkers
unfolding walks_in
count-walks g = length-map (below g.walkers) (walk_in g) ∙ length-below g.walkers

-- the steps of finished walks
pub steps-walks : (g : PartedRun) → steps_in (walks_in g) ≡ all_steps g
unfolding walks_in
steps-walks g = sum-below g.walkers (λ (walk : List ℕ). length walk - 1) (walk_in g)

-- the changes of the owner along them are the moves among their letters
pub changes-walks : (g : PartedRun) → all_changes g.owner (walks_in g) ≡ all_saying is_move g
unfolding walks_in
changes-walks g =
    sum-below g.walkers (changes g.owner) (walk_in g)
    ∙ sum-same g.walkers (λ i. changes g.owner (walk_in g i)) (λ i. count_saying is_move (letters_in g i)) (λ i low. sym (walk-moves g i).moves)

-- all letters are the moves, and the asks with a reply to each
pub letters-walks : (g : PartedRun) → count_letters g.walkers (letters_in g) ≡ all_saying is_move g + 2 * all_saying is_ask g
letters-walks g =
    sum-pairs g.walkers (λ i. length (letters_in g i)) (λ i. count_saying is_move (letters_in g i)) (λ i. count_saying is_ask (letters_in g i))
    (λ i. (let here = walk-moves g i in
    let moves = here.moves in
    let pairs = here.pairs in
    omega (arith, moves, pairs)))

-- walkers take no more steps than they may, and change the owner no more often
pub steps-most : (g : PartedRun) → steps_in (walks_in g) ≤ g.walkers * g.plan.length
steps-most g =
    let is = steps-walks g in
    let most = sum-most g.walkers g.plan.length (λ i. length (walk_in g i) - 1) (steps-le g) in
    omega (arith, is, most)

pub changes-most : (g : PartedRun) → all_changes g.owner (walks_in g) ≤ steps_in (walks_in g)
unfolding walks_in
changes-most g =
    let here = sum-below g.walkers (changes g.owner) (walk_in g) in
    let there = sum-below g.walkers (λ (walk : List ℕ). length walk - 1) (walk_in g) in
    let most = sum-le g.walkers (λ i. changes g.owner (walk_in g i)) (λ i. length (walk_in g i) - 1) (λ i. changes-le g.owner (walk_in g i)) in
    omega (arith, here, there, most)

-- the numbers of walks that are taken fit
pub steps-few : (g : PartedRun) (walks : List (List ℕ)) → walks ≡ walks_in g → g.walkers * g.plan.length < 2 ^ 64 → steps_in walks < 2 ^ 64
steps-few g walks is few =
    let same = ap steps_in is in
    let most = steps-most g in
    omega (arith, same, most, few)

pub changes-few : (g : PartedRun) (walks : List (List ℕ)) → walks ≡ walks_in g → g.walkers * g.plan.length < 2 ^ 64 → all_changes g.owner walks < 2 ^ 64
changes-few g walks is few =
    let same = ap (all_changes g.owner) is in
    let most = changes-most g in
    let steps = steps-most g in
    omega (arith, same, most, steps, few)

-- there are no more moves than letters
pub changes-total : (g : PartedRun) (walks : List (List ℕ)) (total : ℕ) → walks ≡ walks_in g → total ≡ count_letters g.walkers (letters_in g)
    → all_changes g.owner walks ≤ total
changes-total g walks total is counted =
    let moves = ap (all_changes g.owner) is ∙ changes-walks g in
    let letters = counted ∙ letters-walks g in
    omega (arith, moves, letters)

-- the numbers that are counted are those of the report
pub report-counted : (g : PartedRun) (walks : List (List ℕ)) (count steps moves asks total : ℕ) → walks ≡ walks_in g
    → total ≡ count_letters g.walkers (letters_in g) → count ≡ length walks → steps ≡ steps_in walks → moves ≡ all_changes g.owner walks
    → asks ≡ (total - moves) / 2 → report count steps moves asks ≡ report_on g
report-counted g walks count steps moves asks total is counted by_count by_steps by_moves by_asks =
    let count_is : count ≡ g.walkers = by_count ∙ ap (λ (l : List (List ℕ)). length l) is ∙ count-walks g in
    let steps_is : steps ≡ all_steps g = by_steps ∙ ap steps_in is ∙ steps-walks g in
    let moves_is : moves ≡ all_saying is_move g = by_moves ∙ ap (all_changes g.owner) is ∙ changes-walks g in
    let letters = counted ∙ letters-walks g in
    let asks_is : asks ≡ all_saying is_ask g = omega (arith, letters, moves_is, by_asks) in
    ap (λ n. report n steps moves asks) count_is ∙ ap (λ n. report g.walkers n moves asks) steps_is
    ∙ ap (λ n. report g.walkers (all_steps g) n asks) moves_is ∙ ap (λ n. report g.walkers (all_steps g) (all_saying is_move g) n) asks_is
