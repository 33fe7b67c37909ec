-- What the columns of a table say of its pieces.
use Rattle.std.proofs.Common.{◌≡◌, ℕ, suc, ◌-◌, ◌*◌, ◌/◌, ◌%◌, ◌^◌, ◌<◌, ◌≤◌, true, false, List, length, take, get_or, sum, refl, arith, ap, sym, ◌∙◌, inl, inr, subst, All, Some, None}
use Rattle.std.specs.Prelude.{nat_lt, if◌then◌else◌}
use Rattle.std.proofs.lemmas.List.Sums.{get_or-le-sum_by}
use Rattle.std.proofs.Math.Arith.{mod-mul}
use Rattle.std.proofs.lemmas.Bool.{cases_lt}
use Rattle.std.proofs.lemmas.Bool.Decides.{nat_tests}
use Rattle.std.proofs.lemmas.Nat.{rows, mul-le, div-mul-add}
use Rattle.walk_model.specs.Lists.{front_reaching}
use Rattle.walk_model.specs.Alias.{own, filler, alias, piece, lacks, spares}
use Rattle.alias_table.specs.Columns.{IsRow}
use Rattle.alias_table.specs.Filled.{IsColumn, AllFilled}
use Rattle.alias_table.proofs.SumLemmas.{sum-lacks, lack_at, length-lacks, length-spares, front-more, front-le, front-all, sum-equal, sum-bound}
use Rattle.walk_model.proofs.NumberLemmas.{first_above-within}
use Rattle.alias_table.proofs.FrontLemmas.{front_reaching-within, own-light, own-heavy, filler-light, filler-heavy}

-- the sum of a row that a table may have
pub sum-some : (ws : List ℕ) → IsRow ws → 0 < sum ws
sum-some ws row = omega (arith, row.some, (row.weights 0 0 (omega (arith, row.some))).0, get_or-le-sum_by (λ w. w) ws 0 0 (omega (arith, row.some)))

pub sum-within : (ws : List ℕ) → IsRow ws → sum ws < 2 ^ 93
sum-within ws row =
    omega (arith, row.some, row.short, sum-bound (2 ^ 62) ws (λ k d h. (row.weights k d h).1))

-- the places of all columns
pub places-within : (ws : List ℕ) → IsRow ws → length ws * sum ws < 2 ^ 124
places-within ws row =
    let small = sum-within ws row in
    let bound = mul-le (length ws) (sum ws) (2 ^ 31 - 1) (2 ^ 93) (omega (arith, row.short)) (omega (arith, small)) in
    omega (arith, bound)

-- items of equal weights have their columns whole
pub own-equal : (ws : List ℕ) (v : ℕ) (c : ℕ) → All (λ w. w ≡ v) ws → c < length ws → own ws c ≡ sum ws
own-equal ws v c equal inside =
    let all = sum-equal v ws equal in
    let mine : length ws * get_or ws c 0 ≡ length ws * v = ap (λ (n : ℕ). length ws * n) (equal c 0 inside) in
    own-light ws c (omega (arith, all, mine)) ∙ omega (arith, all, mine)

-- the column of a place
pub column-within : (u n whole : ℕ) → u < n * whole → u / whole < n
column-within u n whole h = grind (arith, rows)

-- the column of a word that is brought down to the places of all columns
pub column-of-word : (word n whole : ℕ) → 0 < n → 0 < whole → (word % (n * whole)) / whole ≡ word / whole % n
column-of-word word n whole some more =
    let small : word % whole < whole = omega arith in
    rw (mod-mul word {m = n} {c = whole} some more) (div-mul-add (word / whole % n) whole (word % whole) small)

-- the piece at a place of a column
pub piece-own : (ws : List ℕ) (u part : ℕ) → part ≡ own ws (u / sum ws) → u % sum ws < part → piece ws u ≡ u / sum ws
unfolding piece
piece-own ws u part e h =
    let below : nat_lt (u % sum ws) (own ws (u / sum ws)) ≡ true = test (u % sum ws) (own ws (u / sum ws)) (rw e at h) in
    rw below refl
  where
    test : (a b : ℕ) → a < b → nat_lt a b ≡ true
    test a b h = grind (arith, nat_tests)

pub piece-other : (ws : List ℕ) (u part other : ℕ) → IsColumn ws (u / sum ws) part other → 0 < sum ws → part ≤ u % sum ws → piece ws u ≡ other
unfolding piece
piece-other ws u part other column some h =
    let above : nat_lt (u % sum ws) (own ws (u / sum ws)) ≡ false = test (u % sum ws) (own ws (u / sum ws)) (rw column.part_is at h) in
    let small : u % sum ws < sum ws = omega arith in
    rw above (sym (column.other_is (omega arith)))
  where
    test : (a b : ℕ) → b ≤ a → nat_lt a b ≡ false
    test a b h = grind (arith, nat_tests)

pub piece-whole : (ws : List ℕ) (u : ℕ) → 0 < sum ws → own ws (u / sum ws) ≡ sum ws → piece ws u ≡ u / sum ws
piece-whole ws u some whole =
    let small : u % sum ws < sum ws = omega arith in
    piece-own ws u (sum ws) (sym whole) small

-- the other item of a column
pub alias-none : (ws : List ℕ) (c part : ℕ) → part ≡ own ws c → sum ws ≤ part → None ≡ alias ws c
unfolding alias
alias-none ws c part e h =
    let above : nat_lt (own ws c) (sum ws) ≡ false = test (own ws c) (sum ws) (rw e at h) in
    rw above refl
  where
    test : (a b : ℕ) → b ≤ a → nat_lt a b ≡ false
    test a b h = grind (arith, nat_tests)

pub alias-some : (ws : List ℕ) (c part other : ℕ) → IsColumn ws c part other → part < sum ws → Some other ≡ alias ws c
unfolding alias
alias-some ws c part other column h =
    let below : nat_lt (own ws c) (sum ws) ≡ true = test (own ws c) (sum ws) (rw column.part_is at h) in
    rw (below, column.other_is h) refl
  where
    test : (a b : ℕ) → a < b → nat_lt a b ≡ true
    test a b h = grind (arith, nat_tests)

-- the item that fills up a column that isn't whole is there
pub filler-within : (ws : List ℕ) (c : ℕ) → c < length ws → own ws c < sum ws → filler ws c < length ws
filler-within ws c inside room =
    let every = front-all (lacks ws) (length ws) (omega (arith, length-lacks ws)) in
    elim (cases_lt (sum ws) (length ws * get_or ws c 0)) [
      | inl great ↦
          let spare = sum (take (suc c) (spares ws)) in
          let reach = front_reaching spare (lacks ws) in
          let rest = front-le (lacks ws) reach (length ws) (omega (arith, front_reaching-within spare (lacks ws), length-lacks ws)) in
          rw (filler-heavy ws c great)
          (omega (arith, length-spares ws, first_above-within spare (spares ws) (omega (arith, own-heavy ws c great, room, rest, every, sum-lacks ws))))
      | inr small ↦
          let given = sum (take c (lacks ws)) in
          let more = front-more (lacks ws) c (omega (arith, length-lacks ws)) in
          let rest = front-le (lacks ws) (suc c) (length ws) (omega arith) in
          rw (filler-light ws c small)
          (omega (arith, length-spares ws, first_above-within given (spares ws) (omega (arith, own-light ws c small, lack_at ws c inside, room, more, rest, every, sum-lacks ws))))
    ]

pub other-within : (ws : List ℕ) (c part other : ℕ) → c < length ws → IsColumn ws c part other → part < sum ws → other < length ws
other-within ws c part other inside column room =
    let there : own ws c < sum ws = rw column.part_is at room in
    omega (arith, column.other_is room, filler-within ws c inside there)

-- a column that was read
pub column-at : {C : Type 0} (part other : C → ℕ) (ws : List ℕ) (columns : List C) (c : ℕ) (v : C)
    → AllFilled part other ws columns → c < length ws → v ≡ get_or columns c v → IsColumn ws c (part v) (other v)
column-at {C} part other ws columns c v filled inside e =
    let P : C → Type 0 = λ x. IsColumn ws c (part x) (other x) in
    subst P (sym e) (filled.right c inside v)

-- what is picked, by a sum that is known
pub pick-own : (ws : List ℕ) (u whole part other : ℕ) → whole ≡ sum ws → IsColumn ws (u / whole) part other
    → u % whole < part → u / whole ≡ piece ws u
pick-own ws u whole part other e column h =
    let here = rw e at column in
    rw e (sym (piece-own ws u part here.part_is (rw e at h)))

pub pick-other : (ws : List ℕ) (u whole part other : ℕ) → whole ≡ sum ws → 0 < sum ws → IsColumn ws (u / whole) part other
    → part ≤ u % whole → other ≡ piece ws u
pick-other ws u whole part other e some column h =
    let here = rw e at column in
    sym (piece-other ws u part other here some (rw e at h))

pub pick-whole : (ws : List ℕ) (u whole : ℕ) → whole ≡ sum ws → 0 < sum ws → own ws (u / whole) ≡ sum ws → u / whole ≡ piece ws u
pick-whole ws u whole e some own_is =
    let here = rw e at own_is in
    rw e (sym (piece-whole ws u some here))

pub pick-column : (ws : List ℕ) (u whole : ℕ) → whole ≡ sum ws → u < length ws * sum ws → u / whole < length ws
pick-column ws u whole e h = rw e (column-within u (length ws) (sum ws) h)

pub pick-within : (ws : List ℕ) (u whole part other : ℕ) → whole ≡ sum ws → 0 < sum ws → u / whole < length ws
    → IsColumn ws (u / whole) part other → part ≤ u % whole → other < length ws
pick-within ws u whole part other e some inside column h =
    let small : u % whole < sum ws = rw e (omega arith) in
    other-within ws (u / whole) part other inside column (omega (arith, small, h))

-- a choice by the test of a column's own part
pub pick-either : (ws : List ℕ) (u whole part other : ℕ) → whole ≡ sum ws → 0 < sum ws → IsColumn ws (u / whole) part other
    → (if nat_lt (u % whole) part then u / whole else other) ≡ piece ws u
pick-either ws u whole part other e some column =
    elim (cases_lt (u % whole) part) [
      | inl l ↦ rw (less (u % whole) part l) (pick-own ws u whole part other e column l)
      | inr l ↦ rw (more (u % whole) part l) (pick-other ws u whole part other e some column l)
    ]
  where
    less : (a b : ℕ) → a < b → nat_lt a b ≡ true
    less a b h = grind (arith, nat_tests)

    more : (a b : ℕ) → b ≤ a → nat_lt a b ≡ false
    more a b h = grind (arith, nat_tests)

pub pick-either-within : (ws : List ℕ) (u whole part other : ℕ) → whole ≡ sum ws → 0 < sum ws → u / whole < length ws
    → IsColumn ws (u / whole) part other → (if nat_lt (u % whole) part then u / whole else other) < length ws
pick-either-within ws u whole part other e some inside column =
    elim (cases_lt (u % whole) part) [
      | inl l ↦ rw (less (u % whole) part l) inside
      | inr l ↦ rw (more (u % whole) part l) (pick-within ws u whole part other e some inside column l)
    ]
  where
    less : (a b : ℕ) → a < b → nat_lt a b ≡ true
    less a b h = grind (arith, nat_tests)

    more : (a b : ℕ) → b ≤ a → nat_lt a b ≡ false
    more a b h = grind (arith, nat_tests)

-- the same, where the column is read at a place
pub pick-read : {C : Type 0} (part other : C → ℕ) (ws : List ℕ) (columns : List C) (u whole : ℕ) (v : C)
    → whole ≡ sum ws → IsRow ws → u < length ws * sum ws → AllFilled part other ws columns → v ≡ get_or columns (u / whole) v
    → ((if nat_lt (u % whole) (part v) then u / whole else other v) ≡ piece ws u)
    × ((if nat_lt (u % whole) (part v) then u / whole else other v) < length ws)
pick-read part other ws columns u whole v e row h filled here =
    let inside = pick-column ws u whole e h in
    let some = sum-some ws row in
    let column = column-at part other ws columns (u / whole) v filled inside here in (
      pick-either ws u whole (part v) (other v) e some column,
      pick-either-within ws u whole (part v) (other v) e some inside column,
    )
