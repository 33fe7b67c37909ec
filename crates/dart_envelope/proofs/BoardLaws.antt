-- What a verdict says of a dart on the board of a row, whatever classes its edges may have.
use Rattle.std.proofs.Common.{◌≡◌, ℕ, ◌+◌, ◌-◌, ◌/◌, ◌%◌, ◌<◌, ◌≤◌, Bool, true, false, List, length, get_or, map, drop, length-drop, refl, arith, ap, sym, ◌∙◌, subst, Some, None}
use Rattle.std.specs.Prelude.{Option, nat_lt, if◌then◌else◌, slice_index, slice_get}
use Rattle.std.proofs.lemmas.Bool.Decides.{nat_tests}
use Rattle.std.proofs.lemmas.Option.{get_or_from_slice_get}
use Rattle.std.proofs.lemmas.List.{get_or-map, get_or-drop}
use Rattle.walk_model.specs.Lists.{first_above}
use Rattle.walk_model.specs.Words.{fold_word}
use Rattle.walk_model.specs.Alias.{piece}
use Rattle.walk_model.specs.Dart.{back_weights, main_area, area, edge_at, taken_at, hit}
use Rattle.factor_table.specs.Factors.{least_of}
use Rattle.factor_table.proofs.FactorLaws.{least-below}
use Rattle.dart_envelope.specs.ClassBoards.{ClassBoard, frame, height, low, first_other, known_at, MayHave}
use Rattle.dart_envelope.specs.Verdicts.{judged, verdict_at, verdict_of, settled, columns_read, SettlesAt, SettlesTo, IsVain, IsElseVain}
use Rattle.dart_envelope.specs.declared.verdict.Verdict.{Verdict}
use Rattle.dart_envelope.specs.declared.verdict.Verdict.TheVariants.{Miss, Take, Turned, Need}

lt-true : (z x : ℕ) → z < x → nat_lt z x ≡ true
lt-true z x h = grind (arith, nat_tests)

lt-false : (z x : ℕ) → x ≤ z → nat_lt z x ≡ false
lt-false z x h = grind (arith, nat_tests)

-- a class that is known
pub known-is : (b : ClassBoard) (edge : ℕ) (class : Option ℕ) → Some class ≡ slice_get b.known edge → known_at b edge ≡ class
known-is b edge class told = get_or_from_slice_get b.known edge class None (sym told)

-- the four verdicts on an edge
pub judged-take : (b : ClassBoard) (edge h class : ℕ) (told : Option ℕ) → told ≡ Some class → Some told ≡ slice_get b.known edge
    → h < get_or b.factors class 0 → judged b (known_at b edge) edge h ≡ Take edge
unfolding judged
judged-take b edge h class told is known under =
    rw (known-is b edge told known, is, lt-true h (get_or b.factors class 0) under) refl

pub judged-turned : (b : ClassBoard) (edge h class : ℕ) (told : Option ℕ) → told ≡ Some class → Some told ≡ slice_get b.known edge
    → get_or b.factors class 0 ≤ h → judged b (known_at b edge) edge h ≡ Turned
unfolding judged
judged-turned b edge h class told is known above =
    rw (known-is b edge told known, is, lt-false h (get_or b.factors class 0) above) refl

pub judged-any : (b : ClassBoard) (edge h : ℕ) (told : Option ℕ) → told ≡ None → Some told ≡ slice_get b.known edge
    → h < low b → judged b (known_at b edge) edge h ≡ Take edge
unfolding judged
judged-any b edge h told is known under =
    rw (known-is b edge told known, is, lt-true h (low b) under) refl

pub judged-need : (b : ClassBoard) (edge h : ℕ) (told : Option ℕ) → told ≡ None → Some told ≡ slice_get b.known edge
    → low b ≤ h → judged b (known_at b edge) edge h ≡ Need edge h
unfolding judged
judged-need b edge h told is known above =
    rw (known-is b edge told known, is, lt-false h (low b) above) refl

-- what may be any class but the return class has at least the least of their factors
pub low-below : (b : ClassBoard) (class : ℕ) → first_other b.back ≤ class → class < length b.factors
    → low b ≤ get_or b.factors class 0
low-below b class other within =
    let first = first_other b.back in
    let there : first + (class - first) ≡ class = omega arith in
    let same : get_or (drop first b.factors) (class - first) 0 ≡ get_or b.factors (first + (class - first)) 0 =
    get_or-drop first b.factors (class - first) 0 in
    let at : get_or b.factors (first + (class - first)) 0 ≡ get_or b.factors class 0 = ap (λ k. get_or b.factors k 0) there in
    let long : length (drop first b.factors) ≡ length b.factors - first = length-drop first b.factors in
    let least : least_of (drop first b.factors) ≤ get_or (drop first b.factors) (class - first) 0 =
    least-below (drop first b.factors) (class - first) 0 (omega arith) in
    omega (arith, same, at, least)

-- the factor of an edge by its class
pub factor-by : (b : ClassBoard) (classes : List ℕ) (edge : ℕ) → edge < length classes
    → get_or (map (slice_index b.factors) classes) edge 0 ≡ get_or b.factors (get_or classes edge 0) 0
factor-by b classes edge inside = get_or-map (slice_index b.factors) classes edge 0 0 inside

-- on an edge whose class may be the one given the verdict settles to what its factor decides
pub judged-settles : (b : ClassBoard) (classes : List ℕ) (edge h : ℕ) (told : Option ℕ)
    → MayHave told (first_other b.back) (get_or classes edge 0) → get_or classes edge 0 < length b.factors
    → (if nat_lt h (get_or b.factors (get_or classes edge 0) 0) then Some edge else None) ≡ settled b classes (judged b told edge h)
unfolding judged settled
judged-settles b classes edge h (Some class) is within =
    rw is
    (elim (nat_lt h (get_or b.factors class 0)) as (λ t. (if t then Some edge else None) ≡ settled b classes (if t then Take edge else Turned)) [
      | true ↦ refl
      | false ↦ refl
    ])
judged-settles b classes edge h None other within =
    let f = get_or b.factors (get_or classes edge 0) 0 in
    let least = low-below b (get_or classes edge 0) other within in
    let cases : (t : Bool) → nat_lt h (low b) ≡ t → (if nat_lt h f then Some edge else None) ≡ settled b classes (if t then Take edge else Need edge h) = λ t.
    elim t as (λ t. nat_lt h (low b) ≡ t → (if nat_lt h f then Some edge else None) ≡ settled b classes (if t then Take edge else Need edge h)) [
      | true ↦ λ under.
          let below : h < low b = grind (arith, nat_tests) in
          rw (lt-true h f (omega arith)) refl
      | false ↦ λ above. refl
    ] in
    cases (nat_lt h (low b)) refl

-- a place of the main part is judged by its column's edge
pub verdict-main : (b : ClassBoard) (x edge : ℕ) → x < main_area (frame b) → edge ≡ piece b.weights (x / height b)
    → judged b (known_at b edge) edge (x % height b) ≡ verdict_at b x
unfolding verdict_at
verdict-main b x edge inside is = rw (lt-true x (main_area (frame b)) inside, is) refl

pub main-settles : (b : ClassBoard) (x edge : ℕ) (verdict : Verdict) → x < main_area (frame b) → edge ≡ piece b.weights (x / height b)
    → edge < length b.weights → verdict ≡ judged b (known_at b edge) edge (x % height b) → SettlesAt b x verdict
unfolding edge_at taken_at
main-settles b x edge verdict inside is within told classes suits =
    let long = suits.long in
    rw (lt-true x (main_area (frame b)) inside, ← is, factor-by b classes edge (omega arith), told)
    (judged-settles b classes edge (x % height b) (known_at b edge) (suits.may edge within) (suits.below edge within))

-- a place of the strip is taken by a return edge
pub verdict-strip : (b : ClassBoard) (x : ℕ) → main_area (frame b) ≤ x
    → Take ((frame b).back_from + first_above ((x - main_area (frame b)) / (frame b).lift / length b.weights) (back_weights (frame b))) ≡ verdict_at b x
unfolding verdict_at
verdict-strip b x past = rw (lt-false x (main_area (frame b)) past) refl

pub strip-settles : (b : ClassBoard) (x : ℕ) → main_area (frame b) ≤ x
    → SettlesAt b x (Take ((frame b).back_from + first_above ((x - main_area (frame b)) / (frame b).lift / length b.weights) (back_weights (frame b))))
unfolding edge_at settled
strip-settles b x past classes suits = rw (lt-false x (main_area (frame b)) past) refl

-- a dart misses where its word has no fold
pub verdict-miss : (b : ClassBoard) (w : ℕ) → None ≡ fold_word (area (frame b)) w → Miss ≡ verdict_of b w
unfolding verdict_of
verdict-miss b w missed = rw (← missed) refl

pub miss-settles : (b : ClassBoard) (w : ℕ) → None ≡ fold_word (area (frame b)) w → SettlesTo b w Miss
unfolding hit settled
miss-settles b w missed classes suits = rw (← missed) refl

-- and else its verdict is that of the place
pub verdict-place : (b : ClassBoard) (w x : ℕ) → Some x ≡ fold_word (area (frame b)) w → verdict_at b x ≡ verdict_of b w
unfolding verdict_of
verdict-place b w x folds = rw (← folds) refl

pub place-settles : (b : ClassBoard) (w x : ℕ) (verdict : Verdict) → Some x ≡ fold_word (area (frame b)) w → SettlesAt b x verdict → SettlesTo b w verdict
unfolding hit
place-settles b w x verdict folds settles classes suits = rw (← folds) (settles classes suits)

-- a column is read in the main part alone
pub read-none : (b : ClassBoard) (o : Option ℕ) → None ≡ o → columns_read b o ≡ 0
unfolding columns_read
read-none b o missed = rw (← missed) refl

pub read-main : (b : ClassBoard) (x : ℕ) (o : Option ℕ) → Some x ≡ o → x < main_area (frame b) → columns_read b o ≡ 1
unfolding columns_read
read-main b x o folds inside = rw (← folds, lt-true x (main_area (frame b)) inside) refl

pub read-strip : (b : ClassBoard) (x : ℕ) (o : Option ℕ) → Some x ≡ o → main_area (frame b) ≤ x → columns_read b o ≡ 0
unfolding columns_read
read-strip b x o folds past = rw (← folds, lt-false x (main_area (frame b)) past) refl

not-none : (edge : ℕ) → Some edge ≡ None → ⊥
not-none edge none =
    let P : Option ℕ → Type 0 = λ o. elim o as (λ _. Type 0) [ None ↦ ⊥ | Some v ↦ Unit {0} ] in subst P none tt

-- a verdict that settles to no edge is that of a dart in vain
settled-vain : (b : ClassBoard) (classes : List ℕ) (v : Verdict) → settled b classes v ≡ None → IsVain b classes v
unfolding settled
settled-vain b classes Miss none = tt
settled-vain b classes (Take edge) none = not-none edge none
settled-vain b classes Turned none = tt
settled-vain b classes (Need edge h) none = cases (nat_lt h (slice_index b.factors (slice_index classes edge))) refl none
  where
    cases : (test : Bool) → nat_lt h (slice_index b.factors (slice_index classes edge)) ≡ test
        → (if test then Some edge else None) ≡ None → slice_index b.factors (slice_index classes edge) ≤ h
    cases true is hits = absurd (not-none edge hits)
    cases false is hits = grind (arith, nat_tests)

-- a verdict that settles to the edge that the dart hits is that of a dart in vain where it hits none
pub settles-vain : (b : ClassBoard) (w : ℕ) (v : Verdict) → SettlesTo b w v → IsElseVain b w v
settles-vain b w v settles = λ classes suits none. settled-vain b classes v (sym (settles classes suits) ∙ none)
