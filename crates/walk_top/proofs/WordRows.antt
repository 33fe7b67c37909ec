-- What is found after a use of an argument of the reader.
use Rattle.std.proofs.Common.{◌≡◌, ◌∙◌, ◌||◌, Bool, cond, true, false, refl, sym, ap, subst, true≢false, List, [], ◌∷◌, ◌++◌, Option, Some, None, find, bytes_eq, option_map, option_and_then, unwrap_or, slice_get, append-nil}
use Rattle.std.specs.List.{list_any}
use Rattle.clap.specs.Walk.{Row, Text, all_of, first_of, has_row, at_row, with_values, without, more_values, used}
use Rattle.clap.specs.declared.builder.value_parser.Reading.TheVariants.{AsWritten}
use Rattle.clap.specs.declared.parser.matches.ValueSource.TheVariants.{CommandLine}
use Rattle.walk_top.specs.WordRules.{Said, knows, value_of}
use Rattle.walk_top.proofs.WordsSoFar.{has_option, with_places, with_option}
use Rattle.walk_top.proofs.WordArguments.{same_bytes, place_id, place, option, differs}

-- the places among the rows
abbrev pub placed : List Row → List Text
placed rows = unwrap_or (all_of place_id rows) []

-- the rows hold what was said
pub record Holds (names : List Text) (rows : List Row) (s : Said) : Type 0 where
  pub places : placed rows ≡ s.places
  pub values : (n : Text) → knows names n ≡ true → first_of n rows ≡ value_of n s
  pub has : (n : Text) → knows names n ≡ true → has_row n rows ≡ has_option n s.options

-- ---- a place

abbrev placing : Text → List Row → List Row
placing w rows = with_values place_id AsWritten CommandLine (w ∷ []) rows

placed_more : (w : Text) (rows : List Row) → placed (placing w rows) ≡ placed rows ++ w ∷ []
placed_more w [] = refl
placed_more w (r ∷ rs) = go (bytes_eq r.id place_id) refl (placed_more w rs)
  where
    go : (b : Bool) → bytes_eq r.id place_id ≡ b → placed (placing w rs) ≡ placed rs ++ w ∷ [] → placed (placing w (r ∷ rs)) ≡ placed (r ∷ rs) ++ w ∷ []
    go true e later = rw e (rw e refl)
    go false e later = rw e (rw e later)

find_other : (w n : Text) (rows : List Row) → bytes_eq place_id n ≡ false → find (λ r. bytes_eq r.id n) (placing w rows) ≡ find (λ r. bytes_eq r.id n) rows
find_other w n [] other = rw other refl
find_other w n (r ∷ rs) other = go (bytes_eq r.id place_id) refl (find_other w n rs other)
  where
    go : (b : Bool) → bytes_eq r.id place_id ≡ b → find (λ r. bytes_eq r.id n) (placing w rs) ≡ find (λ r. bytes_eq r.id n) rs
        → find (λ r. bytes_eq r.id n) (placing w (r ∷ rs)) ≡ find (λ r. bytes_eq r.id n) (r ∷ rs)
    go true e later =
        let miss : bytes_eq r.id n ≡ false = ap (λ x. bytes_eq x n) (same_bytes r.id place_id e) ∙ other in
        rw e (rw miss refl)
    go false e later = rw e (ap (λ o. cond (bytes_eq r.id n) (Some r) o) later)

any_other : (w n : Text) (rows : List Row) → bytes_eq place_id n ≡ false → has_row n (placing w rows) ≡ has_row n rows
any_other w n [] other = rw other refl
any_other w n (r ∷ rs) other = go (bytes_eq r.id place_id) refl (any_other w n rs other)
  where
    go : (b : Bool) → bytes_eq r.id place_id ≡ b → has_row n (placing w rs) ≡ has_row n rs → has_row n (placing w (r ∷ rs)) ≡ has_row n (r ∷ rs)
    go true e later = rw e refl
    go false e later = rw e (ap (λ o. bytes_eq r.id n || o) later)

pub holds_place : (names : List Text) (w : Text) (rows : List Row) (s : Said) → knows names place_id ≡ false → Holds names rows s
    → Holds names (used place (w ∷ []) rows) (with_places (w ∷ []) s)
holds_place names w rows s fresh h = record {
  places = placed_more w rows ∙ ap (λ ps. ps ++ w ∷ []) h.places;
  values = λ n k. ap (option_and_then (λ (r : Row). slice_get r.values 0)) (find_other w n rows (differs names place_id n fresh k)) ∙ h.values n k;
  has = λ n k. any_other w n rows (differs names place_id n fresh k) ∙ h.has n k;
}

-- ---- an option

abbrev new_row : Text → Text → Row
new_row n v = record { id = n; values = v ∷ []; count = None; source = Some CommandLine; reading = AsWritten }

neither : (a b : Bool) → (a || b) ≡ false → (a ≡ false) × (b ≡ false)
neither true b e = absurd (true≢false e)
neither false b e = (refl, e)

at_fresh : (id : Text) (change : Row → List Row) (missing rows : List Row) → has_row id rows ≡ false → at_row id change missing rows ≡ rows ++ missing
at_fresh id change missing [] e = refl
at_fresh id change missing (r ∷ rs) e =
    let both = neither (bytes_eq r.id id) (has_row id rs) e in
    rw both.0 (ap (λ xs. r ∷ xs) (at_fresh id change missing rs both.1))

pub option_added : (n v : Text) (rows : List Row) → has_row n rows ≡ false → used (option n) (v ∷ []) rows ≡ rows ++ new_row n v ∷ []
option_added n v rows e =
    let same : without n rows ≡ rows = at_fresh n (λ _. []) [] rows e ∙ append-nil rows in
    ap (with_values n AsWritten CommandLine (v ∷ [])) same ∙ at_fresh n (more_values CommandLine (v ∷ [])) (new_row n v ∷ []) rows e

find_miss : {X : Type 0} (p : X → Bool) (xs : List X) (x : X) → p x ≡ false → find p (xs ++ x ∷ []) ≡ find p xs
find_miss p [] x e = rw e refl
find_miss p (y ∷ ys) x e = ap (λ o. cond (p y) (Some y) o) (find_miss p ys x e)

find_hit : {X : Type 0} (p : X → Bool) (xs : List X) (x : X) → list_any p xs ≡ false → p x ≡ true → find p (xs ++ x ∷ []) ≡ Some x
find_hit p [] x none e = rw e refl
find_hit p (y ∷ ys) x none e =
    let both = neither (p y) (list_any p ys) none in
    rw both.0 (find_hit p ys x both.1 e)

or_swap : (a b c : Bool) → (a || (b || c)) ≡ (b || (a || c))
or_swap true true c = refl
or_swap true false c = refl
or_swap false true c = refl
or_swap false false c = refl

any_added : {X : Type 0} (p : X → Bool) (xs : List X) (x : X) → list_any p (xs ++ x ∷ []) ≡ (p x || list_any p xs)
any_added p [] x = refl
any_added p (y ∷ ys) x = ap (λ o. p y || o) (any_added p ys x) ∙ or_swap (p y) (p x) (list_any p ys)

-- an option isn't the places
not_place : (names : List Text) (n : Text) → knows names place_id ≡ false → knows names n ≡ true → bytes_eq n place_id ≡ false
not_place names n fresh k = go (bytes_eq n place_id) refl
  where
    go : (b : Bool) → bytes_eq n place_id ≡ b → bytes_eq n place_id ≡ false
    go true e = absurd (true≢false (sym k ∙ ap (knows names) (same_bytes n place_id e) ∙ fresh))
    go false e = e

pub holds_option : (names : List Text) (n v : Text) (rows : List Row) (s : Said) → knows names place_id ≡ false → knows names n ≡ true → has_option n s.options ≡ false
    → Holds names rows s → Holds names (used (option n) (v ∷ []) rows) (with_option n v s)
holds_option names n v rows s fresh known unused h =
    let absent : has_row n rows ≡ false = h.has n known ∙ unused in
    subst (λ rs. Holds names rs (with_option n v s)) (sym (option_added n v rows absent)) (record {
      places = ap (λ (o : Option Row). unwrap_or (option_map (λ r. r.values) o) []) (find_miss (λ r. bytes_eq r.id place_id) rows (new_row n v) (not_place names n fresh known)) ∙ h.places;
      values = λ m k. value m (bytes_eq n m) refl (h.values m k);
      has = λ m k. any_added (λ r. bytes_eq r.id m) rows (new_row n v) ∙ ap (λ b. bytes_eq n m || b) (h.has m k);
    })
  where
    value : (m : Text) (b : Bool) → bytes_eq n m ≡ b → first_of m rows ≡ value_of m s → first_of m (rows ++ new_row n v ∷ []) ≡ value_of m (with_option n v s)
    value m true e was =
        let none : has_row m rows ≡ false = ap (λ x. has_row x rows) (sym (same_bytes n m e)) ∙ (h.has n known ∙ unused) in
        rw e (ap (option_and_then (λ (r : Row). slice_get r.values 0)) (find_hit (λ r. bytes_eq r.id m) rows (new_row n v) none e))
    value m false e was = rw e (ap (option_and_then (λ (r : Row). slice_get r.values 0)) (find_miss (λ r. bytes_eq r.id m) rows (new_row n v) e) ∙ was)
