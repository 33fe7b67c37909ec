-- An index over rising names, and what a look into it tells.
use Rattle.std.proofs.Common.{◌≡◌, ℕ, zero, suc, ◌+◌, ◌-◌, ◌^◌, ◌<◌, ◌≤◌, ◌⊎◌, inl, inr, Bool, true, false, List, [], ◌∷◌, ◌++◌, length, get_or, refl, arith, ap, sym, ◌∙◌, Some, None}
use Rattle.std.specs.Prelude.{nat_lt, ◌==◌, slice_index, slice_range}
use Rattle.std.specs.List.Sorted.{IsStrictlyIncreasing, IsNonDecreasing}
use Rattle.std.proofs.Math.Nat.{div-mul-le_self}
use Rattle.std.proofs.lemmas.Nat.{le-div, pow_pos}
use Rattle.std.proofs.lemmas.Bool.{eq-eqb, ne_eqb}
use Rattle.std.proofs.lemmas.Bool.Decides.{nat_tests}
use Rattle.std.proofs.lemmas.List.{get_or_append_left, get_or_push, length_push, get_or_default}
use Rattle.std.proofs.lemmas.List.Edits.{length-between, get_or-between}
use Rattle.std.proofs.lemmas.List.Folds.{list_any_at, list_any_none}
use Rattle.std.proofs.lemmas.List.Kept.{AllPairs-from_increasing}
use Rattle.vertex_names.specs.Ranks.{is_name, rank_in, rank_of}
use Rattle.vertex_names.specs.NameIndex.{bucket_of, IsIndex}
use Rattle.vertex_names.proofs.ListLemmas.{count-partition}

-- a later place of a rising list holds a greater number
pub later : (xs : List ℕ) → IsStrictlyIncreasing xs → (i j : ℕ) → i < j → j < length xs → slice_index xs i < slice_index xs j
later xs up i j h within = AllPairs-from_increasing xs up i j 0 h within

pub non_decreasing : (xs : List ℕ) → IsStrictlyIncreasing xs → IsNonDecreasing xs
non_decreasing xs up = λ i j d le within.
    let cases : (b : Bool) → (i == j) ≡ b → get_or xs i d ≤ get_or xs j d = λ b.
    elim b as (λ b. (i == j) ≡ b → get_or xs i d ≤ get_or xs j d) [
      | true ↦ λ e. let same : i ≡ j = grind (arith, nat_tests) in rw same (omega arith)
      | false ↦ λ e.
          let less : i < j = grind (arith, nat_tests) in
          let up' = AllPairs-from_increasing xs up i j d less within in omega arith
    ] in
    cases (i == j) refl

-- the place of a name is its rank
pub rank-at : (names : List ℕ) (k id : ℕ) → IsStrictlyIncreasing names → k < length names → slice_index names k ≡ id → rank_in names id ≡ k
rank-at names k id up h is =
    count-partition (λ y. nat_lt y id) names k (omega arith)
    (λ j d b. (
    let less = later names up j k b h in
    let same = get_or_default names j d 0 (omega arith) in
    rw same (let l : slice_index names j < id = omega arith in grind (arith, nat_tests))))
    (λ j d b c. (
    let more = non_decreasing names up k j 0 b c in
    let same = get_or_default names j d 0 c in
    rw same (let l : id ≤ slice_index names j = omega arith in grind (arith, nat_tests))))

pub rank_of-at : (names : List ℕ) (k id : ℕ) → IsStrictlyIncreasing names → k < length names → slice_index names k ≡ id
    → Some k ≡ rank_of names id
rank_of-at names k id up h is =
    let there : is_name names id ≡ true = list_any_at (λ y. y == id) names k 0 h (eq-eqb (slice_index names k) id is) in
    rw (there, rank-at names k id up h is) refl

-- a number at no place has no rank
pub rank_of-none : (names : List ℕ) (id : ℕ) → ((k : ℕ) → k < length names → slice_index names k ≡ id → ⊥) → None ≡ rank_of names id
rank_of-none names id none =
    let missing : is_name names id ≡ false = list_any_none (λ y. y == id) names
    (λ k d h. rw (get_or_default names k d 0 h) (ne_eqb (slice_index names k) id (none k h))) in
    rw missing refl

-- the bucket of a greater name isn't a lesser one
pub bucket-mono : (first shift x y : ℕ) → x ≤ y → bucket_of first shift x ≤ bucket_of first shift y
bucket-mono first shift x y h =
    let low = div-mul-le_self (x - first) (2 ^ shift) in
    le-div (bucket_of first shift x) (y - first) (2 ^ shift) (pow_pos shift) (omega arith)

-- one more bucket
pub IsIndex-push : (first shift : ℕ) (names starts : List ℕ) (p : ℕ) → p ≤ length names
    → ((k : ℕ) → k < p → bucket_of first shift (slice_index names k) < length starts)
    → ((k : ℕ) → p ≤ k → k < length names → length starts ≤ bucket_of first shift (slice_index names k))
    → IsIndex first shift names starts → IsIndex first shift names (starts ++ p ∷ [])
IsIndex-push first shift names starts p h low high index =
    let more = length_push starts p in
    let cases : (b : ℕ) → b < length (starts ++ p ∷ []) → ((b < length starts) × (slice_index (starts ++ p ∷ []) b ≡ slice_index starts b))
    ⊎ ((b ≡ length starts) × (slice_index (starts ++ p ∷ []) b ≡ p)) = λ b inside.
    (let split : (t : Bool) → (b == length starts) ≡ t → ((b < length starts) × (slice_index (starts ++ p ∷ []) b ≡ slice_index starts b))
    ⊎ ((b ≡ length starts) × (slice_index (starts ++ p ∷ []) b ≡ p)) = λ t.
    elim t as (λ t. (b == length starts) ≡ t → ((b < length starts) × (slice_index (starts ++ p ∷ []) b ≡ slice_index starts b))
    ⊎ ((b ≡ length starts) × (slice_index (starts ++ p ∷ []) b ≡ p))) [
      | true ↦ λ e. let b_is : b ≡ length starts = grind (arith, nat_tests) in inr (b_is, get_or_push starts p 0 b (sym b_is))
      | false ↦ λ e. let less : b < length starts = grind (arith, nat_tests) in inl (less, get_or_append_left starts (p ∷ []) 0 b less)
    ] in
    split (b == length starts) refl) in
    record {
      before = λ b k inside under. elim (cases b inside) [
        | inl w ↦ index.before b k w.0 (let v = w.1 in omega arith)
        | inr w ↦ let v = w.1 in let e = w.0 in let l = low k (omega arith) in omega arith
      ];
      behind = λ b k inside over within. elim (cases b inside) [
        | inl w ↦ index.behind b k w.0 (let v = w.1 in omega arith) within
        | inr w ↦ let v = w.1 in let e = w.0 in let l = high k (omega arith) within in omega arith
      ];
      within = λ b inside. elim (cases b inside) [
        | inl w ↦ let v = w.1 in let l = index.within b w.0 in omega arith
        | inr w ↦ let v = w.1 in omega arith
      ];
    }

-- an index with no buckets
pub IsIndex-none : (first shift : ℕ) (names : List ℕ) → IsIndex first shift names []
IsIndex-none first shift names = record {
  before = λ b k inside under. absurd (omega arith);
  behind = λ b k inside over within. absurd (omega arith);
  within = λ b inside. absurd (omega arith);
}

-- the first names stand in buckets that the index has, and the next one in the last of them or later
pub record IsIndexed (first shift : ℕ) (names starts : List ℕ) (i : ℕ) : Type 0 where
  pub within : i ≤ length names
  pub index : IsIndex first shift names starts
  pub last : (k : ℕ) → k < i → bucket_of first shift (slice_index names k) < length starts
  pub next : (k : ℕ) → i ≤ k → k < length names → length starts ≤ bucket_of first shift (slice_index names k) + 1

pub IsIndexed-none : (first shift : ℕ) (names : List ℕ) → IsIndexed first shift names [] 0
IsIndexed-none first shift names = record {
  within = omega arith;
  index = IsIndex-none first shift names;
  last = λ k h. absurd (omega arith);
  next = λ k h within. omega arith;
}

pub IsIndexed-push : (first shift : ℕ) (names starts : List ℕ) (i : ℕ) → IsStrictlyIncreasing names → i < length names
    → length starts ≤ bucket_of first shift (slice_index names i) → IsIndexed first shift names starts i
    → IsIndexed first shift names (starts ++ i ∷ []) i
IsIndexed-push first shift names starts i up h room x =
    let more = length_push starts i in
    let later_ones : (k : ℕ) → i ≤ k → k < length names → length starts ≤ bucket_of first shift (slice_index names k) = λ k le within.
    (let climb = bucket-mono first shift (slice_index names i) (slice_index names k) (non_decreasing names up i k 0 le within) in omega arith) in
    record {
      within = x.within;
      index = IsIndex-push first shift names starts i (omega arith) x.last later_ones x.index;
      last = λ k b. let l = x.last k b in omega arith;
      next = λ k b c. let l = later_ones k b c in omega arith;
    }

pub IsIndexed-more : (first shift : ℕ) (names starts : List ℕ) (i : ℕ) → i < length names
    → bucket_of first shift (slice_index names i) < length starts → IsIndexed first shift names starts i
    → IsIndexed first shift names starts (i + 1)
IsIndexed-more first shift names starts i h room x = record {
  within = omega arith;
  index = x.index;
  last = λ k b. (
      let cases : (t : Bool) → (k == i) ≡ t → bucket_of first shift (slice_index names k) < length starts = λ t.
      elim t as (λ t. (k == i) ≡ t → bucket_of first shift (slice_index names k) < length starts) [
        | true ↦ λ e. let k_is : k ≡ i = grind (arith, nat_tests) in rw k_is room
        | false ↦ λ e. x.last k (grind (arith, nat_tests))
      ] in
      cases (k == i) refl);
  next = λ k b c. x.next k (omega arith) c;
}

pub IsIndexed-all : (first shift : ℕ) (names starts : List ℕ) (i : ℕ) → length names ≤ i → IsIndexed first shift names starts i
    → IsIndex first shift names (starts ++ length names ∷ [])
IsIndexed-all first shift names starts i h x =
    IsIndex-push first shift names starts (length names) (omega arith) (λ k b. x.last k (omega arith)) (λ k b c. absurd (omega arith)) x.index

-- the part of a bucket lies within the names
pub part-rises : (first shift : ℕ) (names starts : List ℕ) (b : ℕ) → b + 1 < length starts → IsIndex first shift names starts
    → slice_index starts b ≤ slice_index starts (b + 1)
part-rises first shift names starts b h index =
    let cases : (t : Bool) → nat_lt (slice_index starts (b + 1)) (slice_index starts b) ≡ t → slice_index starts b ≤ slice_index starts (b + 1) = λ t.
    elim t as (λ t. nat_lt (slice_index starts (b + 1)) (slice_index starts b) ≡ t → slice_index starts b ≤ slice_index starts (b + 1)) [
      | true ↦ λ e.
          let less : slice_index starts (b + 1) < slice_index starts b = grind (arith, nat_tests) in
          let top = index.within b (omega arith) in
          let low = index.before b (slice_index starts (b + 1)) (omega arith) less in
          let high = index.behind (b + 1) (slice_index starts (b + 1)) h (omega arith) (omega arith) in
          absurd (omega arith)
      | false ↦ λ e. grind (arith, nat_tests)
    ] in
    cases (nat_lt (slice_index starts (b + 1)) (slice_index starts b)) refl

pub increasing-part : (names : List ℕ) (from to : ℕ) → to ≤ length names → IsStrictlyIncreasing names → IsStrictlyIncreasing (slice_range names from to)
increasing-part names from to h up k within =
    let long = length-between names from to h in
    let here = get_or-between names from to k 0 (omega arith) in
    let next = get_or-between names from to (k + 1) 0 (omega arith) in
    let less = later names up (from + k) (from + (k + 1)) (omega arith) (omega arith) in
    omega arith

-- an id that isn't at its place in its bucket is at no place
pub missing : (first shift : ℕ) (names starts : List ℕ) (id place : ℕ) → IsStrictlyIncreasing names → IsIndex first shift names starts
    → bucket_of first shift id + 1 < length starts
    → place ≡ rank_in (slice_range names (slice_index starts (bucket_of first shift id)) (slice_index starts (bucket_of first shift id + 1))) id
    → (place < length (slice_range names (slice_index starts (bucket_of first shift id)) (slice_index starts (bucket_of first shift id + 1)))
    → slice_index (slice_range names (slice_index starts (bucket_of first shift id)) (slice_index starts (bucket_of first shift id + 1))) place ≡ id → ⊥)
    → (k : ℕ) → k < length names → slice_index names k ≡ id → ⊥
missing first shift names starts id place up index inside at none k h is =
    let b = bucket_of first shift id in
    let from = slice_index starts (bucket_of first shift id) in
    let to = slice_index starts (bucket_of first shift id + 1) in
    let own : bucket_of first shift (slice_index names k) ≡ bucket_of first shift id = ap (bucket_of first shift) is in
    let top = index.within (bucket_of first shift id + 1) inside in
    let not_before : k < slice_index starts (bucket_of first shift id) → ⊥ = λ z.
    (let low = index.before (bucket_of first shift id) k (omega arith) z in omega arith) in
    let not_behind : slice_index starts (bucket_of first shift id + 1) ≤ k → ⊥ = λ z.
    (let high = index.behind (bucket_of first shift id + 1) k inside z h in omega arith) in
    let long = length-between names from to top in
    let spot : k - slice_index starts (bucket_of first shift id) < length (slice_range names (slice_index starts (bucket_of first shift id)) (slice_index starts (bucket_of first shift id + 1))) = omega arith in
    let read : slice_index (slice_range names (slice_index starts (bucket_of first shift id)) (slice_index starts (bucket_of first shift id + 1))) (k - slice_index starts (bucket_of first shift id)) ≡ id =
    get_or-between names from to (k - from) 0 (omega arith) ∙ ap (slice_index names) (let e : from + (k - from) ≡ k = omega arith in e) ∙ is in
    let rank = rank-at (slice_range names from to) (k - from) id (increasing-part names from to top up) spot read in
    let same : place ≡ k - slice_index starts (bucket_of first shift id) = at ∙ rank in
    none (omega arith) (ap (slice_index (slice_range names from to)) same ∙ read)

-- names that rise without a gap stand at their distance from the first
pub spread : (names : List ℕ) (first : ℕ) → IsStrictlyIncreasing names → slice_index names 0 ≡ first
    → slice_index names (length names - 1) ≡ first + (length names - 1) → (k : ℕ) → k < length names → slice_index names k ≡ first + k
spread names first up low high k h =
    let before = climbs names up 0 k (omega arith) h in
    let behind = climbs names up k (length names - 1) (omega arith) (omega arith) in
    omega arith
  where
    -- names rise by at least one a place
    climbs : (names : List ℕ) → IsStrictlyIncreasing names → (i j : ℕ) → i ≤ j → j < length names
        → slice_index names i + (j - i) ≤ slice_index names j
    climbs names up i zero le h = let i_is : i ≡ 0 = omega arith in rw i_is (omega arith)
    climbs names up i (suc j) le h =
        let cases : (b : Bool) → (i == suc j) ≡ b → slice_index names i + (suc j - i) ≤ slice_index names (suc j) = λ b.
        elim b as (λ b. (i == suc j) ≡ b → slice_index names i + (suc j - i) ≤ slice_index names (suc j)) [
          | true ↦ λ e. let i_is : i ≡ suc j = grind (arith, nat_tests) in rw i_is (omega arith)
          | false ↦ λ e.
              let less : i ≤ j = grind (arith, nat_tests) in
              let before = climbs names up i j less (omega arith) in
              let step = later names up j (suc j) (omega arith) h in
              omega arith
        ] in
        cases (i == suc j) refl
