-- Scans, edge by edge.
use Rattle.std.proofs.Common.{◌≡◌, ℕ, suc, ◌+◌, ◌-◌, ◌*◌, ◌<◌, ◌≤◌, true, false, List, ◌∷◌, length, get_or, drop, refl, arith, Some, None, inl, inr}
use Rattle.std.specs.Prelude.{nat_lt, ◌==◌}
use Rattle.std.proofs.lemmas.List.{drop_more}
use Rattle.std.proofs.Math.ListN.{drop_of_length-le}
use Rattle.std.proofs.lemmas.List.Sums.{sum_by-cons}
use Rattle.std.proofs.lemmas.Bool.{cases_lt}
use Rattle.std.proofs.lemmas.Bool.Decides.{nat_tests}
use Rattle.walk_model.specs.Lists.{first_above, products}
use Rattle.dart_envelope.specs.Scans.{total_of, scan_of}

-- what is left from an edge on: the edge's part first, and then the later ones
pub products-split : (ws fs : List ℕ) (i : ℕ) → i < length ws → length fs ≡ length ws
    → products (drop i ws) (drop i fs) ≡ get_or ws i 0 * get_or fs i 0 ∷ products (drop (i + 1) ws) (drop (i + 1) fs)
unfolding products
products-split ws fs i inside long = rw (drop_more ws i 0 inside, drop_more fs i 0 (omega arith)) refl

pub total-split : (ws fs : List ℕ) (i : ℕ) → i < length ws → length fs ≡ length ws
    → total_of (drop i ws) (drop i fs) ≡ get_or ws i 0 * get_or fs i 0 + total_of (drop (i + 1) ws) (drop (i + 1) fs)
total-split ws fs i inside long =
    rw (products-split ws fs i inside long)
    (sum_by-cons (λ x. x) (get_or ws i 0 * get_or fs i 0) (products (drop (i + 1) ws) (drop (i + 1) fs)))

-- nothing is left behind the last edge
pub total-end : (ws fs : List ℕ) (i : ℕ) → length ws ≤ i → total_of (drop i ws) (drop i fs) ≡ 0
unfolding products
total-end ws fs i past = rw (drop_of_length-le ws past) refl

-- an edge whose part exceeds what is left is the first above it
pub first_above-now : (z x : ℕ) (xs : List ℕ) → z < x → first_above z (x ∷ xs) ≡ 0
unfolding first_above
first_above-now z x xs h = let e : nat_lt z x ≡ true = grind (arith, nat_tests) in rw e refl

-- and else the first one is among the later edges
pub first_above-later : (z x : ℕ) (xs : List ℕ) → x ≤ z → first_above z (x ∷ xs) ≡ suc (first_above (z - x) xs)
unfolding first_above
first_above-later z x xs h = let e : nat_lt z x ≡ false = grind (arith, nat_tests) in rw e refl

-- a scan finds nothing where nothing has a weight, and else the first edge above z
pub scan-none : (ws fs : List ℕ) (z : ℕ) → total_of ws fs ≡ 0 → None ≡ scan_of ws fs z
unfolding scan_of
scan-none ws fs z none = rw none refl

pub scan-some : (ws fs : List ℕ) (z i : ℕ) → 1 ≤ total_of ws fs → i ≡ first_above z (products ws fs) → Some i ≡ scan_of ws fs z
unfolding scan_of
scan-some ws fs z i some is =
    let e : (total_of ws fs == 0) ≡ false = grind (arith, nat_tests) in
    rw (e, is) refl

-- a scan has passed the edges before one: so much of z is left, and the first edge above it is still to come
pub record IsScanned (ws fs : List ℕ) (z left i : ℕ) : Type 0 where
  pub less : left ≤ z
  pub rest : left + total_of ws fs ≡ z + total_of (drop i ws) (drop i fs)
  pub first : i + first_above left (products (drop i ws) (drop i fs)) ≡ first_above z (products ws fs)

-- it passes an edge whose part doesn't exceed what is left
pub scanned-past : (ws fs : List ℕ) (z left i : ℕ) → i < length ws → length fs ≡ length ws → IsScanned ws fs z left i
    → get_or ws i 0 * get_or fs i 0 ≤ left → IsScanned ws fs z (left - get_or ws i 0 * get_or fs i 0) (i + 1)
scanned-past ws fs z left i inside long so past =
    let part = get_or ws i 0 * get_or fs i 0 in
    let split = total-split ws fs i inside long in
    let less = so.less in
    let rest = so.rest in
    let first = so.first in
    let later : first_above left (products (drop i ws) (drop i fs)) ≡ suc (first_above (left - part) (products (drop (i + 1) ws) (drop (i + 1) fs))) =
    rw (products-split ws fs i inside long) (first_above-later left part (products (drop (i + 1) ws) (drop (i + 1) fs)) past) in
    record { less = omega arith; rest = omega arith; first = omega arith }

-- it ends at the first edge whose part exceeds it
pub scanned-here : (ws fs : List ℕ) (z left i : ℕ) → i < length ws → length fs ≡ length ws → IsScanned ws fs z left i
    → left < get_or ws i 0 * get_or fs i 0 → Some i ≡ scan_of ws fs z
scanned-here ws fs z left i inside long so here =
    let split = total-split ws fs i inside long in
    let less = so.less in
    let rest = so.rest in
    let first = so.first in
    let now : first_above left (products (drop i ws) (drop i fs)) ≡ 0 =
    rw (products-split ws fs i inside long) (first_above-now left (get_or ws i 0 * get_or fs i 0) (products (drop (i + 1) ws) (drop (i + 1) fs)) here) in
    scan-some ws fs z i (omega arith) (omega arith)

-- behind the last edge nothing had a weight
pub scanned-none : (ws fs : List ℕ) (z left i : ℕ) → length ws ≤ i → IsScanned ws fs z left i
    → (1 ≤ total_of ws fs → z < total_of ws fs) → None ≡ scan_of ws fs z
scanned-none ws fs z left i past so below =
    let done = total-end ws fs i past in
    let less = so.less in
    let rest = so.rest in
    let nothing : total_of ws fs ≡ 0 = elim (cases_lt 0 (total_of ws fs)) [
      | inl some ↦ absurd (let high = below some in omega arith)
      | inr none ↦ omega arith
    ] in
    scan-none ws fs z nothing

-- two lists of factors by which the same was passed have the same total
pub same-total : (ws fs gs : List ℕ) (z left i : ℕ) → length ws ≤ i → IsScanned ws fs z left i → IsScanned ws gs z left i
    → total_of ws fs ≡ total_of ws gs
same-total ws fs gs z left i past so sg =
    let done = total-end ws fs i past in
    let done_too = total-end ws gs i past in
    let rest = so.rest in
    let rest_too = sg.rest in
    omega arith
