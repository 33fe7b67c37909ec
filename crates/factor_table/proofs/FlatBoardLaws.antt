-- Where no return edge rises above the others, it doesn't matter which edges go back.
use Rattle.std.proofs.Common.{◌≡◌, ℕ, zero, suc, ◌+◌, ◌*◌, ◌/◌, ◌%◌, ◌^◌, ◌<◌, Bool, true, false, List, length, sum, refl, arith, ap, sym, ◌∙◌}
use Rattle.std.specs.Prelude.{nat_lt, nat_le, if◌then◌else◌, Some, None, option_and_then}
use Rattle.std.proofs.lemmas.Bool.Decides.{nat_tests}
use Rattle.walk_model.specs.Words.{fold_word}
use Rattle.walk_model.specs.Dart.{Board, area, edge_at, taken_at, hit, scanned, darts}

-- a board without a strip, with some run of return edges
abbrev pub flat_board : List ℕ → List ℕ → ℕ → ℕ → ℕ → Board
flat_board weights factors height from count = record {
  weights = weights;
  factors = factors;
  height = height;
  lift = 0;
  back_from = from;
  back_count = count;
}

-- all its places are in the main part
pub area-flat : (ws fs : List ℕ) (h from count : ℕ) → area (flat_board ws fs h from count) ≡ length ws * sum ws * h
area-flat ws fs h from count = omega arith

-- which no run of edges changes
edge_at-flat : (ws fs : List ℕ) (h from count x : ℕ) → x < length ws * sum ws * h
    → edge_at (flat_board ws fs h from count) x ≡ edge_at (flat_board ws fs h 0 0) x
unfolding edge_at taken_at
edge_at-flat ws fs h from count x low =
    let main : nat_lt x (length ws * sum ws * h) ≡ true = grind (arith, nat_tests) in
    rw main refl

-- a place that a word falls on is one of the places
at_fold : (b c : Board) (n w : ℕ) → ((x : ℕ) → x < n → edge_at b x ≡ edge_at c x)
    → option_and_then (edge_at b) (fold_word n w) ≡ option_and_then (edge_at c) (fold_word n w)
unfolding fold_word
at_fold b c n w same =
    let cases : (t : Bool) → nat_le (n * (2 ^ 64 / n)) w ≡ t
    → option_and_then (edge_at b) (if t then None else Some (w % n)) ≡ option_and_then (edge_at c) (if t then None else Some (w % n)) = λ t.
    elim t as (λ t. nat_le (n * (2 ^ 64 / n)) w ≡ t
    → option_and_then (edge_at b) (if t then None else Some (w % n)) ≡ option_and_then (edge_at c) (if t then None else Some (w % n))) [
      | true ↦ λ e. refl
      | false ↦ λ e. same (w % n) (within n w (grind (arith, nat_tests)))
    ] in
    cases (nat_le (n * (2 ^ 64 / n)) w) refl
  where
    within : (n w : ℕ) → w < n * (2 ^ 64 / n) → w % n < n
    within zero w h = absurd (omega arith)
    within (suc n) w h = omega arith

-- a dart takes the same edge
pub hit-flat : (ws fs : List ℕ) (h from count w : ℕ)
    → hit (flat_board ws fs h from count) w ≡ hit (flat_board ws fs h 0 0) w
unfolding hit
hit-flat ws fs h from count w =
    let b = flat_board ws fs h from count in
    let c = flat_board ws fs h 0 0 in
    ap (λ n. option_and_then (edge_at b) (fold_word n w)) (area-flat ws fs h from count)
    ∙ at_fold b c (length ws * sum ws * h) w (edge_at-flat ws fs h from count)
    ∙ sym (ap (λ n. option_and_then (edge_at c) (fold_word n w)) (area-flat ws fs h 0 0))

-- so do the darts and the scan after them
pub darts-flat : (retries : ℕ) (ws fs : List ℕ) (h from count : ℕ) (words : ℕ → ℕ) (place : ℕ)
    → darts retries (flat_board ws fs h from count) words place ≡ darts retries (flat_board ws fs h 0 0) words place
unfolding darts scanned
darts-flat zero ws fs h from count words place = refl
darts-flat (suc more) ws fs h from count words place =
    rw (hit-flat ws fs h from count (words place), darts-flat more ws fs h from count words (place + 1)) refl
