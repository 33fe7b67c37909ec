-- What verdicts tell of the questions that darts need, under node2vec.
use Rattle.std.proofs.Common.{◌≡◌, ℕ, ◌+◌, ◌-◌, ◌*◌, ◌/◌, ◌%◌, ◌<◌, ◌≤◌, Bool, true, false, not, ◌&&◌, List, length, sum, max, min, Option, Some, None, refl, arith}
use Rattle.std.specs.Prelude.{◌==◌, nat_lt, nat_le, if◌then◌else◌, option_map, option_and_then, slice_index}
use Rattle.std.proofs.lemmas.Bool.Decides.{nat_tests}
use Rattle.std.proofs.Math.Nat.{one-le-mul, mod-lt}
use Rattle.std.proofs.lemmas.Nat.{div_below}
use Rattle.std.proofs.lemmas.List.{get_or-map}
use Rattle.walk_model.specs.declared.programme.Fraction.{Fraction}
use Rattle.walk_model.specs.declared.messages.Question.TheVariants as question
use Rattle.walk_model.specs.Words.{fold_word}
use Rattle.walk_model.specs.Alias.{piece}
use Rattle.walk_model.specs.Factor.{common_factor, far_factor}
use Rattle.walk_model.specs.Lists.{first_above}
use Rattle.walk_model.specs.Dart.{area, main_area, back_weights}
use Rattle.walk_model.specs.Letters.{Asker, in_zone, needed_at}
use Rattle.dart_envelope.specs.ClassBoards.{ClassBoard, class_board, board_by, frame, height, low, known_at}
use Rattle.dart_envelope.specs.Verdicts.{judged, verdict_at, verdict_or_miss, verdict_of}
use Rattle.dart_envelope.specs.declared.verdict.Verdict.TheVariants as verdict
use Rattle.node2vec_walk.specs.Nearness.{class_factors, known_to}
use Rattle.node2vec_walk.specs.Destinations.{known_of}
use Rattle.traveller.specs.Far.{Tells, TellsAll}

-- the end that must be asked about, by three tests
abbrev need_of : Bool → Bool → Bool → ℕ → Option ℕ
need_of inside zone back end = if inside && zone && not back then Some end else None

-- where the class is known nothing is asked
tells-known : (cb : ClassBoard) (a : Asker) (edge h class : ℕ) (zone : Bool)
    → Tells a (option_map (question.Edge a.before) (need_of true zone true (slice_index a.ends edge))) (judged cb (Some class) edge h)
unfolding judged
tells-known cb a edge h class zone = by zone (nat_lt h (slice_index cb.factors class))
  where
    by : (zone under : Bool)
        → Tells a (option_map (question.Edge a.before) (need_of true zone true (slice_index a.ends edge))) (if under then verdict.Take edge else verdict.Turned)
    by true true = refl
    by true false = refl
    by false true = refl
    by false false = refl

-- where it isn't known, it is asked in the zone
tells-unknown : (cb : ClassBoard) (a : Asker) (edge h : ℕ) (zone under : Bool) → nat_lt h (low cb) ≡ under → zone ≡ not under
    → Tells a (option_map (question.Edge a.before) (need_of true zone false (slice_index a.ends edge))) (judged cb None edge h)
unfolding judged
tells-unknown cb a edge h zone under is lies = rw (is, lies) (by under)
  where
    by : (under : Bool)
        → Tells a (option_map (question.Edge a.before) (need_of true (not under) false (slice_index a.ends edge))) (if under then verdict.Take edge else verdict.Need edge h)
    by true = refl
    by false = refl

-- the board of three classes by the destinations of a row, over a run
abbrev pub tell_board : List ℕ → Fraction → Fraction → ℕ → List ℕ → ℕ × ℕ → ClassBoard
tell_board ws p q t dsts run = class_board ws (class_factors p q) (known_of t dsts) (Some run)

-- the zone of heights begins where the least factor ends
zone-is : (p q : Fraction) (a : Asker) (cb : ClassBoard) (h : ℕ) (under : Bool) → a.p ≡ p → a.q ≡ q → low cb ≡ min (common_factor p q) (far_factor p q)
    → h < max (common_factor p q) (far_factor p q) → nat_lt h (low cb) ≡ under → in_zone a h ≡ not under
unfolding in_zone
zone-is p q a cb h under is_p is_q least less is =
    let below : nat_lt h (max (common_factor p q) (far_factor p q)) ≡ true = grind (arith, nat_tests) in
    let flip : (u : Bool) → nat_lt h (min (common_factor p q) (far_factor p q)) ≡ u → nat_le (min (common_factor p q) (far_factor p q)) h ≡ not u = λ u.
    elim u as (λ u. nat_lt h (min (common_factor p q) (far_factor p q)) ≡ u → nat_le (min (common_factor p q) (far_factor p q)) h ≡ not u) [
      | true ↦ λ e. grind (arith, nat_tests)
      | false ↦ λ e. grind (arith, nat_tests)
    ] in
    let at : nat_lt h (min (common_factor p q) (far_factor p q)) ≡ under = rw least at is in
    rw (is_p, is_q, below, flip under at) (and-true (not under))
  where
    and-true : (b : Bool) → (b && true) ≡ b
    and-true true = refl
    and-true false = refl

-- a place of the board
tells-place : (ws : List ℕ) (p q : Fraction) (t : ℕ) (dsts : List ℕ) (run : ℕ × ℕ) (classes : List ℕ) (a : Asker) → a.p ≡ p → a.q ≡ q
    → a.before ≡ t → a.ends ≡ dsts → length ws ≡ length dsts → 1 ≤ p.top → 1 ≤ q.top
    → ((u : ℕ) → u < length ws * sum ws → piece ws u < length ws)
    → (x : ℕ) → (let cb = tell_board ws p q t dsts run in
    Tells a (option_map (question.Edge a.before) (needed_at a (board_by cb classes) x)) (verdict_at cb x))
unfolding needed_at verdict_at
tells-place ws p q t dsts run classes a is_p is_q before ends long hp hq within x =
    let cb : ClassBoard = tell_board ws p q t dsts run in
    let edge : ℕ = piece ws (x / height cb) in
    let h : ℕ = x % height cb in
    let some : 1 ≤ common_factor p q = one-le-mul hp hq in
    let high : height cb ≡ max (common_factor p q) (far_factor p q) = omega arith in
    let least : low cb ≡ min (common_factor p q) (far_factor p q) = omega arith in
    let positive : 0 < height cb = omega (arith, high, some) in
    let less : h < max (common_factor p q) (far_factor p q) = (let e = mod-lt x positive in omega (arith, e, high)) in
    let cases : (m : Bool) → nat_lt x (main_area (frame cb)) ≡ m
    → Tells a (option_map (question.Edge a.before) (need_of m (in_zone a h) (slice_index a.ends edge == a.before) (slice_index a.ends edge)))
    (if m then judged cb (known_at cb edge) edge h
    else verdict.Take ((frame cb).back_from + first_above ((x - main_area (frame cb)) / (frame cb).lift / length cb.weights) (back_weights (frame cb)))) = λ m.
    elim m as (λ m. nat_lt x (main_area (frame cb)) ≡ m
    → Tells a (option_map (question.Edge a.before) (need_of m (in_zone a h) (slice_index a.ends edge == a.before) (slice_index a.ends edge)))
    (if m then judged cb (known_at cb edge) edge h
    else verdict.Take ((frame cb).back_from + first_above ((x - main_area (frame cb)) / (frame cb).lift / length cb.weights) (back_weights (frame cb))))) [
      | false ↦ λ outside. refl
      | true ↦ λ inside.
          let low_place : x < length ws * sum ws * height cb = grind (arith, nat_tests) in
          let there : edge < length dsts = (let e = within (x / height cb) (div_below x (height cb) (length ws * sum ws) positive low_place) in omega (arith, e, long)) in
          let known : known_at cb edge ≡ known_to (slice_index a.ends edge) a.before = rw (ends, before) (get_or-map (λ x. known_to x t) dsts edge 0 None there) in
          let inner : (b : Bool) → (slice_index a.ends edge == a.before) ≡ b
          → Tells a (option_map (question.Edge a.before) (need_of true (in_zone a h) b (slice_index a.ends edge))) (judged cb (if◌then◌else◌ {A = Option ℕ} b (Some 0) None) edge h) = λ b.
          elim b as (λ b. (slice_index a.ends edge == a.before) ≡ b
          → Tells a (option_map (question.Edge a.before) (need_of true (in_zone a h) b (slice_index a.ends edge))) (judged cb (if◌then◌else◌ {A = Option ℕ} b (Some 0) None) edge h)) [
            | true ↦ λ e. tells-known cb a edge h 0 (in_zone a h)
            | false ↦ λ e. tells-unknown cb a edge h (in_zone a h) (nat_lt h (low cb)) refl (zone-is p q a cb h (nat_lt h (low cb)) is_p is_q least less refl)
          ] in
          rw known (inner (slice_index a.ends edge == a.before) refl)
    ] in
    cases (nat_lt x (main_area (frame cb))) refl

-- all words
pub tells-all : (ws : List ℕ) (p q : Fraction) (t : ℕ) (dsts : List ℕ) (run : ℕ × ℕ) (classes : List ℕ) (a : Asker) → a.p ≡ p → a.q ≡ q
    → a.before ≡ t → a.ends ≡ dsts → length ws ≡ length dsts → 1 ≤ p.top → 1 ≤ q.top
    → ((u : ℕ) → u < length ws * sum ws → piece ws u < length ws) → TellsAll (tell_board ws p q t dsts run) a classes
unfolding verdict_of
tells-all ws p q t dsts run classes a is_p is_q before ends long hp hq within w = by (fold_word (area (frame cb)) w)
  where
    cb : ClassBoard
    cb = tell_board ws p q t dsts run

    by : (o : Option ℕ) → Tells a (option_map (question.Edge a.before) (option_and_then (needed_at a (board_by cb classes)) o)) (verdict_or_miss cb o)
    by None = refl
    by (Some x) = tells-place ws p q t dsts run classes a is_p is_q before ends long hp hq within x
