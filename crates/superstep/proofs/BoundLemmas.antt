-- How many letters a walk has at most.
use Rattle.std.proofs.Common.{ℕ, zero, suc, ◌+◌, ◌*◌, ◌<◌, ◌≤◌, Bool, true, false, List, length, arith, None, Some, length-append}
use Rattle.std.specs.Prelude.{Option, option_and_then, ◌||◌, ◌==◌, if◌then◌else◌}
use Rattle.std.proofs.Math.Nat.{suc-mul}
use Rattle.walk_model.specs.declared.graph.Edge.{Edge}
use Rattle.walk_model.specs.declared.messages.Letter.{Letter}
use Rattle.walk_model.specs.declared.programme.Rule.{Rule}
use Rattle.walk_model.specs.declared.programme.Rule.TheVariants.{Plain, Scheme, Node2vec}
use Rattle.walk_model.specs.declared.states.State.{State}
use Rattle.walk_model.specs.Counts.{sum_below}
use Rattle.walk_model.specs.Course.{Course}
use Rattle.walk_model.specs.Dart.{Board, area, hit, board_of}
use Rattle.walk_model.specs.Factor.{common_factor, far_factor}
use Rattle.walk_model.specs.Graph.{row}
use Rattle.walk_model.specs.Letters.{Journey, Asker, asker, needed_at, edge_letters, scan_letters, unless_hit, dart_letters, choice_letters, ask_letters, move_letters, letters_then, letters_after}
use Rattle.walk_model.specs.Walk.{next_state}
use Rattle.walk_model.specs.Words.{coin, fold_word}

-- a choice between lists is no longer than the longer one
choice-le : (b : Bool) (xs ys : List Letter) (n : ℕ) → length xs ≤ n → length ys ≤ n → length (if b then xs else ys) ≤ n
choice-le true xs ys n h k = h
choice-le false xs ys n h k = k

scan-le : (a : Asker) → length (scan_letters a) ≤ 2
unfolding scan_letters
scan-le a = choice-le (common_factor a.p a.q == far_factor a.p a.q) _ _ 2 (omega arith) (omega arith)

edge-le : (edges : List Edge) (a : Asker) (o : Option ℕ) → length (edge_letters edges a o) ≤ 2
edge-le edges a None = omega arith
edge-le edges a (Some x) = omega arith

unless-le : (o : Option ℕ) (ls : List Letter) → length (unless_hit o ls) ≤ length ls
unless-le None ls = omega arith
unless-le (Some edge) ls = omega arith

-- at most two letters a dart, and two for the scan
darts-le : (n : ℕ) (c : Course) (a : Asker) (b : Board) (place : ℕ) → length (dart_letters n c a b place) ≤ 2 * n + 2
unfolding dart_letters
darts-le zero c a b place = omega (arith, scan-le a)
darts-le (suc n) c a b place =
    let first = edge_letters c.edges a (option_and_then (needed_at a b) (fold_word (area b) (c.words place))) in
    let later = unless_hit (hit b (c.words place)) (dart_letters n c a b (place + 1)) in
    omega (
      arith,
      length-append first later,
      edge-le c.edges a (option_and_then (needed_at a b) (fold_word (area b) (c.words place))),
      unless-le (hit b (c.words place)) (dart_letters n c a b (place + 1)),
      darts-le n c a b (place + 1),
    )

choose-le : (j : Journey) (s : State) (place : ℕ) (rule : Rule) (previous : Option ℕ)
    → length (choice_letters j s place rule previous) ≤ 2 * j.course.plan.retries + 2
unfolding choice_letters
choose-le j s place Plain previous = omega arith
choose-le j s place (Scheme kinds) previous = omega arith
choose-le j s place (Node2vec p q) None = omega arith
choose-le j s place (Node2vec p q) (Some t) =
    let c = j.course in
    let out = row c.edges s.at in
    choice-le (j.owner t == j.owner s.at || length out == 0) _ _ (2 * c.plan.retries + 2) (omega arith)
    (darts-le c.plan.retries c (asker j s t p q) (board_of c.edges c.plan s out) place)

asks-le : (j : Journey) (s : State) → length (ask_letters j s) ≤ 2 * j.course.plan.retries + 2
unfolding ask_letters
asks-le j s =
    let c = j.course in
    let stop = coin c.plan.stop c.words s.place in
    let restart = coin c.plan.restart c.words stop.1 in
    choice-le (stop.0 || restart.0) _ _ (2 * c.plan.retries + 2) (omega arith) (choose-le j s restart.1 c.plan.rule s.previous)

move-le : (j : Journey) (s t : State) → length (move_letters j s t) ≤ 1
unfolding move_letters
move-le j s t = choice-le (j.owner s.at == j.owner t.at) _ _ 1 (omega arith) (omega arith)

then-le : (j : Journey) (s : State) (o : Option State) (later : State → List Letter) (n : ℕ) → ((t : State) → length (later t) ≤ n)
    → length (letters_then j s o later) ≤ 1 + n
then-le j s None later n h = omega arith
then-le j s (Some t) later n h = omega (arith, length-append (move_letters j s t) (later t), move-le j s t, h t)

-- at most so many letters a step
pub letters-le : (n : ℕ) (j : Journey) (s : State) → length (letters_after n j s) ≤ n * (2 * j.course.plan.retries + 3)
unfolding letters_after
letters-le zero j s = omega arith
letters-le (suc n) j s =
    let more = 2 * j.course.plan.retries + 3 in
    let first = ask_letters j s in
    let later = letters_then j s (next_state j.course s) (letters_after n j) in
    let rest = then-le j s (next_state j.course s) (letters_after n j) (n * more) (λ t. letters-le n j t) in
    omega (arith, length-append first later, asks-le j s, suc-mul n more)

-- sums of what is no more than a bound each
pub sum_below-le : (n : ℕ) (f : ℕ → ℕ) (most : ℕ) → ((i : ℕ) → i < n → f i ≤ most) → sum_below n f ≤ n * most
unfolding sum_below
sum_below-le zero f most h = omega arith
sum_below-le (suc n) f most h =
    let before = sum_below-le n f most (λ i low. h i (omega arith)) in
    omega (arith, h n (omega arith), suc-mul n most)
