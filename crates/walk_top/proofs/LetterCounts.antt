-- How many letters of a walk are moves and asks: a move at each change of the owner, and a reply to each ask.
use Rattle.std.proofs.Common.{◌≡◌, ◌≤◌, ◌+◌, ◌-◌, ◌*◌, ℕ, zero, suc, Bool, true, false, List, [], ◌∷◌, ◌++◌, length, Option, Some, None, refl, arith}
use Rattle.std.specs.Prelude.{cond, option_and_then, ◌==◌, ◌||◌, if◌then◌else◌}
use Rattle.std.proofs.lemmas.List.{length-append}
use Rattle.std.proofs.lemmas.List.Sums.{sum_by-append}
use Rattle.walk_model.specs.declared.graph.Edge.{Edge}
use Rattle.walk_model.specs.declared.messages.Letter.{Letter}
use Rattle.walk_model.specs.declared.messages.What.TheVariants.{Move, AskRow, ReplyRow}
use Rattle.walk_model.specs.declared.programme.Rule.{Rule}
use Rattle.walk_model.specs.declared.programme.Rule.TheVariants.{Plain, Scheme, Node2vec}
use Rattle.walk_model.specs.declared.states.State.{State}
use Rattle.walk_model.specs.Course.{Course}
use Rattle.walk_model.specs.Dart.{Board, area, board_of, hit}
use Rattle.walk_model.specs.Factor.{common_factor, far_factor}
use Rattle.walk_model.specs.Graph.{row}
use Rattle.walk_model.specs.Letters.{Journey, Asker, asked, asker, needed_at, edge_letters, scan_letters, unless_hit, dart_letters, choice_letters, ask_letters, move_letters, letters_then, letters_after}
use Rattle.walk_model.specs.Walk.{entries_after, entry_and, first_state, next_state}
use Rattle.walk_model.specs.Words.{coin, fold_word}
use Rattle.traveller.specs.PartedRuns.{PartedRun, journey_in, letters_in, walk_in}
use Rattle.walk_top.specs.Changes.{changes, changes_from}
use Rattle.walk_top.specs.Reports.{count_saying, is_ask, is_move}

-- so many of the letters are moves, and the others are asks, with a reply to each
pub record HasMoves (letters : List Letter) (n : ℕ) : Type 0 where
  pub moves : count_saying is_move letters ≡ n
  pub pairs : length letters ≡ n + 2 * count_saying is_ask letters

moves-none : HasMoves [] 0
moves-none = record { moves = refl; pairs = refl }

moves-both : (a b : List Letter) (m n : ℕ) → HasMoves a m → HasMoves b n → HasMoves (a ++ b) (m + n)
moves-both a b m n here there =
    let long = length-append a b in
    let moves = sum_by-append (λ (l : Letter). cond (is_move l.what) 1 0) a b in
    let asks = sum_by-append (λ (l : Letter). cond (is_ask l.what) 1 0) a b in
    let m1 = here.moves in
    let m2 = there.moves in
    let p1 = here.pairs in
    let p2 = there.pairs in
    record { moves = omega (arith, moves, m1, m2); pairs = omega (arith, long, asks, p1, p2) }

-- asks before letters change no number of moves
moves-behind : (a b : List Letter) (n : ℕ) → HasMoves a 0 → HasMoves b n → HasMoves (a ++ b) n
moves-behind a b n here there =
    let both = moves-both a b 0 n here there in
    let moves = both.moves in
    let pairs = both.pairs in
    record { moves = omega (arith, moves); pairs = omega (arith, pairs) }

edge-moves : (edges : List Edge) (a : Asker) (o : Option ℕ) → HasMoves (edge_letters edges a o) 0
edge-moves edges a None = moves-none
edge-moves edges a (Some x) = record { moves = refl; pairs = refl }

if-moves : (b : Bool) (letters : List Letter) → HasMoves letters 0 → HasMoves (if b then [] else letters) 0
if-moves true letters here = moves-none
if-moves false letters here = here

scan-moves : (a : Asker) → HasMoves (scan_letters a) 0
unfolding scan_letters
scan-moves a =
    if-moves (common_factor a.p a.q == far_factor a.p a.q) (asked a (AskRow a.before) (ReplyRow a.before)) (record { moves = refl; pairs = refl })

unless-moves : (o : Option ℕ) (later : List Letter) → HasMoves later 0 → HasMoves (unless_hit o later) 0
unless-moves None later here = here
unless-moves (Some edge) later here = moves-none

dart-moves : (n : ℕ) (c : Course) (a : Asker) (b : Board) (place : ℕ) → HasMoves (dart_letters n c a b place) 0
unfolding dart_letters
dart-moves zero c a b place = scan-moves a
dart-moves (suc n) c a b place =
    moves-both _ _ 0 0 (edge-moves c.edges a (option_and_then (needed_at a b) (fold_word (area b) (c.words place))))
    (unless-moves (hit b (c.words place)) _ (dart-moves n c a b (place + 1)))

choice-moves : (j : Journey) (s : State) (place : ℕ) (rule : Rule) (previous : Option ℕ) → HasMoves (choice_letters j s place rule previous) 0
unfolding choice_letters
choice-moves j s place Plain previous = moves-none
choice-moves j s place (Scheme kinds) previous = moves-none
choice-moves j s place (Node2vec p q) None = moves-none
choice-moves j s place (Node2vec p q) (Some t) =
    let c = j.course in
    let out = row c.edges s.at in
    if-moves (j.owner t == j.owner s.at || length out == 0) (dart_letters c.plan.retries c (asker j s t p q) (board_of c.edges c.plan s out) place)
    (dart-moves c.plan.retries c (asker j s t p q) (board_of c.edges c.plan s out) place)

ask-moves : (j : Journey) (s : State) → HasMoves (ask_letters j s) 0
unfolding ask_letters
ask-moves j s =
    let c = j.course in
    let stop = coin c.plan.stop c.words s.place in
    let restart = coin c.plan.restart c.words stop.1 in
    if-moves (stop.0 || restart.0) (choice_letters j s restart.1 c.plan.rule s.previous) (choice-moves j s restart.1 c.plan.rule s.previous)

step-moves : (j : Journey) (s t : State) → HasMoves (move_letters j s t) (if j.owner s.at == j.owner t.at then 0 else 1)
unfolding move_letters
step-moves j s t =
    unless-same (j.owner s.at == j.owner t.at)
    (record { walker = j.walker; step = t.steps; from = j.owner s.at; to = j.owner t.at; what = Move } ∷ []) (record { moves = refl; pairs = refl })
  where
    unless-same : (b : Bool) (letters : List Letter) → HasMoves letters 1 → HasMoves (if b then [] else letters) (if b then 0 else 1)
    unless-same true letters here = moves-none
    unless-same false letters here = here

then-moves : (j : Journey) (s : State) (o : Option State) (letters : State → List Letter) (entries : State → List ℕ)
    → ((t : State) → HasMoves (letters t) (changes_from j.owner (j.owner t.at) (entries t)))
    → HasMoves (letters_then j s o letters) (changes_from j.owner (j.owner s.at) (entry_and o entries))
unfolding changes_from
then-moves j s None letters entries each = moves-none
then-moves j s (Some t) letters entries each = moves-both (move_letters j s t) (letters t) _ _ (step-moves j s t) (each t)

after-moves : (n : ℕ) (j : Journey) (s : State)
    → HasMoves (letters_after n j s) (changes_from j.owner (j.owner s.at) (entries_after n j.course s))
unfolding letters_after entries_after changes_from
after-moves zero j s = moves-none
after-moves (suc n) j s =
    moves-behind (ask_letters j s) (letters_then j s (next_state j.course s) (letters_after n j)) _ (ask-moves j s)
    (then-moves j s (next_state j.course s) (letters_after n j) (entries_after n j.course) (λ t. after-moves n j t))

-- the letters of a walk have a move for each change of the owner along it
pub walk-moves : (g : PartedRun) (i : ℕ) → HasMoves (letters_in g i) (changes g.owner (walk_in g i))
walk-moves g i = after-moves g.plan.length (journey_in g i) (first_state (g.start i))

-- the owner changes at a step at most
pub changes_from-le : (owner : ℕ → ℕ) (before : ℕ) (xs : List ℕ) → changes_from owner before xs ≤ length xs
unfolding changes_from
changes_from-le owner before [] = omega arith
changes_from-le owner before (x ∷ xs) =
    let rest = changes_from-le owner (owner x) xs in
    elim (before == owner x) as (λ b. (if b then 0 else 1) + changes_from owner (owner x) xs ≤ suc (length xs)) [
      | true ↦ omega (arith, rest)
      | false ↦ omega (arith, rest)
    ]

pub changes-le : (owner : ℕ → ℕ) (walk : List ℕ) → changes owner walk ≤ length walk - 1
changes-le owner [] = omega arith
changes-le owner (x ∷ xs) = let few = changes_from-le owner (owner x) xs in omega (arith, few)

entry-le : (o : Option State) (later : State → List ℕ) (n : ℕ) → ((t : State) → length (later t) ≤ n) → length (entry_and o later) ≤ suc n
entry-le None later n each = omega arith
entry-le (Some t) later n each = let one = each t in omega (arith, one)

entries-le : (n : ℕ) (c : Course) (s : State) → length (entries_after n c s) ≤ n
unfolding entries_after
entries-le zero c s = omega arith
entries-le (suc n) c s = entry-le (next_state c s) (entries_after n c) n (λ t. entries-le n c t)

-- a walk has no more steps than it may
pub steps-le : (g : PartedRun) (i : ℕ) → length (walk_in g i) - 1 ≤ g.plan.length
steps-le g i = let few = entries-le g.plan.length (journey_in g i).course (first_state (g.start i)) in omega (arith, few)
