-- What a walker makes of a true reply.
use Rattle.std.proofs.Common.{◌≡◌, ℕ, zero, suc, ◌+◌, ◌/◌, ◌%◌, Bool, true, false, not, ◌&&◌, ◌||◌, List, [], ◌∷◌, map, refl, ap, sym, ◌∙◌, arith, None, Some}
use Rattle.std.specs.Prelude.{Option, option_map, option_and_then, slice_index, insert, count_by, ◌==◌, nat_lt, if◌then◌else◌}
use Rattle.std.specs.List.{list_any}
use Rattle.std.proofs.lemmas.Bool.Decides.{nat_tests}
use Rattle.std.proofs.lemmas.Option.{none-some, same_Some}
use Rattle.walk_model.specs.declared.graph.Edge.{Edge}
use Rattle.walk_model.specs.declared.programme.Fraction.{Fraction}
use Rattle.walk_model.specs.declared.programme.Rule.{Rule}
use Rattle.walk_model.specs.declared.programme.Rule.TheVariants.{Plain, Scheme, Node2vec}
use Rattle.walk_model.specs.declared.messages.Question.{Question}
use Rattle.walk_model.specs.declared.messages.Question.TheVariants as question
use Rattle.walk_model.specs.declared.states.State.{State}
use Rattle.walk_model.specs.Graph.{row, with_edge, comes_before, has_edge, ends_of, with_number}
use Rattle.walk_model.specs.Words.{fold_word}
use Rattle.walk_model.specs.Alias.{piece}
use Rattle.walk_model.specs.Factor.{factor, node_factor, common_factor, far_factor}
use Rattle.walk_model.specs.Dart.{Board, area, main_area, taken_at, edge_at, hit, scanned, darts, or_next, board_of}
use Rattle.walk_model.specs.Walk.{moved_along}
use Rattle.walk_model.specs.Letters.{Journey, Asker, asker, in_zone, needed_at}
use Rattle.traveller.specs.declared.modes.Mode.{Mode}
use Rattle.traveller.specs.declared.modes.Mode.TheVariants.{Fresh, Darts, Asked, AskedRow, Chosen, Over}
use Rattle.traveller.specs.Walkers.{question_of}
use Rattle.traveller.specs.Turns.{row_at, board_at, asker_by, asker_at, edge_question, row_question, chosen_or_over}
use Rattle.traveller.specs.Replies.{rising, found_in, near_by, told_factor, told_board, edge_mode, heard_mode}
use Rattle.world_law.specs.Truth.{Came, Passes}
use Rattle.world_law.specs.LettersLeft.{letters_within}
use Rattle.world_law.proofs.ThrowLemmas.{next_within-chooses, darts-came, came-next}

-- a row's ends tell which edges are there
list_any-insert : {X : Type 0} (p : X → Bool) (xs : List X) (i : ℕ) (x : X) → list_any p (insert xs i x) ≡ (p x || list_any p xs)
list_any-insert p xs zero x = refl
list_any-insert p [] (suc i) x = refl
list_any-insert p (y ∷ ys) (suc i) x = rw (list_any-insert p ys i x) (or_exchange (p y) (p x) (list_any p ys))
  where
    or_exchange : (a b c : Bool) → (a || (b || c)) ≡ (b || (a || c))
    or_exchange true true c = refl
    or_exchange true false c = refl
    or_exchange false b c = refl

pub has_edge-row : (es : List Edge) (t x : ℕ) → has_edge es t x ≡ list_any (λ e. e.dst == x) (row es t)
unfolding row with_edge
has_edge-row [] t x = refl
has_edge-row (e ∷ es) t x =
    rw (has_edge-row es t x)
    (elim (e.src == t) as (λ b. ((b && (e.dst == x)) || list_any (λ e. e.dst == x) (row es t))
    ≡ list_any (λ e. e.dst == x) (if b then with_edge e (row es t) else row es t)) [
      | true ↦ sym (list_any-insert (λ e. e.dst == x) (row es t) (count_by (λ d. comes_before d e) (row es t)) e)
      | false ↦ refl
    ])

abbrev is_among : List ℕ → ℕ → Bool
is_among xs x = list_any (λ y. y == x) xs

is_among-same : (x z : ℕ) (xs : List ℕ) → (x == z) ≡ true → is_among xs x ≡ is_among xs z
is_among-same x z xs h = let e : x ≡ z = grind (arith, nat_tests) in ap (is_among xs) e

is_among-with_number : (x : ℕ) (xs : List ℕ) (z : ℕ) → is_among (with_number x xs) z ≡ ((x == z) || is_among xs z)
unfolding with_number
is_among-with_number x xs z =
    let cases : (b : Bool) → is_among xs x ≡ b
    → is_among (if b then xs else insert xs (count_by (λ y. nat_lt y x) xs) x) z ≡ ((x == z) || is_among xs z) = λ b.
    elim b as (λ b. is_among xs x ≡ b
    → is_among (if b then xs else insert xs (count_by (λ y. nat_lt y x) xs) x) z ≡ ((x == z) || is_among xs z)) [
      | true ↦ λ h.
          let inner : (c : Bool) → (x == z) ≡ c → is_among xs z ≡ (c || is_among xs z) = λ c.
          elim c as (λ c. (x == z) ≡ c → is_among xs z ≡ (c || is_among xs z)) [
            | true ↦ λ e. sym (is_among-same x z xs e) ∙ h
            | false ↦ λ e. refl
          ] in
          inner (x == z) refl
      | false ↦ λ h. list_any-insert (λ y. y == z) xs (count_by (λ y. nat_lt y x) xs) x
    ] in
    cases (is_among xs x) refl

is_among-rising : (xs : List ℕ) (z : ℕ) → is_among (rising xs) z ≡ is_among xs z
unfolding rising
is_among-rising [] z = refl
is_among-rising (x ∷ xs) z = is_among-with_number x (rising xs) z ∙ ap (λ b. (x == z) || b) (is_among-rising xs z)

is_among-ends : (out : List Edge) (x : ℕ) → is_among (ends_of out) x ≡ list_any (λ e. e.dst == x) out
unfolding ends_of
is_among-ends [] x = refl
is_among-ends (e ∷ es) x = ap (λ b. (e.dst == x) || b) (is_among-ends es x)

-- the reply about a row tells of each vertex whether there is an edge to it
pub near_by-row : (edges : List Edge) (t x : ℕ) → near_by (found_in edges (question.Row t)) x ≡ has_edge edges t x
near_by-row edges t x =
    is_among-rising (ends_of (row edges t)) x ∙ is_among-ends (row edges t) x ∙ sym (has_edge-row edges t x)

-- who must ask another part: a walker under node2vec after a vertex of another part
pub record IsAsker (j : Journey) (s : State) (r : Rule) (before : Option ℕ) (a : Asker) : Type 0 where
  pub t : ℕ
  pub p : Fraction
  pub q : Fraction
  pub rule : r ≡ Node2vec p q
  pub previous : before ≡ Some t
  pub same : a ≡ asker j s t p q
  pub apart : (j.owner t == j.owner s.at) ≡ false

asker_by-is : (j : Journey) (s : State) (rule : Rule) (previous : Option ℕ) (a : Asker)
    → asker_by j s rule previous ≡ Some a → IsAsker j s rule previous a
asker_by-is j s Plain previous a e = absurd (none-some a e)
asker_by-is j s (Scheme kinds) previous a e = absurd (none-some a e)
asker_by-is j s (Node2vec p q) None a e = absurd (none-some a e)
asker_by-is j s (Node2vec p q) (Some t) a e = by (j.owner t == j.owner s.at) refl e
  where
    by : (b : Bool) → (j.owner t == j.owner s.at) ≡ b → (if b then None else Some (asker j s t p q)) ≡ Some a
        → IsAsker j s (Node2vec p q) (Some t) a
    by true h e = absurd (none-some a e)
    by false h e = record {
      t = t;
      p = p;
      q = q;
      rule = refl;
      previous = refl;
      same = sym (same_Some (asker j s t p q) a e);
      apart = h;
    }

pub asker_at-is : (j : Journey) (s : State) (a : Asker) → asker_at j s ≡ Some a
    → IsAsker j s j.course.plan.rule s.previous a
asker_at-is j s a e = asker_by-is j s j.course.plan.rule s.previous a e

-- the factor that a reply tells is the edge's own, where it tells the truth of its end
told_factor-true : (edges : List Edge) (j : Journey) (s : State) (t : ℕ) (p q : Fraction) (near : ℕ → Bool) (x : ℕ)
    → near x ≡ has_edge edges t x → told_factor (asker j s t p q) near x ≡ node_factor edges p q t x
unfolding node_factor
told_factor-true edges j s t p q near x e = rw e refl

factors-told : (edges : List Edge) (j : Journey) (s : State) (t : ℕ) (p q : Fraction) (near : ℕ → Bool) (phase : ℕ) (out : List Edge)
    → ((x : ℕ) → near x ≡ has_edge edges t x)
    → map (told_factor (asker j s t p q) near) (ends_of out) ≡ map (factor edges (Node2vec p q) (Some t) phase) out
unfolding ends_of factor
factors-told edges j s t p q near phase [] h = refl
factors-told edges j s t p q near phase (e ∷ es) h =
    rw (told_factor-true edges j s t p q near e.dst (h e.dst), factors-told edges j s t p q near phase es h) refl

factor-told : (edges : List Edge) (j : Journey) (s : State) (t : ℕ) (p q : Fraction) (near : ℕ → Bool) (phase : ℕ) (out : List Edge) (i : ℕ)
    → near (slice_index (ends_of out) i) ≡ has_edge edges t (slice_index (ends_of out) i)
    → slice_index (map (told_factor (asker j s t p q) near) (ends_of out)) i
    ≡ slice_index (map (factor edges (Node2vec p q) (Some t) phase) out) i
unfolding ends_of factor
factor-told edges j s t p q near phase [] i h = refl
factor-told edges j s t p q near phase (e ∷ es) zero h = told_factor-true edges j s t p q near e.dst h
factor-told edges j s t p q near phase (e ∷ es) (suc i) h = factor-told edges j s t p q near phase es i h

-- a dart that needs no more than the factor of its edge takes what it takes on the whole board
hit-told : (a : Asker) (b : Board) (near : ℕ → Bool) (w x : ℕ) → fold_word (area b) w ≡ Some x
    → nat_lt x (main_area b) ≡ true
    → slice_index (map (told_factor a near) a.ends) (piece b.weights (x / b.height)) ≡ slice_index b.factors (piece b.weights (x / b.height))
    → hit (told_board a b near) w ≡ hit b w
unfolding hit edge_at taken_at
hit-told a b near w x e1 e2 e3 = rw (e1, e2, e3) refl

-- a dart that needs a question lies in the main part, and asks about the end of its edge
pub record IsNeeded (a : Asker) (b : Board) (w : ℕ) (q : Question) : Type 0 where
  pub x : ℕ
  pub folds : fold_word (area b) w ≡ Some x
  pub main : nat_lt x (main_area b) ≡ true
  pub asks : q ≡ question.Edge a.before (slice_index a.ends (piece b.weights (x / b.height)))

pub edge_question-is : (a : Asker) (b : Board) (w : ℕ) (q : Question) (o : Option ℕ) → fold_word (area b) w ≡ o
    → option_map (question.Edge a.before) (option_and_then (needed_at a b) o) ≡ Some q → IsNeeded a b w q
unfolding needed_at
edge_question-is a b w q None f e = absurd (none-some q e)
edge_question-is a b w q (Some x) f e =
    by (nat_lt x (main_area b)) (in_zone a (x % b.height)) (not (slice_index a.ends (piece b.weights (x / b.height)) == a.before)) refl e
  where
    by : (m z n : Bool) → nat_lt x (main_area b) ≡ m
        → option_map (question.Edge a.before) (if m && z && n then Some (slice_index a.ends (piece b.weights (x / b.height))) else None) ≡ Some q
        → IsNeeded a b w q
    by true true true h e = record { x = x; folds = f; main = h; asks = sym (same_Some _ q e) }
    by true true false h e = absurd (none-some q e)
    by true false n h e = absurd (none-some q e)
    by false z n h e = absurd (none-some q e)

board-factors : (j : Journey) (s : State)
    → (board_at j s).factors ≡ map (factor j.course.edges j.course.plan.rule s.previous s.phase) (row_at j s)
unfolding board_of
board-factors j s = refl

-- the factor that a reply tells of an edge is its own, by whatever names
factor-asked : (j : Journey) (s : State) (r : Rule) (before : Option ℕ) (phase : ℕ) (a : Asker) (near : ℕ → Bool) (i : ℕ)
    → IsAsker j s r before a → near (slice_index a.ends i) ≡ has_edge j.course.edges a.before (slice_index a.ends i)
    → slice_index (map (told_factor a near) a.ends) i ≡ slice_index (map (factor j.course.edges r before phase) (row_at j s)) i
factor-asked j s r before phase a near i is h =
    let same = is.same in
    let told = rw same at h in
    rw (is.rule, is.previous, is.same) (factor-told j.course.edges j s is.t is.p is.q near phase (row_at j s) i told)

factors-asked : (j : Journey) (s : State) (r : Rule) (before : Option ℕ) (phase : ℕ) (a : Asker) (near : ℕ → Bool)
    → IsAsker j s r before a → ((x : ℕ) → near x ≡ has_edge j.course.edges a.before x)
    → map (told_factor a near) a.ends ≡ map (factor j.course.edges r before phase) (row_at j s)
factors-asked j s r before phase a near is h =
    let same = is.same in
    let told = rw same at h in
    rw (is.rule, is.previous, is.same) (factors-told j.course.edges j s is.t is.p is.q near phase (row_at j s) told)

near_by-edge : (edges : List Edge) (q : Question) (t x y : ℕ) → q ≡ question.Edge t x → near_by (found_in edges q) y ≡ has_edge edges t x
near_by-edge edges q t x y e = rw e refl

near_by-ends : (edges : List Edge) (q : Question) (t x : ℕ) → q ≡ question.Row t → near_by (found_in edges q) x ≡ has_edge edges t x
near_by-ends edges q t x e = rw e (near_by-row edges t x)

-- the dart that was asked about takes what it takes on the whole board
asked-hit : (j : Journey) (s : State) (a : Asker) (w : ℕ) (q : Question) → IsAsker j s j.course.plan.rule s.previous a
    → IsNeeded a (board_at j s) w q
    → hit (told_board a (board_at j s) (near_by (found_in j.course.edges q))) w ≡ hit (board_at j s) w
asked-hit j s a w q is h =
    let near = near_by (found_in j.course.edges q) in
    let i = piece (board_at j s).weights (h.x / (board_at j s).height) in
    let told = factor-asked j s j.course.plan.rule s.previous s.phase a near i is
    (near_by-edge j.course.edges q a.before (slice_index a.ends i) (slice_index a.ends i) h.asks) in
    hit-told a (board_at j s) near w h.x h.folds h.main (told ∙ ap (λ fs. slice_index fs i) (sym (board-factors j s)))

-- the board that a reply about the row tells is the whole board
row-board : (j : Journey) (s : State) (a : Asker) (q : Question) → IsAsker j s j.course.plan.rule s.previous a
    → q ≡ question.Row a.before
    → told_board a (board_at j s) (near_by (found_in j.course.edges q)) ≡ board_at j s
row-board j s a q is e =
    let near = near_by (found_in j.course.edges q) in
    let told = factors-asked j s j.course.plan.rule s.previous s.phase a near is
    (λ x. near_by-ends j.course.edges q a.before x e) in
    ap (λ fs. record (board_at j s) { factors = fs }) (told ∙ sym (board-factors j s))

-- from a mode in which a walker waits another one was reached by a reply: the step passes it too, the
-- letters to come are the same, and the walker waits no more
pub record IsHeard (j : Journey) (most : ℕ) (s : State) (from to : Mode) : Type 0 where
  pub passes : Passes j most s to
  pub letters : letters_within j most s from ≡ letters_within j most s to
  pub free : question_of to ≡ None

hears-edge : (j : Journey) (most : ℕ) (s : State) (left place : ℕ) (q : Question) (taken : Option ℕ)
    → Came j most s (suc left) place → hit (board_at j s) (j.course.words place) ≡ taken
    → IsHeard j most s (Asked left place q) (edge_mode taken left place)
unfolding darts
hears-edge j most s left place q None h e = record {
  passes = came-next j most s left place h e;
  letters = rw e refl;
  free = refl;
}
hears-edge j most s left place q (Some edge) h e = record {
  passes = record {
    chooses = h.chooses;
    taken = darts-came j most s (suc left) place h
        ∙ ap (λ o. or_next o place (darts left (board_at j s) j.course.words (place + 1))) e;
  };
  letters = rw e refl;
  free = refl;
}

hears-row : (j : Journey) (most : ℕ) (s : State) (place : ℕ) (q : Question) (taken : Option (ℕ × ℕ))
    → Came j most s 0 place → scanned (board_at j s) j.course.words place ≡ taken
    → IsHeard j most s (AskedRow place q) (chosen_or_over taken)
unfolding darts
hears-row j most s place q None h e = record {
  passes = next_within-chooses j most s h.chooses
      ∙ ap (option_and_then (moved_along s (row_at j s))) (darts-came j most s 0 place h ∙ e);
  letters = rw e refl;
  free = refl;
}
hears-row j most s place q (Some t) h e = record {
  passes = record { chooses = h.chooses; taken = darts-came j most s 0 place h ∙ e };
  letters = rw e refl;
  free = refl;
}

pub row_question-is : (a : Asker) (q : Question) → row_question (Some a) ≡ Some q → q ≡ question.Row a.before
row_question-is a q e = by (common_factor a.p a.q == far_factor a.p a.q) e
  where
    by : (b : Bool) → (if b then None else Some (question.Row a.before)) ≡ Some q → q ≡ question.Row a.before
    by true e = absurd (none-some q e)
    by false e = sym (same_Some (question.Row a.before) q e)

-- a true reply to the question of its mode brings a waiting walker to a mode that its walk passes
pub heard-mode : (j : Journey) (most : ℕ) (s : State) (m : Mode) (q : Question) (r : Option Asker)
    → asker_at j s ≡ r → Passes j most s m → question_of m ≡ Some q
    → IsHeard j most s m (heard_mode r (board_at j s) j.course.words m (near_by (found_in j.course.edges q)))
heard-mode j most s Fresh q r e p w = absurd (none-some q w)
heard-mode j most s (Darts left place) q r e p w = absurd (none-some q w)
heard-mode j most s (Chosen edge place) q r e p w = absurd (none-some q w)
heard-mode j most s Over q r e p w = absurd (none-some q w)
heard-mode j most s (Asked left place u) q None e p w =
    absurd (none-some u (let n = p.needed in rw e at n))
heard-mode j most s (Asked left place u) q (Some a) e p w =
    let n = p.needed in
    let same : u ≡ q = same_Some u q w in
    let needed : edge_question (Some a) (board_at j s) (j.course.words place) ≡ Some q = rw same at (rw e at n) in
    let is = asker_at-is j s a e in
    let needs = edge_question-is a (board_at j s) (j.course.words place) q (fold_word (area (board_at j s)) (j.course.words place)) refl needed in
    let told = asked-hit j s a (j.course.words place) q is needs in
    hears-edge j most s left place u _ p.came (sym told)
heard-mode j most s (AskedRow place u) q None e p w =
    absurd (none-some u (let n = p.needed in rw e at n))
heard-mode j most s (AskedRow place u) q (Some a) e p w =
    let n = p.needed in
    let same : u ≡ q = same_Some u q w in
    let needed : row_question (Some a) ≡ Some q = rw same at (rw e at n) in
    let is = asker_at-is j s a e in
    let told = row-board j s a q is (row_question-is a q needed) in
    hears-row j most s place u _ p.came (sym (ap (λ b. scanned b j.course.words place) told))
