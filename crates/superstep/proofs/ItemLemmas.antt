-- Each walker of a sound world has at most one item.
use Rattle.std.proofs.Common.{◌≡◌, ℕ, zero, suc, ◌+◌, ◌*◌, ◌<◌, ◌≤◌, Bool, true, false, cond, List, [], ◌∷◌, ◌++◌, length, refl, ap, ◌∙◌, arith, None, Some, subst, inl, inr, length-append}
use Rattle.std.specs.Prelude.{Option, option_map, sum_by, ◌==◌, ◌⊎◌}
use Rattle.std.proofs.lemmas.Bool.{cases_lt, eqb-true}
use Rattle.std.proofs.lemmas.Bool.Decides.{nat_tests}
use Rattle.std.proofs.lemmas.List.Sums.{sum_by-cons, sum_by-append, sum_by-le-sum_by}
use Rattle.walk_model.specs.declared.messages.Letter.{Letter}
use Rattle.walk_model.specs.declared.messages.Question.{Question}
use Rattle.walk_model.specs.Counts.{sum_below}
use Rattle.traveller.specs.PartedRuns.{PartedRun, journey_from, letters_in}
use Rattle.traveller.specs.Turns.{asker_at}
use Rattle.traveller.specs.Walkers.{Walker, question_of, ask_with, ask_of}
use Rattle.world_law.specs.Items.{Item, Travels, Asks, Replies}
use Rattle.world_law.specs.LettersAhead.{item_of, item_ahead, piece_ahead, count_ahead, of_come, of_gone}
use Rattle.world_law.specs.LettersLeft.{letters_from}
use Rattle.world_law.specs.Soundness.{item_walker, of_walker, ask_weight, of_open, item_ask, of_sent, IsTruePiece, IsTrueItem, IsSound}
use Rattle.world_law.specs.Truth.{IsTrueTo}
use Rattle.world_law.specs.Worlds.{Piece, Resident, Aside, Printed, Comes, Goes, Each}
use Rattle.world_law.proofs.LetterLaws.{is_number, is_by, Found, find-piece, each-at, numbers-le}
use Rattle.world_law.proofs.SuffixLemmas.{EndsWith, true-ends, on_way-ends, question-pair}
use Rattle.world_law.proofs.ThrowLemmas.{mode_pair}

-- who waits with an ask of walker i is walker i
open-le : (owner : ℕ → ℕ) (i : ℕ) (v : Walker) → ask_weight (is_by i) (ask_of owner v) ≤ is_number i v
open-le owner i v = by (question_of v.mode)
  where
    by : (o : Option Question) → ask_weight (is_by i) (option_map (ask_with owner v) o) ≤ is_number i v
    by None = omega arith
    by (Some q) = omega arith

-- an item is a walker or carries an ask
item-parts : (i : ℕ) (m : Item) → item_of i m ≡ item_walker (is_number i) m + item_ask (is_by i) m
item-parts i (Travels v from to) = omega arith
item-parts i (Asks ask to) = omega arith
item-parts i (Replies reply from) = omega arith

piece-le : (owner : ℕ → ℕ) (i : ℕ) (p : Piece)
    → of_come i p + of_gone i p + of_open owner (is_by i) p ≤ of_walker (is_number i) p + of_sent (is_by i) p
piece-le owner i (Resident k v) = omega (arith, open-le owner i v)
piece-le owner i (Printed k p) = omega arith
piece-le owner i (Aside k m) = omega (arith, item-parts i m)
piece-le owner i (Comes m) = omega (arith, item-parts i m)
piece-le owner i (Goes m) = omega (arith, item-parts i m)

pieces-le : (owner : ℕ → ℕ) (i : ℕ) (ps : List Piece)
    → sum_by (of_come i) ps + sum_by (of_gone i) ps + sum_by (of_open owner (is_by i)) ps
    ≤ sum_by (of_walker (is_number i)) ps + sum_by (of_sent (is_by i)) ps
pieces-le owner i [] = omega arith
pieces-le owner i (p ∷ ps) =
    omega (
      arith,
      piece-le owner i p,
      pieces-le owner i ps,
      sum_by-cons (of_come i) p ps,
      sum_by-cons (of_gone i) p ps,
      sum_by-cons (of_open owner (is_by i)) p ps,
      sum_by-cons (of_walker (is_number i)) p ps,
      sum_by-cons (of_sent (is_by i)) p ps,
    )

-- a walker's items are no more than its number stands in the world
items-le : (g : PartedRun) (i : ℕ) (ps : List Piece) → IsSound g ps
    → sum_by (of_come i) ps + sum_by (of_gone i) ps ≤ sum_by (of_walker (is_number i)) ps
items-le g i ps h = omega (arith, pieces-le g.owner i ps, h.asks (is_by i))

pub items-one : (g : PartedRun) (i : ℕ) (ps : List Piece) → IsSound g ps → sum_by (of_come i) ps + sum_by (of_gone i) ps ≤ 1
items-one g i ps h = omega (arith, items-le g i ps h, numbers-le g ps i h)

-- no number below a bound is one above it
none-below : (n i : ℕ) → n ≤ i → sum_below n (λ k. cond (k == i) 1 0) ≡ 0
unfolding sum_below
none-below zero i h = refl
none-below (suc n) i h =
    let before : sum_below n (λ k. cond (k == i) 1 0) ≡ 0 = none-below n i (omega arith) in
    let here : ◌≡◌ {A = ℕ} (cond (n == i) 1 0) 0 = other n i (omega arith) in
    omega arith
  where
    other : (n i : ℕ) → n < i → ◌≡◌ {A = ℕ} (cond (n == i) 1 0) 0
    other n i h = grind (arith, nat_tests)

pub items-none : (g : PartedRun) (i : ℕ) (ps : List Piece) → IsSound g ps → g.walkers ≤ i
    → sum_by (of_come i) ps + sum_by (of_gone i) ps ≡ 0
items-none g i ps h past = omega (arith, items-le g i ps h, h.numbers (λ k. cond (k == i) 1 0), none-below g.walkers i past)

-- where no walker is walker i, its letters are those of asks and replies
cond-none : (c : Bool) (n : ℕ) → ◌≡◌ {A = ℕ} (cond c 1 0) 0 → cond c n 0 ≡ 0
cond-none true n e = absurd (omega arith)
cond-none false n e = refl

cond-twice : (c : Bool) → ◌≤◌ (cond c 2 0) (2 * cond c 1 0)
cond-twice true = omega arith
cond-twice false = omega arith

cond-once : (c : Bool) → ◌≤◌ (cond c 1 0) (2 * cond c 1 0)
cond-once true = omega arith
cond-once false = omega arith

item-ahead-le : (g : PartedRun) (i : ℕ) (m : Item) → item_walker (is_number i) m ≡ 0 → item_ahead g i m ≤ 2 * item_ask (is_by i) m
item-ahead-le g i (Travels v from to) w = omega (arith, cond-none (v.number == i) (length (letters_from g v)) w, cond-none (v.number == i) 1 w)
item-ahead-le g i (Asks ask to) w = cond-twice (ask.walker == i)
item-ahead-le g i (Replies reply from) w = cond-once (reply.ask.walker == i)

piece-ahead-le : (g : PartedRun) (i : ℕ) (p : Piece) → of_walker (is_number i) p ≡ 0 → piece_ahead g i p ≤ 2 * of_sent (is_by i) p
piece-ahead-le g i (Resident k v) w = omega (arith, cond-none (v.number == i) (length (letters_from g v)) w)
piece-ahead-le g i (Printed k p) w = omega arith
piece-ahead-le g i (Aside k m) w = item-ahead-le g i m w
piece-ahead-le g i (Comes m) w = item-ahead-le g i m w
piece-ahead-le g i (Goes m) w = item-ahead-le g i m w

pieces-ahead-le : (g : PartedRun) (i : ℕ) (ps : List Piece) → sum_by (of_walker (is_number i)) ps ≡ 0
    → sum_by (piece_ahead g i) ps ≤ 2 * sum_by (of_sent (is_by i)) ps
pieces-ahead-le g i [] w = omega arith
pieces-ahead-le g i (p ∷ ps) w =
    let walkers = sum_by-cons (of_walker (is_number i)) p ps in
    let first = piece-ahead-le g i p (omega arith) in
    let later = pieces-ahead-le g i ps (omega arith) in
    omega (arith, sum_by-cons (piece_ahead g i) p ps, sum_by-cons (of_sent (is_by i)) p ps)

open-number : (g : PartedRun) (i : ℕ) (ps : List Piece) → sum_by (of_open g.owner (is_by i)) ps ≤ sum_by (of_walker (is_number i)) ps
open-number g i ps = sum_by-le-sum_by (of_open g.owner (is_by i)) (of_walker (is_number i)) ps by
  where
    by : (p : Piece) → of_open g.owner (is_by i) p ≤ of_walker (is_number i) p
    by (Resident k v) = open-le g.owner i v
    by (Printed k p) = omega arith
    by (Aside k m) = omega arith
    by (Comes m) = omega arith
    by (Goes m) = omega arith

ends-length : (xs ys : List Letter) → EndsWith xs ys → length ys ≤ length xs
ends-length xs ys e = omega (arith, ap length e.1, length-append e.0 ys)

-- where walker i stands or travels in a piece, its letters within it and its ask, twice, are no more than its walk's
abbrev Within : PartedRun → ℕ → Piece → Type 0
Within g i p = piece_ahead g i p + 2 * (of_open g.owner (is_by i) p) ≤ length (letters_in g i) + 2 * of_sent (is_by i) p

number-is : (i : ℕ) (v : Walker) → 1 ≤ is_number i v → v.number ≡ i
number-is i v h = by (v.number == i) refl h
  where
    by : (b : Bool) → (v.number == i) ≡ b → 1 ≤ cond b 1 0 → v.number ≡ i
    by true e h = eqb-true v.number i e
    by false e h = absurd (omega arith)

ahead-own : (c : Bool) (n : ℕ) → cond c n 0 ≤ n
ahead-own true n = omega arith
ahead-own false n = omega arith

ahead-own-one : (c : Bool) (n : ℕ) → cond c 1 0 + cond c n 0 ≤ suc n
ahead-own-one true n = omega arith
ahead-own-one false n = omega arith

resident-within : (g : PartedRun) (i k : ℕ) (v : Walker) → v.number ≡ i → IsTrueTo g v → Within g i (Resident k v)
resident-within g i k v e h =
    let pair = mode_pair g.edges (asker_at (journey_from g v.number v.start) v.state) v.mode in
    let ends = ends-length (letters_in g v.number) (pair ++ letters_from g v) (true-ends g v h) in
    let both = length-append pair (letters_from g v) in
    let most = ap (λ n. length (letters_in g n)) e in
    let asks : 2 * ask_weight (is_by i) (ask_of g.owner v) ≤ length pair = by (question_of v.mode) refl in
    omega (arith, ahead-own (v.number == i) (length (letters_from g v)))
  where
    by : (o : Option Question) → question_of v.mode ≡ o
        → 2 * ask_weight (is_by i) (option_map (ask_with g.owner v) o) ≤ length (mode_pair g.edges (asker_at (journey_from g v.number v.start) v.state) v.mode)
    by None w = omega arith
    by (Some q) w = omega (arith, ap length (question-pair g v q h w), ahead-own (v.number == i) 1)

item-within : (g : PartedRun) (i : ℕ) (m : Item) → 1 ≤ item_walker (is_number i) m → IsTrueItem g m → item_ahead g i m ≤ length (letters_in g i)
item-within g i (Travels v from to) w h =
    let e = number-is i v w in
    let ends = ends-length (letters_in g v.number) _ (on_way-ends g v from to h) in
    let most = ap (λ n. length (letters_in g n)) e in
    omega (arith, ahead-own-one (v.number == i) (length (letters_from g v)))
item-within g i (Asks ask to) w h = absurd (omega arith)
item-within g i (Replies reply from) w h = absurd (omega arith)

piece-within : (g : PartedRun) (i : ℕ) (p : Piece) → 1 ≤ of_walker (is_number i) p → IsTruePiece g p → Within g i p
piece-within g i (Resident k v) w h = resident-within g i k v (number-is i v w) h.0
piece-within g i (Printed k p) w h = absurd (omega arith)
piece-within g i (Aside k m) w h = omega (arith, item-within g i m w h.0)
piece-within g i (Comes m) w h = omega (arith, item-within g i m w h)
piece-within g i (Goes m) w h = omega (arith, item-within g i m w h)

-- the letters of a walker that are still to come are no more than its walk's
pub ahead-within : (g : PartedRun) (i : ℕ) (ps : List Piece) → IsSound g ps → count_ahead g i ps ≤ length (letters_in g i)
ahead-within g i ps h = by (cases_lt 0 (sum_by (of_walker (is_number i)) ps))
  where
    there : (f : Found (of_walker (is_number i)) ps) → count_ahead g i ps ≤ length (letters_in g i)
    there f =
        let p = f.piece in
        let w = of_walker (is_number i) in
        let o = of_open g.owner (is_by i) in
        let s = of_sent (is_by i) in
        let a = piece_ahead g i in
        let few = numbers-le g ps i h in
        let asks = h.asks (is_by i) in
        let here = piece-within g i p f.some (each-at g f.front f.back p (subst (Each (IsTruePiece g)) f.whole h.pieces)) in
        let w1 : sum_by w ps ≡ sum_by w f.front + (w p + sum_by w f.back) = ap (sum_by w) f.whole ∙ omega (arith, sum_by-append w f.front (p ∷ f.back), sum_by-cons w p f.back) in
        let o1 : sum_by o ps ≡ sum_by o f.front + (o p + sum_by o f.back) = ap (sum_by o) f.whole ∙ omega (arith, sum_by-append o f.front (p ∷ f.back), sum_by-cons o p f.back) in
        let s1 : sum_by s ps ≡ sum_by s f.front + (s p + sum_by s f.back) = ap (sum_by s) f.whole ∙ omega (arith, sum_by-append s f.front (p ∷ f.back), sum_by-cons s p f.back) in
        let a1 : sum_by a ps ≡ sum_by a f.front + (a p + sum_by a f.back) = ap (sum_by a) f.whole ∙ omega (arith, sum_by-append a f.front (p ∷ f.back), sum_by-cons a p f.back) in
        let some = f.some in
        let before : sum_by w f.front ≡ 0 = omega arith in
        let behind : sum_by w f.back ≡ 0 = omega arith in
        let a2 = pieces-ahead-le g i f.front before in
        let a3 = pieces-ahead-le g i f.back behind in
        let o2 = open-number g i f.front in
        let o3 = open-number g i f.back in
        omega arith

    by : (0 < sum_by (of_walker (is_number i)) ps) ⊎ (sum_by (of_walker (is_number i)) ps ≤ 0) → count_ahead g i ps ≤ length (letters_in g i)
    by (inl some) = there (find-piece (of_walker (is_number i)) ps (omega arith))
    by (inr none) = omega (arith, pieces-ahead-le g i ps (omega arith), open-number g i ps, h.asks (is_by i))
