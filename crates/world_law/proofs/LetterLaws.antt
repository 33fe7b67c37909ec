-- Each letter that is taken in is the first of those that are still to come.
use Rattle.std.proofs.Common.{◌≡◌, ℕ, zero, suc, ◌+◌, ◌-◌, ◌<◌, ◌≤◌, Bool, true, false, cond, List, [], ◌∷◌, ◌++◌, length, drop, refl, ap, sym, ◌∙◌, arith, None, Some, subst, inl, inr, length-append}
use Rattle.std.specs.Prelude.{Option, option_map, sum_by, ◌==◌, ◌&&◌, ◌⊎◌, nat_lt}
use Rattle.std.proofs.lemmas.Bool.{cases_lt, eq-eqb, eqb-true, and_parts, and_from, false≢true}
use Rattle.std.proofs.lemmas.Bool.Decides.{nat_tests}
use Rattle.std.proofs.lemmas.List.{append_assoc}
use Rattle.std.proofs.lemmas.List.Sums.{sum_by-cons, sum_by-append, sum_by-le-sum_by}
use Rattle.std.proofs.lemmas.Option.{none-some, same_Some}
use Rattle.walk_model.specs.declared.messages.Ask.{Ask}
use Rattle.walk_model.specs.declared.messages.Reply.{Reply}
use Rattle.walk_model.specs.declared.messages.Letter.{Letter}
use Rattle.walk_model.specs.declared.messages.Question.{Question}
use Rattle.walk_model.specs.declared.messages.Question.TheVariants as question
use Rattle.walk_model.specs.Counts.{sum_below}
use Rattle.traveller.specs.PartedRuns.{PartedRun, letters_in}
use Rattle.traveller.specs.Walkers.{Walker, question_of, asked_vertex, ask_with, ask_of}
use Rattle.traveller.specs.Replies.{found_in, reply_to}
use Rattle.world_law.specs.Items.{Item, Travels, Asks, Replies, letter_of}
use Rattle.world_law.specs.Truth.{IsTrueTo}
use Rattle.world_law.specs.LettersLeft.{letters_from}
use Rattle.world_law.specs.Worlds.{Piece, Resident, Aside, Printed, Comes, Goes, Each}
use Rattle.world_law.specs.Events.{Event, Arrives, Turns, Enters, Answered, Hears, May, taken_by, given_by, letter_in}
use Rattle.world_law.specs.Soundness.{item_walker, of_walker, ask_weight, of_open, item_ask, of_sent, IsTruePiece, IsSound}
use Rattle.world_law.specs.LettersAhead.{walker_ahead, item_ahead, piece_ahead, count_ahead, last_of, ahead, count_in}
use Rattle.world_law.specs.Rounds.{same_question, same_ask}
use Rattle.world_law.proofs.SoundLemmas.{ask-question}
use Rattle.world_law.proofs.AheadLemmas.{event-ahead}
use Rattle.world_law.proofs.LeadLemmas.{each-front, each-back}
use Rattle.world_law.proofs.SuffixLemmas.{EndsWith, true-ends, on_way-ends, question-pair}

-- 1 for walker i, and for an ask of walker i
abbrev pub is_number : ℕ → Walker → ℕ
is_number i v = cond (v.number == i) 1 0

abbrev pub is_by : ℕ → Ask → ℕ
is_by i a = cond (a.walker == i) 1 0

-- the end of a list, by its length
drop-front : (xs ys : List Letter) → drop (length xs) (xs ++ ys) ≡ ys
drop-front [] ys = refl
drop-front (x ∷ xs) ys = drop-front xs ys

pub last-front : (all front ys : List Letter) (n : ℕ) → all ≡ front ++ ys → n ≡ length ys → last_of n all ≡ ys
last-front all front ys n e h =
    let count : length all - n ≡ length front = (let parts = ap length e in omega (arith, length-append front ys)) in
    ap (λ k. drop k all) count ∙ ap (drop (length front)) e ∙ drop-front front ys

-- one letter less from the front of what is still to come
last-less : (all front rest : List Letter) (l : Letter) (n m : ℕ) → all ≡ front ++ (l ∷ rest) → n ≡ suc (length rest) → n ≡ m + 1
    → last_of n all ≡ l ∷ last_of m all
last-less all front rest l n m e h1 h2 =
    let more : all ≡ (front ++ l ∷ []) ++ rest = e ∙ sym (append_assoc front (l ∷ []) rest) in
    last-front all front (l ∷ rest) n e h1
    ∙ ap (λ x. l ∷ x) (sym (last-front all (front ++ l ∷ []) rest m more (omega arith)))

same_number : (i : ℕ) → (i == i) ≡ true
same_number i = eq-eqb i i refl

number-self : (v : Walker) (i : ℕ) → v.number ≡ i → is_number i v ≡ 1
number-self v i e = ap (λ b. cond b 1 0) (eq-eqb v.number i e)

-- who is not walker i has no letters of walker i
cond-zero : (c : Bool) (n : ℕ) → ◌≡◌ {A = ℕ} (cond c 1 0) 0 → cond c n 0 ≡ 0
cond-zero true n e = absurd (omega arith)
cond-zero false n e = refl

item-none : (g : PartedRun) (i : ℕ) (m : Item) → item_walker (is_number i) m ≡ 0 → item_ask (is_by i) m ≡ 0 → item_ahead g i m ≡ 0
item-none g i (Travels v from to) w a =
    omega (arith, cond-zero (v.number == i) (length (letters_from g v)) w)
item-none g i (Asks ask to) w a = cond-zero (ask.walker == i) 2 a
item-none g i (Replies reply from) w a = cond-zero (reply.ask.walker == i) 1 a

piece-none : (g : PartedRun) (i : ℕ) (p : Piece) → of_walker (is_number i) p ≡ 0 → of_sent (is_by i) p ≡ 0 → piece_ahead g i p ≡ 0
piece-none g i (Resident k v) w a = cond-zero (v.number == i) (length (letters_from g v)) w
piece-none g i (Aside k m) w a = item-none g i m w a
piece-none g i (Printed k p) w a = refl
piece-none g i (Comes m) w a = item-none g i m w a
piece-none g i (Goes m) w a = item-none g i m w a

pieces-none : (g : PartedRun) (i : ℕ) (ps : List Piece) → sum_by (of_walker (is_number i)) ps ≡ 0 → sum_by (of_sent (is_by i)) ps ≡ 0
    → sum_by (piece_ahead g i) ps ≡ 0
pieces-none g i [] w a = refl
pieces-none g i (p ∷ ps) w a =
    let walkers = sum_by-cons (of_walker (is_number i)) p ps in
    let asks = sum_by-cons (of_sent (is_by i)) p ps in
    let first = piece-none g i p (omega arith) (omega arith) in
    let later = pieces-none g i ps (omega arith) (omega arith) in
    omega (arith, sum_by-cons (piece_ahead g i) p ps)

-- who waits with an ask of walker i is walker i
open-le : (owner : ℕ → ℕ) (i : ℕ) (p : Piece) → of_open owner (is_by i) p ≤ of_walker (is_number i) p
open-le owner i (Resident k v) = by (question_of v.mode)
  where
    by : (o : Option Question) → ask_weight (is_by i) (option_map (ask_with owner v) o) ≤ is_number i v
    by None = omega arith
    by (Some q) = omega arith
open-le owner i (Aside k m) = omega arith
open-le owner i (Printed k p) = omega arith
open-le owner i (Comes m) = omega arith
open-le owner i (Goes m) = omega arith

opens-le : (owner : ℕ → ℕ) (i : ℕ) (ps : List Piece) → sum_by (of_open owner (is_by i)) ps ≤ sum_by (of_walker (is_number i)) ps
opens-le owner i ps = sum_by-le-sum_by (of_open owner (is_by i)) (of_walker (is_number i)) ps (open-le owner i)

-- of the numbers below a bound at most one is i
sum_below-one : (n i : ℕ) → sum_below n (λ k. cond (k == i) 1 0) ≡ cond (nat_lt i n) 1 0
unfolding sum_below
sum_below-one zero i = grind (arith, nat_tests)
sum_below-one (suc n) i =
    let before = sum_below-one n i in
    let last : cond (nat_lt i n) 1 0 + cond (n == i) 1 0 ≡ cond (nat_lt i (suc n)) 1 0 = step n i in
    omega arith
  where
    step : (n i : ℕ) → cond (nat_lt i n) 1 0 + cond (n == i) 1 0 ≡ cond (nat_lt i (suc n)) 1 0
    step n i = grind (arith, nat_tests)

cond-le : (b : Bool) → cond b 1 0 ≤ 1
cond-le true = omega arith
cond-le false = omega arith

pub numbers-le : (g : PartedRun) (ps : List Piece) (i : ℕ) → IsSound g ps → sum_by (of_walker (is_number i)) ps ≤ 1
numbers-le g ps i h =
    omega (arith, h.numbers (λ k. cond (k == i) 1 0), sum_below-one g.walkers i, cond-le (nat_lt i g.walkers))

-- a walker that comes in takes in the first letter
pub enters-first : (g : PartedRun) (k : ℕ) (v : Walker) (from to : ℕ) (others : List Piece)
    → IsSound g (Aside k (Travels v from to) ∷ others)
    → (count_ahead g v.number (Aside k (Travels v from to) ∷ others) ≡ suc (length (letters_from g v)))
    × EndsWith (letters_in g v.number) (letter_of (Travels v from to) ∷ letters_from g v)
enters-first g k v from to others h =
    let i = v.number in
    let p = Aside k (Travels v from to) in
    let me = number-self v i refl in
    let all = numbers-le g (p ∷ others) i h in
    let walkers = sum_by-cons (of_walker (is_number i)) p others in
    let alone : sum_by (of_walker (is_number i)) others ≡ 0 = omega arith in
    let asks = h.asks (is_by i) in
    let opens = sum_by-cons (of_open g.owner (is_by i)) p others in
    let sents = sum_by-cons (of_sent (is_by i)) p others in
    let few = opens-le g.owner i others in
    let silent : sum_by (of_sent (is_by i)) others ≡ 0 = omega arith in
    let rest = pieces-none g i others alone silent in
    let mine : walker_ahead g i v ≡ length (letters_from g v) = ap (λ b. cond b (length (letters_from g v)) zero) (same_number i) in
    (omega (arith, sum_by-cons (piece_ahead g i) p others), on_way-ends g v from to h.pieces.0.0)

-- two asks are the same where the test says so
question-same : (q r : Question) → same_question q r ≡ true → q ≡ r
question-same (question.Edge t x) (question.Edge u y) e =
    let parts = and_parts (t == u) (x == y) e in
    let one = eqb-true t u parts.0 in
    let two = eqb-true x y parts.1 in
    λ n. question.Edge (one n) (two n)
question-same (question.Edge t x) (question.Row u) e = absurd (false≢true e)
question-same (question.Row t) (question.Edge u y) e = absurd (false≢true e)
question-same (question.Row t) (question.Row u) e = ap question.Row (eqb-true t u e)

question-self : (q : Question) → same_question q q ≡ true
question-self (question.Edge t x) = and_from (t == t) (x == x) (same_number t) (same_number x)
question-self (question.Row t) = same_number t

pub ask-same : (a b : Ask) → same_ask a b ≡ true → a ≡ b
ask-same a b e =
    let first = and_parts ((a.walker == b.walker) && (a.step == b.step) && (a.home == b.home)) (same_question a.question b.question) e in
    let second = and_parts ((a.walker == b.walker) && (a.step == b.step)) (a.home == b.home) first.0 in
    let third = and_parts (a.walker == b.walker) (a.step == b.step) second.0 in
    let w = eqb-true a.walker b.walker third.0 in
    let s = eqb-true a.step b.step third.1 in
    let o = eqb-true a.home b.home second.1 in
    let q = question-same a.question b.question first.1 in
    λ n. record { walker = w n; step = s n; home = o n; question = q n }

pub ask-self : (a : Ask) → same_ask a a ≡ true
ask-self a =
    and_from ((a.walker == a.walker) && (a.step == a.step) && (a.home == a.home)) (same_question a.question a.question)
    (and_from ((a.walker == a.walker) && (a.step == a.step)) (a.home == a.home)
    (and_from (a.walker == a.walker) (a.step == a.step) (same_number a.walker) (same_number a.step)) (same_number a.home))
    (question-self a.question)

abbrev pub is_ask : Ask → Ask → ℕ
is_ask a b = cond (same_ask a b) 1 0

-- where a sum isn't nothing, a piece isn't
pub record Found (h : Piece → ℕ) (ps : List Piece) : Type 0 where
  pub piece : Piece
  pub front : List Piece
  pub back : List Piece
  pub whole : ps ≡ front ++ piece ∷ back
  pub some : 1 ≤ h piece

pub find-piece : (h : Piece → ℕ) (ps : List Piece) → 1 ≤ sum_by h ps → Found h ps
find-piece h [] e = absurd (omega arith)
find-piece h (p ∷ ps) e = by (cases_lt 0 (h p)) (λ l. find-piece h ps (let parts = sum_by-cons h p ps in omega arith))
  where
    by : (0 < h p) ⊎ (h p ≤ 0) → (h p ≤ 0 → Found h ps) → Found h (p ∷ ps)
    by (inl l) later = record { piece = p; front = []; back = ps; whole = refl; some = l }
    by (inr l) later =
        let there = later l in
        record { piece = there.piece; front = p ∷ there.front; back = there.back; whole = ap (λ x. p ∷ x) there.whole; some = there.some }

-- who waits with an ask is a resident whose ask it is
pub record Waiter (owner : ℕ → ℕ) (a : Ask) (p : Piece) : Type 0 where
  pub part : ℕ
  pub walker : Walker
  pub is : p ≡ Resident part walker
  pub asks : ask_of owner walker ≡ Some a

pub waiter-of : (owner : ℕ → ℕ) (a : Ask) (p : Piece) → 1 ≤ of_open owner (is_ask a) p → Waiter owner a p
waiter-of owner a (Resident k v) e = by (ask_of owner v) refl e
  where
    test : (b : Ask) (c : Bool) → same_ask a b ≡ c → ask_of owner v ≡ Some b → 1 ≤ cond c 1 0 → Waiter owner a (Resident k v)
    test b true t h e = record { part = k; walker = v; is = refl; asks = h ∙ ap Some (sym (ask-same a b t)) }
    test b false t h e = absurd (omega arith)

    by : (o : Option Ask) → ask_of owner v ≡ o → 1 ≤ ask_weight (is_ask a) o → Waiter owner a (Resident k v)
    by None h e = absurd (omega arith)
    by (Some b) h e = test b (same_ask a b) refl h e
waiter-of owner a (Aside k m) e = absurd (omega arith)
waiter-of owner a (Printed k p) e = absurd (omega arith)
waiter-of owner a (Comes m) e = absurd (omega arith)
waiter-of owner a (Goes m) e = absurd (omega arith)

-- the number and the ask of who waits
asks-parts : (owner : ℕ → ℕ) (v : Walker) (a : Ask) → ask_of owner v ≡ Some a
    → (v.number ≡ a.walker) × (ask_with owner v a.question ≡ a)
asks-parts owner v a e = by (question_of v.mode) e
  where
    by : (o : Option Question) → option_map (ask_with owner v) o ≡ Some a → (v.number ≡ a.walker) × (ask_with owner v a.question ≡ a)
    by None e = absurd (none-some a e)
    by (Some q) e =
        let same = same_Some (ask_with owner v q) a e in
        (ap (λ (x : Ask). x.walker) same, ap (ask_with owner v) (sym (ap (λ (x : Ask). x.question) same)) ∙ same)

-- the letters of a walk end with those of the question of a walker that waits, of its reply, and what follows
waiting-ends : (g : PartedRun) (v : Walker) (a : Ask) → IsTrueTo g v → ask_of g.owner v ≡ Some a
    → EndsWith (letters_in g a.walker)
    (letter_of (Asks a (g.owner (asked_vertex a.question)))
    ∷ letter_of (Replies (reply_to g.edges a) (g.owner (asked_vertex a.question))) ∷ letters_from g v)
waiting-ends g v a h e =
    let parts = asks-parts g.owner v a e in
    let ends = true-ends g v h in
    let pair = question-pair g v a.question h (ask-question g.owner v a e) in
    let two = λ (b : Ask). letter_of (Asks b (g.owner (asked_vertex a.question)))
    ∷ letter_of (Replies (record { ask = b; found = found_in g.edges a.question }) (g.owner (asked_vertex a.question))) ∷ [] in (
      ends.0,
      sym (ap (letters_in g) parts.0) ∙ ends.1
          ∙ ap (λ l. ends.0 ++ (l ++ letters_from g v)) (pair ∙ ap two parts.1),
    )

-- a walker that hears takes in the first letter
pub hears-first : (g : PartedRun) (k : ℕ) (v : Walker) (reply : Reply) (from : ℕ) (others : List Piece)
    → ask_of g.owner v ≡ Some reply.ask → IsSound g (Resident k v ∷ Aside k (Replies reply from) ∷ others)
    → (count_ahead g reply.ask.walker (Resident k v ∷ Aside k (Replies reply from) ∷ others) ≡ suc (length (letters_from g v)))
    × EndsWith (letters_in g reply.ask.walker) (letter_of (Replies reply from) ∷ letters_from g v)
hears-first g k v reply from others e h =
    let i = reply.ask.walker in
    let p = Resident k v in
    let r = Aside k (Replies reply from) in
    let parts = asks-parts g.owner v reply.ask e in
    let me = number-self v i parts.0 in
    let mine : walker_ahead g i v ≡ length (letters_from g v) = ap (λ b. cond b (length (letters_from g v)) zero) (eq-eqb v.number i parts.0) in
    let all = numbers-le g (p ∷ r ∷ others) i h in
    let walkers = sum_by-cons (of_walker (is_number i)) p (r ∷ others) in
    let walkers2 = sum_by-cons (of_walker (is_number i)) r others in
    let alone : sum_by (of_walker (is_number i)) others ≡ 0 = omega arith in
    let asks = h.asks (is_by i) in
    let opens = sum_by-cons (of_open g.owner (is_by i)) p (r ∷ others) in
    let opens2 = sum_by-cons (of_open g.owner (is_by i)) r others in
    let sents = sum_by-cons (of_sent (is_by i)) p (r ∷ others) in
    let sents2 = sum_by-cons (of_sent (is_by i)) r others in
    let few = opens-le g.owner i others in
    let mine_open : of_open g.owner (is_by i) p ≡ is_by i reply.ask = ap (ask_weight (is_by i)) e in
    let silent : sum_by (of_sent (is_by i)) others ≡ 0 = omega arith in
    let rest = pieces-none g i others alone silent in
    let one : item_ahead g i (Replies reply from) ≡ 1 = ap (λ b. cond b (suc zero) zero) (same_number i) in
    let count : count_ahead g i (p ∷ r ∷ others) ≡ suc (length (letters_from g v)) =
    omega (arith, sum_by-cons (piece_ahead g i) p (r ∷ others), sum_by-cons (piece_ahead g i) r others) in
    let ends = waiting-ends g v reply.ask h.pieces.0.0 e in
    let true_reply = h.pieces.1.0.0 in
    let letter : letter_of (Replies (reply_to g.edges reply.ask) (g.owner (asked_vertex reply.ask.question))) ≡ letter_of (Replies reply from) =
    ap (λ n. letter_of (Replies (reply_to g.edges reply.ask) n)) true_reply.0
    ∙ ap (λ f. letter_of (Replies (record { ask = reply.ask; found = f }) from)) (sym true_reply.1) in
    let ask = letter_of (Asks reply.ask (g.owner (asked_vertex reply.ask.question))) in (
      count,
      (
        ends.0 ++ ask ∷ [],
        ends.1 ∙ sym (append_assoc ends.0 (ask ∷ []) (letter_of (Replies (reply_to g.edges reply.ask) (g.owner (asked_vertex reply.ask.question))) ∷ letters_from g v))
            ∙ ap (λ l. (ends.0 ++ ask ∷ []) ++ (l ∷ letters_from g v)) letter,
      ),
    )

-- what is true of a piece of a list
pub each-at : (g : PartedRun) (front back : List Piece) (p : Piece) → Each (IsTruePiece g) (front ++ p ∷ back) → IsTruePiece g p
each-at g front back p h = (each-back g front (p ∷ back) h).0

-- who waits, and how many letters are still to come, where one other piece counts
waiter-count : (g : PartedRun) (i k : ℕ) (v : Walker) (front back : List Piece) → v.number ≡ i
    → sum_by (of_walker (is_number i)) (front ++ Resident k v ∷ back) ≤ 1
    → sum_by (of_sent (is_by i)) (front ++ Resident k v ∷ back) ≡ 0
    → sum_by (piece_ahead g i) (front ++ Resident k v ∷ back) ≡ length (letters_from g v)
waiter-count g i k v front back e few silent =
    let p = Resident k v in
    let me = number-self v i e in
    let mine : walker_ahead g i v ≡ length (letters_from g v) = ap (λ b. cond b (length (letters_from g v)) zero) (eq-eqb v.number i e) in
    let w1 = sum_by-append (of_walker (is_number i)) front (p ∷ back) in
    let w2 = sum_by-cons (of_walker (is_number i)) p back in
    let s1 = sum_by-append (of_sent (is_by i)) front (p ∷ back) in
    let s2 = sum_by-cons (of_sent (is_by i)) p back in
    let before = pieces-none g i front (omega arith) (omega arith) in
    let after = pieces-none g i back (omega arith) (omega arith) in
    omega (arith, sum_by-append (piece_ahead g i) front (p ∷ back), sum_by-cons (piece_ahead g i) p back)

-- an ask that is answered is the first letter of who waits with it
pub answers-first : (g : PartedRun) (k : ℕ) (ask : Ask) (to : ℕ) (others : List Piece)
    → IsSound g (Aside k (Asks ask to) ∷ others)
    → (rest : List Letter) × (count_ahead g ask.walker (Aside k (Asks ask to) ∷ others) ≡ suc (length rest))
    × EndsWith (letters_in g ask.walker) (letter_of (Asks ask to) ∷ rest)
answers-first g k ask to others h =
    let i = ask.walker in
    let p = Aside k (Asks ask to) in
    let mine : is_ask ask ask ≡ 1 = ap (λ b. cond b (suc zero) zero) (ask-self ask) in
    let sent = sum_by-cons (of_sent (is_ask ask)) p others in
    let open1 = sum_by-cons (of_open g.owner (is_ask ask)) p others in
    let balance = h.asks (is_ask ask) in
    let found = find-piece (of_open g.owner (is_ask ask)) others (omega arith) in
    with_waiter g k ask to others h found (waiter-of g.owner ask found.piece found.some)
  where
    with_waiter : (g : PartedRun) (k : ℕ) (ask : Ask) (to : ℕ) (others : List Piece)
        → IsSound g (Aside k (Asks ask to) ∷ others) → (f : Found (of_open g.owner (is_ask ask)) others) → Waiter g.owner ask f.piece
        → (rest : List Letter) × (count_ahead g ask.walker (Aside k (Asks ask to) ∷ others) ≡ suc (length rest))
        × EndsWith (letters_in g ask.walker) (letter_of (Asks ask to) ∷ rest)
    with_waiter g k ask to others h f w =
        let i = ask.walker in
        let v = w.walker in
        let p = Aside k (Asks ask to) in
        let parts = asks-parts g.owner v ask w.asks in
        let whole : others ≡ f.front ++ Resident w.part v ∷ f.back = f.whole ∙ ap (λ q. f.front ++ q ∷ f.back) w.is in
        let held = subst (λ l. Each (IsTruePiece g) l) whole h.pieces.1 in
        let holds = (each-at g f.front f.back (Resident w.part v) held).0 in
        let all = numbers-le g (p ∷ others) i h in
        let walkers = sum_by-cons (of_walker (is_number i)) p others in
        let few = opens-le g.owner i others in
        let asks = h.asks (is_by i) in
        let opens = sum_by-cons (of_open g.owner (is_by i)) p others in
        let sents = sum_by-cons (of_sent (is_by i)) p others in
        let me : is_by i ask ≡ 1 = ap (λ b. cond b (suc zero) zero) (same_number i) in
        let silent : sum_by (of_sent (is_by i)) others ≡ 0 = omega arith in
        let alone : sum_by (of_walker (is_number i)) others ≤ 1 = omega arith in
        let count = waiter-count g i w.part v f.front f.back parts.0
        (subst (λ l. sum_by (of_walker (is_number i)) l ≤ 1) whole alone)
        (subst (λ l. sum_by (of_sent (is_by i)) l ≡ 0) whole silent) in
        let same = ap (sum_by (piece_ahead g i)) whole in
        let two : item_ahead g i (Asks ask to) ≡ 2 = ap (λ b. cond b (suc (suc zero)) zero) (same_number i) in
        let reply = letter_of (Replies (reply_to g.edges ask) (g.owner (asked_vertex ask.question))) in
        let ends = waiting-ends g v ask holds w.asks in
        let letter = ap (λ n. letter_of (Asks ask n)) h.pieces.0.0 in (
          reply ∷ letters_from g v,
          omega (arith, sum_by-cons (piece_ahead g i) p others),
          (ends.0, ends.1 ∙ ap (λ l. ends.0 ++ (l ∷ reply ∷ letters_from g v)) letter),
        )

-- the letters still to come after an event that takes one in
less-ahead : (g : PartedRun) (k i : ℕ) (e : Event) (others : List Piece) (l : Letter) (rest : List Letter)
    → May g k e → IsSound g (taken_by k e ++ others) → letter_in e ≡ Some l → l.walker ≡ i
    → count_ahead g i (taken_by k e ++ others) ≡ suc (length rest)
    → EndsWith (letters_in g i) (l ∷ rest)
    → ahead g (taken_by k e ++ others) i ≡ l ∷ ahead g (given_by g k e ++ others) i
less-ahead g k i e others l rest may h is mine count ends =
    let counted = event-ahead g k i e may (each-front g (taken_by k e) others h.pieces) in
    let one : count_in i (letter_in e) ≡ 1 = ap (count_in i) is ∙ ap (λ b. cond b (suc zero) zero) (eq-eqb l.walker i mine) in
    last-less (letters_in g i) ends.0 rest l (count_ahead g i (taken_by k e ++ others)) (count_ahead g i (given_by g k e ++ others)) ends.1 count
    (omega (arith, sum_by-append (piece_ahead g i) (taken_by k e) others, sum_by-append (piece_ahead g i) (given_by g k e) others))

-- each letter that an event takes in is the first of those that its walker has not yet taken in
pub first-letter : (g : PartedRun) (k : ℕ) (e : Event) (others : List Piece) (l : Letter) → May g k e
    → IsSound g (taken_by k e ++ others) → letter_in e ≡ Some l
    → ahead g (taken_by k e ++ others) l.walker ≡ l ∷ ahead g (given_by g k e ++ others) l.walker
first-letter g k (Arrives m) others l may h is = absurd (none-some l is)
first-letter g k (Turns v) others l may h is = absurd (none-some l is)
first-letter g k (Enters v from to) others l may h is =
    let first = enters-first g k v from to others h in
    let same = same_Some (letter_of (Travels v from to)) l is in
    subst (λ x. ahead g (taken_by k (Enters v from to) ++ others) x.walker ≡ x ∷ ahead g (given_by g k (Enters v from to) ++ others) x.walker) same
    (less-ahead g k v.number (Enters v from to) others (letter_of (Travels v from to)) (letters_from g v) may h refl refl first.0 first.1)
first-letter g k (Answered ask to) others l may h is =
    let first = answers-first g k ask to others h in
    let same = same_Some (letter_of (Asks ask to)) l is in
    subst (λ x. ahead g (taken_by k (Answered ask to) ++ others) x.walker ≡ x ∷ ahead g (given_by g k (Answered ask to) ++ others) x.walker) same
    (less-ahead g k ask.walker (Answered ask to) others (letter_of (Asks ask to)) first.0 may h refl refl first.1 first.2)
first-letter g k (Hears v reply from) others l may h is =
    let first = hears-first g k v reply from others may.1 h in
    let same = same_Some (letter_of (Replies reply from)) l is in
    subst (λ x. ahead g (taken_by k (Hears v reply from) ++ others) x.walker ≡ x ∷ ahead g (given_by g k (Hears v reply from) ++ others) x.walker) same
    (less-ahead g k reply.ask.walker (Hears v reply from) others (letter_of (Replies reply from)) (letters_from g v) may h refl refl first.0 first.1)

-- an event that takes in no letter of walker i leaves what is still to come of it
pub other-letters : (g : PartedRun) (k i : ℕ) (e : Event) (others : List Piece) → May g k e
    → IsSound g (taken_by k e ++ others) → count_in i (letter_in e) ≡ 0
    → ahead g (taken_by k e ++ others) i ≡ ahead g (given_by g k e ++ others) i
other-letters g k i e others may h none =
    let counted = event-ahead g k i e may (each-front g (taken_by k e) others h.pieces) in
    let same : count_ahead g i (taken_by k e ++ others) ≡ count_ahead g i (given_by g k e ++ others) =
    omega (arith, sum_by-append (piece_ahead g i) (taken_by k e) others, sum_by-append (piece_ahead g i) (given_by g k e) others) in
    ap (λ n. last_of n (letters_in g i)) same
