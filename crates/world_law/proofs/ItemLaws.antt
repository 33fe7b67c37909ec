-- In a sound world the letter of each item is the first of those ahead of its walker.
use Rattle.std.proofs.Common.{◌≡◌, ℕ, suc, cond, List, ◌∷◌, ◌++◌, length, refl, ap, sym, ◌∙◌, arith, subst}
use Rattle.std.specs.Prelude.{sum_by}
use Rattle.std.proofs.lemmas.List.Sums.{sum_by-cons, sum_by-append}
use Rattle.walk_model.specs.declared.messages.Letter.{Letter}
use Rattle.walk_model.specs.declared.messages.Reply.{Reply}
use Rattle.traveller.specs.PartedRuns.{PartedRun, letters_in}
use Rattle.world_law.specs.Items.{Item, Travels, Asks, Replies, letter_of}
use Rattle.world_law.specs.LettersLeft.{letters_from}
use Rattle.world_law.specs.Worlds.{Piece, Resident, Aside, Comes, Goes, Same}
use Rattle.world_law.specs.Events.{Arrives}
use Rattle.world_law.specs.Histories.{Carries}
use Rattle.world_law.specs.Soundness.{of_open, of_sent, IsSound}
use Rattle.world_law.specs.LettersAhead.{piece_ahead, count_ahead, last_of, ahead, Begins}
use Rattle.world_law.proofs.LeadLemmas.{sound-same, sound-event}
use Rattle.world_law.proofs.HistoryLemmas.{sound-happening}
use Rattle.world_law.proofs.AsideLaws.{ask-home}
use Rattle.world_law.proofs.SuffixLemmas.{EndsWith}
use Rattle.world_law.proofs.LetterLaws.{is_ask, ask-self, Found, find-piece, Waiter, waiter-of, last-front, enters-first, answers-first, hears-first}

-- what ends with a letter and others, counted, begins with it
begins-of : (g : PartedRun) (i : ℕ) (ps : List Piece) (l : Letter) (rest : List Letter) → count_ahead g i ps ≡ suc (length rest)
    → EndsWith (letters_in g i) (l ∷ rest) → Begins l (ahead g ps i)
begins-of g i ps l rest count ends =
    (rest, last-front (letters_in g i) ends.0 (l ∷ rest) (count_ahead g i ps) ends.1 count)

-- a reply has a walker that waits for it, which may be put in front
reply-first : (g : PartedRun) (k : ℕ) (reply : Reply) (from : ℕ) (others : List Piece)
    → IsSound g (Aside k (Replies reply from) ∷ others)
    → Begins (letter_of (Replies reply from)) (ahead g (Aside k (Replies reply from) ∷ others) reply.ask.walker)
reply-first g k reply from others h =
    let r = Aside k (Replies reply from) in
    let mine : is_ask reply.ask reply.ask ≡ 1 = ap (λ b. cond b (suc 0) 0) (ask-self reply.ask) in
    let sent = sum_by-cons (of_sent (is_ask reply.ask)) r others in
    let open1 = sum_by-cons (of_open g.owner (is_ask reply.ask)) r others in
    let balance = h.asks (is_ask reply.ask) in
    let found = find-piece (of_open g.owner (is_ask reply.ask)) others (omega arith) in
    with_waiter g k reply from others h found (waiter-of g.owner reply.ask found.piece found.some)
  where
    with_waiter : (g : PartedRun) (k : ℕ) (reply : Reply) (from : ℕ) (others : List Piece)
        → IsSound g (Aside k (Replies reply from) ∷ others) → (f : Found (of_open g.owner (is_ask reply.ask)) others)
        → Waiter g.owner reply.ask f.piece
        → Begins (letter_of (Replies reply from)) (ahead g (Aside k (Replies reply from) ∷ others) reply.ask.walker)
    with_waiter g k reply from others h f w =
        let r = Aside k (Replies reply from) in
        let p = Resident w.part w.walker in
        let whole : others ≡ f.front ++ p ∷ f.back = f.whole ∙ ap (λ q. f.front ++ q ∷ f.back) w.is in
        let turned : Same (r ∷ others) (p ∷ r ∷ (f.front ++ f.back)) = λ x.
        ap (λ l. sum_by x (r ∷ l)) whole
        ∙ omega (
          arith,
          sum_by-cons x r (f.front ++ p ∷ f.back),
          sum_by-append x f.front (p ∷ f.back),
          sum_by-cons x p f.back,
          sum_by-cons x p (r ∷ (f.front ++ f.back)),
          sum_by-cons x r (f.front ++ f.back),
          sum_by-append x f.front f.back,
        ) in
        let sound = sound-same g (r ∷ others) (p ∷ r ∷ (f.front ++ f.back)) turned h in
        let here : w.part ≡ k = sym sound.pieces.0.1 ∙ sym (ask-home g.owner w.walker reply.ask w.asks) ∙ h.pieces.0.1 in
        let first = hears-first g k w.walker reply from (f.front ++ f.back) w.asks
        (subst (λ n. IsSound g (Resident n w.walker ∷ r ∷ (f.front ++ f.back))) here sound) in
        begins-of g reply.ask.walker (r ∷ others) (letter_of (Replies reply from)) (letters_from g w.walker)
        (turned (piece_ahead g reply.ask.walker) ∙ first.0) first.1

-- of an item that is set aside
pub aside-first : (g : PartedRun) (k : ℕ) (m : Item) (others : List Piece) → IsSound g (Aside k m ∷ others)
    → Begins (letter_of m) (ahead g (Aside k m ∷ others) (letter_of m).walker)
aside-first g k (Travels v from to) others h =
    let first = enters-first g k v from to others h in
    begins-of g v.number (Aside k (Travels v from to) ∷ others) (letter_of (Travels v from to)) (letters_from g v) first.0 first.1
aside-first g k (Asks ask to) others h =
    let first = answers-first g k ask to others h in
    begins-of g ask.walker (Aside k (Asks ask to) ∷ others) (letter_of (Asks ask to)) first.0 first.1 first.2
aside-first g k (Replies reply from) others h = reply-first g k reply from others h

-- of one in flight: it may be taken in
comes-count : (g : PartedRun) (i : ℕ) (k : ℕ) (m : Item) (others : List Piece)
    → count_ahead g i (Aside k m ∷ others) ≡ count_ahead g i (Comes m ∷ others)
comes-count g i k m others = omega (arith, sum_by-cons (piece_ahead g i) (Aside k m) others, sum_by-cons (piece_ahead g i) (Comes m) others)

goes-count : (g : PartedRun) (i : ℕ) (m : Item) (others : List Piece)
    → count_ahead g i (Comes m ∷ others) ≡ count_ahead g i (Goes m ∷ others)
goes-count g i m others = omega (arith, sum_by-cons (piece_ahead g i) (Goes m) others, sum_by-cons (piece_ahead g i) (Comes m) others)

pub comes-first : (g : PartedRun) (m : Item) (others : List Piece) → IsSound g (Comes m ∷ others)
    → Begins (letter_of m) (ahead g (Comes m ∷ others) (letter_of m).walker)
comes-first g m others h =
    let k = (letter_of m).to in
    let aside = aside-first g k m others (sound-event g k (Arrives m) others refl h) in
    let i = (letter_of m).walker in
    (aside.0, sym (ap (λ n. last_of n (letters_in g i)) (comes-count g i k m others)) ∙ aside.1)

pub goes-first : (g : PartedRun) (m : Item) (others : List Piece) → IsSound g (Goes m ∷ others)
    → Begins (letter_of m) (ahead g (Goes m ∷ others) (letter_of m).walker)
goes-first g m others h =
    let comes = comes-first g m others (sound-happening g (Carries m) others tt h) in
    let i = (letter_of m).walker in
    (comes.0, sym (ap (λ n. last_of n (letters_in g i)) (goes-count g i m others)) ∙ comes.1)
