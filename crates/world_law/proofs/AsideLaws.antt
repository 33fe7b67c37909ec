-- In a sound world no reply is left aside by a round.
use Rattle.std.proofs.Common.{◌≡◌, ℕ, zero, suc, ◌≤◌, Bool, true, false, cond, List, [], ◌∷◌, ◌++◌, map, refl, ap, sym, ◌∙◌, arith, None, Some, inl, inr}
use Rattle.std.specs.Prelude.{Option, option_map, All, sum_by, count_by, ◌⊎◌}
use Rattle.std.proofs.lemmas.Bool.{false≢true, cases_eq}
use Rattle.std.proofs.lemmas.List.Sums.{sum_by-cons, sum_by-append}
use Rattle.std.proofs.lemmas.Option.{none-some, same_Some}
use Rattle.walk_model.specs.declared.messages.Ask.{Ask}
use Rattle.walk_model.specs.declared.messages.Question.{Question}
use Rattle.walk_model.specs.declared.results.Print.{Print}
use Rattle.traveller.specs.PartedRuns.{PartedRun}
use Rattle.traveller.specs.Walkers.{Walker, question_of, ask_with, ask_of}
use Rattle.world_law.specs.Items.{Item, Travels, Asks, Replies, letter_of}
use Rattle.world_law.specs.Worlds.{Piece, Resident, Aside, Printed, Comes, Goes, ShardData, shard_pieces, Each}
use Rattle.world_law.specs.Soundness.{ask_weight, of_open, item_ask, of_sent, IsTruePiece, IsSound}
use Rattle.world_law.specs.Rounds.{same_ask, is_reply, is_reply_to, waits_with, IsRound, Elsewhere, ResideElsewhere, GoTo}
use Rattle.world_law.proofs.LeadLemmas.{each-front, each-back}
use Rattle.world_law.proofs.LetterLaws.{is_ask, ask-same, ask-self}

-- a reply to an ask weighs what its ask weighs
reply-le : (a : Ask) (i : Item) → cond (is_reply_to a i) 1 0 ≤ item_ask (is_ask a) i
reply-le a (Travels v from to) = omega arith
reply-le a (Asks ask to) = omega arith
reply-le a (Replies reply from) = omega arith

aside-le : (a : Ask) (k : ℕ) (is : List Item) → count_by (is_reply_to a) is ≤ sum_by (of_sent (is_ask a)) (map (Aside k) is)
aside-le a k [] = omega arith
aside-le a k (i ∷ is) =
    omega (
      arith,
      reply-le a i,
      aside-le a k is,
      sum_by-cons (λ m. cond (is_reply_to a m) 1 0) i is,
      sum_by-cons (of_sent (is_ask a)) (Aside k i) (map (Aside k) is),
    )

comes-le : (a : Ask) (is : List Item) → count_by (is_reply_to a) is ≤ sum_by (of_sent (is_ask a)) (map Comes is)
comes-le a [] = omega arith
comes-le a (i ∷ is) =
    omega (
      arith,
      reply-le a i,
      comes-le a is,
      sum_by-cons (λ m. cond (is_reply_to a m) 1 0) i is,
      sum_by-cons (of_sent (is_ask a)) (Comes i) (map Comes is),
    )

-- a reply to an ask from elsewhere is not here
reply-home : (a : Ask) (k : ℕ) (i : Item) → (letter_of i).to ≡ k → (a.home ≡ k → ⊥) → ◌≡◌ {A = ℕ} (cond (is_reply_to a i) 1 0) 0
reply-home a k (Travels v from to) e n = refl
reply-home a k (Asks ask to) e n = refl
reply-home a k (Replies reply from) e n = by (same_ask a reply.ask) refl
  where
    by : (b : Bool) → same_ask a reply.ask ≡ b → ◌≡◌ {A = ℕ} (cond b 1 0) 0
    by true h = absurd (n (ap (λ (x : Ask). x.home) (ask-same a reply.ask h) ∙ e))
    by false h = refl

aside-none : (g : PartedRun) (a : Ask) (k : ℕ) (is : List Item) → (a.home ≡ k → ⊥) → Each (IsTruePiece g) (map (Aside k) is)
    → count_by (is_reply_to a) is ≡ 0
aside-none g a k [] n h = refl
aside-none g a k (i ∷ is) n h =
    omega (arith, reply-home a k i h.0.1 n, aside-none g a k is n h.1, sum_by-cons (λ m. cond (is_reply_to a m) 1 0) i is)

arrivals-none : (a : Ask) (k : ℕ) (is : List Item) → (a.home ≡ k → ⊥) → GoTo k is → count_by (is_reply_to a) is ≡ 0
arrivals-none a k [] n h = refl
arrivals-none a k (i ∷ is) n h =
    omega (arith, reply-home a k i h.0 n, arrivals-none a k is n h.1, sum_by-cons (λ m. cond (is_reply_to a m) 1 0) i is)

waits-as : (a : Ask) (o : Option Ask) → ask_weight (is_ask a) o ≡ cond (waits_with a o) 1 0
waits-as a None = refl
waits-as a (Some b) = refl

-- the residents of a shard that wait with an ask
residents-open : (g : PartedRun) (a : Ask) (k : ℕ) (vs : List Walker)
    → sum_by (of_open g.owner (is_ask a)) (map (Resident k) vs) ≡ count_by (λ v. waits_with a (ask_of g.owner v)) vs
residents-open g a k [] = refl
residents-open g a k (v ∷ vs) =
    omega (
      arith,
      waits-as a (ask_of g.owner v),
      residents-open g a k vs,
      sum_by-cons (of_open g.owner (is_ask a)) (Resident k v) (map (Resident k) vs),
      sum_by-cons (λ u. cond (waits_with a (ask_of g.owner u)) 1 0) v vs,
    )

no-open : (owner : ℕ → ℕ) (a : Ask) (f : Item → Piece) → ((i : Item) → of_open owner (is_ask a) (f i) ≡ 0) → (is : List Item)
    → sum_by (of_open owner (is_ask a)) (map f is) ≡ 0
no-open owner a f e [] = refl
no-open owner a f e (i ∷ is) = omega (arith, e i, no-open owner a f e is, sum_by-cons (of_open owner (is_ask a)) (f i) (map f is))

-- who waits with an ask from a part resides there
pub ask-home : (owner : ℕ → ℕ) (v : Walker) (b : Ask) → ask_of owner v ≡ Some b → b.home ≡ owner v.state.at
ask-home owner v b e = by (question_of v.mode) e
  where
    by : (o : Option Question) → option_map (ask_with owner v) o ≡ Some b → b.home ≡ owner v.state.at
    by None e = absurd (none-some b e)
    by (Some q) e = sym (ap (λ (x : Ask). x.home) (same_Some (ask_with owner v q) b e))

other-open : (g : PartedRun) (a : Ask) (k : ℕ) (p : Piece) → a.home ≡ k → Elsewhere k p → IsTruePiece g p
    → of_open g.owner (is_ask a) p ≡ 0
other-open g a k (Aside part i) e r h = refl
other-open g a k (Printed part p) e r h = refl
other-open g a k (Comes i) e r h = refl
other-open g a k (Goes i) e r h = refl
other-open g a k (Resident part v) e r h = by (ask_of g.owner v) refl
  where
    test : (b : Ask) (c : Bool) → ask_of g.owner v ≡ Some b → same_ask a b ≡ c → ◌≡◌ {A = ℕ} (cond c 1 0) 0
    test b true w t = absurd (r (sym h.1 ∙ sym (ask-home g.owner v b w) ∙ sym (ap (λ (x : Ask). x.home) (ask-same a b t)) ∙ e))
    test b false w t = refl

    by : (o : Option Ask) → ask_of g.owner v ≡ o → ask_weight (is_ask a) o ≡ 0
    by None w = refl
    by (Some b) w = test b (same_ask a b) w refl

others-open : (g : PartedRun) (a : Ask) (k : ℕ) (ps : List Piece) → a.home ≡ k → ResideElsewhere k ps → Each (IsTruePiece g) ps
    → sum_by (of_open g.owner (is_ask a)) ps ≡ 0
others-open g a k [] e r h = refl
others-open g a k (p ∷ ps) e r h =
    omega (arith, other-open g a k p e r.0 h.0, others-open g a k ps e r.1 h.1, sum_by-cons (of_open g.owner (is_ask a)) p ps)

no-prints : (owner : ℕ → ℕ) (a : Ask) (k : ℕ) (ps : List Print) → sum_by (of_open owner (is_ask a)) (map (Printed k) ps) ≡ 0
no-prints owner a k [] = refl
no-prints owner a k (p ∷ ps) = omega (arith, no-prints owner a k ps, sum_by-cons (of_open owner (is_ask a)) (Printed k p) (map (Printed k) ps))

-- in a sound world a shard has no more replies to an ask than walkers that wait with it
replies-le : (g : PartedRun) (a : Ask) (s : ShardData) (arrivals : List Item) (others : List Piece)
    → IsSound g ((shard_pieces s ++ map Comes arrivals) ++ others) → GoTo s.part arrivals → ResideElsewhere s.part others
    → (a.home ≡ s.part) ⊎ (a.home ≡ s.part → ⊥)
    → count_by (is_reply_to a) (s.aside ++ arrivals) ≤ count_by (λ v. waits_with a (ask_of g.owner v)) s.residents
replies-le g a s arrivals others h to away (inr n) =
    let mine = each-front g (shard_pieces s ++ map Comes arrivals) others h.pieces in
    let shard = each-front g (shard_pieces s) (map Comes arrivals) mine in
    let asides = each-front g (map (Aside s.part) s.aside) (map (Printed s.part) s.prints)
    (each-back g (map (Resident s.part) s.residents) (map (Aside s.part) s.aside ++ map (Printed s.part) s.prints) shard) in
    omega (
      arith,
      sum_by-append (λ m. cond (is_reply_to a m) 1 0) s.aside arrivals,
      aside-none g a s.part s.aside n asides,
      arrivals-none a s.part arrivals n to,
    )
replies-le g a s arrivals others h to away (inl e) =
    let x = of_open g.owner (is_ask a) in
    let y = of_sent (is_ask a) in
    let k = s.part in
    let rest = others-open g a k others e away (each-back g (shard_pieces s ++ map Comes arrivals) others h.pieces) in
    omega (
      arith,
      h.asks (is_ask a),
      rest,
      sum_by-append (λ m. cond (is_reply_to a m) 1 0) s.aside arrivals,
      aside-le a k s.aside,
      comes-le a arrivals,
      residents-open g a k s.residents,
      no-open g.owner a (Aside k) (λ i. refl) s.aside,
      no-open g.owner a Comes (λ i. refl) arrivals,
      no-prints g.owner a k s.prints,
      sum_by-append x (shard_pieces s ++ map Comes arrivals) others,
      sum_by-append x (shard_pieces s) (map Comes arrivals),
      sum_by-append x (map (Resident k) s.residents) (map (Aside k) s.aside ++ map (Printed k) s.prints),
      sum_by-append x (map (Aside k) s.aside) (map (Printed k) s.prints),
      sum_by-append y (shard_pieces s ++ map Comes arrivals) others,
      sum_by-append y (shard_pieces s) (map Comes arrivals),
      sum_by-append y (map (Resident k) s.residents) (map (Aside k) s.aside ++ map (Printed k) s.prints),
      sum_by-append y (map (Aside k) s.aside) (map (Printed k) s.prints),
    )

none-aside : (is : List Item) → ((a : Ask) → count_by (is_reply_to a) is ≡ 0) → All (λ i. is_reply i ≡ true) is → is ≡ []
none-aside [] none replies = refl
none-aside (Travels v from to ∷ is) none replies = absurd (false≢true (replies 0 (Travels v from to) (omega arith)))
none-aside (Asks ask to ∷ is) none replies = absurd (false≢true (replies 0 (Asks ask to) (omega arith)))
none-aside (Replies reply from ∷ is) none replies =
    let me : ◌≡◌ {A = ℕ} (cond (same_ask reply.ask reply.ask) 1 0) 1 = ap (λ b. cond b (suc zero) zero) (ask-self reply.ask) in
    absurd (let none = none reply.ask in omega (arith, sum_by-cons (λ m. cond (is_reply_to reply.ask m) 1 0) (Replies reply from) is))

-- in a sound world a round leaves no reply aside
pub aside-empty : (g : PartedRun) (before after : ShardData) (arrivals out : List Item) (others : List Piece)
    → IsSound g ((shard_pieces before ++ map Comes arrivals) ++ others) → GoTo before.part arrivals → ResideElsewhere before.part others
    → IsRound g before arrivals after out → after.aside ≡ []
aside-empty g before after arrivals out others h to away r =
    none-aside after.aside
    (λ a.
    let few = replies-le g a before arrivals others h to away (cases_eq a.home before.part) in
    let heard = r.heard a in
    omega arith)
    r.replies
