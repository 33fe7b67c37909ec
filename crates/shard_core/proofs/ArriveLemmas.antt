-- What arrives becomes walkers that go on, replies on their way, and replies that walkers may hear.
use Rattle.std.proofs.Common.{◌≡◌, ◌<◌, ◌≤◌, ◌+◌, ℕ, zero, suc, Bool, true, false, List, [], ◌∷◌, ◌++◌, length, map, refl, ap, sym, subst, ◌∙◌, arith}
use Rattle.std.specs.Prelude.{All, sum_by, if◌then◌else◌, Option}
use Rattle.std.proofs.lemmas.List.{append_assoc, map_push}
use Rattle.std.specs.List.{flat_map, filter_map}
use Rattle.std.proofs.lemmas.List.Elements.{All-head, All-tail, All-cons, All-nil, filter_map-append}
use Rattle.std.proofs.lemmas.List.Sums.{sum_by-cons, sum_by-append}
use Rattle.walk_model.specs.declared.graph.Edge.{Edge}
use Rattle.walk_model.specs.declared.messages.Ask.{Ask}
use Rattle.walk_model.specs.declared.messages.Found.{Found}
use Rattle.walk_model.specs.declared.messages.Found.TheVariants as found
use Rattle.walk_model.specs.declared.messages.Question.{Question}
use Rattle.walk_model.specs.declared.messages.Question.TheVariants as question
use Rattle.walk_model.specs.declared.messages.Reply.{Reply}
use Rattle.walk_model.specs.Graph.{row, ends_of, with_number}
use Rattle.csr_store.specs.RowGraph.{RowGraph}
use Rattle.query_batch.specs.Questions.{CanAnswer}
use Rattle.query_batch.specs.Numbers.{IsWithin as IsAskedWithin}
use Rattle.query_batch.specs.Replies.{rising as batch_rising, found_in as batch_found, reply_to as batch_reply}
use Rattle.vertex_partition.specs.PartViews.{PartView, Owns, IsPartOf}
use Rattle.traveller.specs.declared.modes.Mode.TheVariants.{Fresh}
use Rattle.traveller.specs.declared.runs.Run.{Run}
use Rattle.traveller.specs.PartedRuns.{PartedRun}
use Rattle.traveller.specs.Replies.{rising, reply_to, Answers}
use Rattle.traveller.specs.Standing.{IsPossible, IsWithin, StandsIn, Suits, parted}
use Rattle.traveller.specs.Walkers.{Walker, asked_vertex, is_ready}
use Rattle.world_law.specs.Items.{Item, Travels, Asks, Replies, letter_of}
use Rattle.world_law.specs.Worlds.{Piece, Resident, Aside, Comes, Goes, Same}
use Rattle.world_law.specs.Events.{Arrives, Enters, Answered, Becomes}
use Rattle.world_law.proofs.BecomeLemmas.{becomes-same, becomes-event, becomes-then}
use Rattle.shard_core.specs.declared.hearing.Offer.{Offer}
use Rattle.shard_core.specs.declared.items.Item.{Item as Sent}
use Rattle.shard_core.specs.Abreast.{IsReadyIn}
use Rattle.shard_core.specs.Items.{item_of}
use Rattle.shard_core.specs.KeptShards.{HasForm}
use Rattle.shard_core.specs.Offers.{walker_in, ask_in, offer_in, offer_of, open_tolds, told_pieces, sent_home}
use Rattle.shard_core.specs.SoundWorlds.{IsInFlight, flight_of}
use Rattle.shard_core.specs.Taking.{Takes}
use Rattle.shard_core.proofs.PileLemmas.{becomes-both, becomes-as}

-- the pieces that arrivals are taken in as: walkers, asks, and replies that walkers may hear
abbrev pub ask_pieces : ℕ → List Ask → List Piece
ask_pieces k asks = map (λ a. Aside k (Asks a k)) asks

abbrev pub taken_pieces : ℕ → List Item → List Piece
taken_pieces k is =
    map (Resident k) (filter_map walker_in is)
    ++ (ask_pieces k (filter_map ask_in is) ++ told_pieces k (open_tolds (filter_map offer_in is)))

one-taken : (g : PartedRun) (vertices : ℕ) (p : PartView) (i : Item) → Takes vertices p i
    → Becomes g p.part (Comes i ∷ []) (taken_pieces p.part (i ∷ []))
one-taken g vertices p (Travels v from to) takes =
    let k = p.part in
    let i = Travels v from to in
    becomes-then g k (Comes i ∷ []) (Aside k i ∷ []) (Resident k v ∷ []) (becomes-event g k (Arrives i) takes.to)
    (becomes-event g k (Enters v from to) takes.suited.1)
one-taken g vertices p (Asks ask to) takes =
    subst (λ n. Becomes g p.part (Comes (Asks ask to) ∷ []) (Aside p.part (Asks ask n) ∷ [])) takes.to
    (becomes-event g p.part (Arrives (Asks ask to)) takes.to)
one-taken g vertices p (Replies reply from) takes = becomes-event g p.part (Arrives (Replies reply from)) takes.to

-- three lists, each with what one element adds
three-same : (a d b e c f : List Piece) → Same ((a ++ (b ++ c)) ++ (d ++ (e ++ f))) ((a ++ d) ++ ((b ++ e) ++ (c ++ f)))
three-same a d b e c f h =
    omega (
      arith,
      sum_by-append h (a ++ (b ++ c)) (d ++ (e ++ f)),
      sum_by-append h a (b ++ c),
      sum_by-append h b c,
      sum_by-append h d (e ++ f),
      sum_by-append h e f,
      sum_by-append h (a ++ d) ((b ++ e) ++ (c ++ f)),
      sum_by-append h (b ++ e) (c ++ f),
      sum_by-append h a d,
      sum_by-append h b e,
      sum_by-append h c f,
    )

cons-taken : (k : ℕ) (i : Item) (is : List Item)
    → Same (taken_pieces k (i ∷ []) ++ taken_pieces k is) (taken_pieces k (i ∷ is))
cons-taken k (Travels v from to) is =
    three-same (Resident k v ∷ []) (map (Resident k) (filter_map walker_in is)) [] (ask_pieces k (filter_map ask_in is)) []
    (told_pieces k (open_tolds (filter_map offer_in is)))
cons-taken k (Asks ask to) is =
    three-same [] (map (Resident k) (filter_map walker_in is)) (Aside k (Asks ask k) ∷ []) (ask_pieces k (filter_map ask_in is)) []
    (told_pieces k (open_tolds (filter_map offer_in is)))
cons-taken k (Replies reply from) is =
    three-same [] (map (Resident k) (filter_map walker_in is)) [] (ask_pieces k (filter_map ask_in is)) (Aside k (Replies reply from) ∷ [])
    (told_pieces k (open_tolds (filter_map offer_in is)))

-- items that come are taken in
pub all-taken : (g : PartedRun) (vertices : ℕ) (p : PartView) (is : List Item) → All (Takes vertices p) is
    → Becomes g p.part (map Comes is) (taken_pieces p.part is)
all-taken g vertices p [] takes = becomes-same g p.part [] [] (λ h. refl)
all-taken g vertices p (i ∷ is) takes =
    becomes-as g p.part (map Comes (i ∷ is)) (map Comes (i ∷ is)) (taken_pieces p.part (i ∷ []) ++ taken_pieces p.part is) (taken_pieces p.part (i ∷ is))
    (becomes-both g p.part (Comes i ∷ []) (taken_pieces p.part (i ∷ [])) (map Comes is) (taken_pieces p.part is)
    (one-taken g vertices p i (All-head (Takes vertices p) i is takes))
    (all-taken g vertices p is (All-tail (Takes vertices p) i is takes)))
    (λ h. refl) (cons-taken p.part i is)

-- what a batch finds in a part is what the graph has
rising-same : (xs : List ℕ) → batch_rising xs ≡ rising xs
unfolding batch_rising rising
rising-same [] = refl
rising-same (x ∷ xs) = ap (with_number x) (rising-same xs)

pub reply-same : (g : RowGraph) (p : PartView) (a : Ask) → IsPartOf g p → CanAnswer p a.question → batch_reply p.edges a ≡ reply_to g.edges a
reply-same g p a of can = by a.question can
  where
    by : (q : Question) → CanAnswer p q
        → batch_reply p.edges (record a { question = q }) ≡ reply_to g.edges (record a { question = q })
    by (question.Edge t x) can =
        ap (λ b. record { ask = record a { question = question.Edge t x }; found = found.Edge b }) (of.has t x can.0)
    by (question.Row t) can =
        ap (λ l. record { ask = record a { question = question.Row t }; found = found.Row l })
        (rising-same (ends_of (row p.edges t)) ∙ ap (λ r. rising (ends_of r)) (of.rows t can))

answers-at : (p : PartView) (q : Question) → CanAnswer p q → Owns p (asked_vertex q)
answers-at p (question.Edge t x) can = can.0
answers-at p (question.Row t) can = can

-- asks are answered
pub all-answered : (g : RowGraph) (run : Run) (p : PartView) (asks : List Ask) → IsPartOf g p → All (λ a. CanAnswer p a.question) asks
    → Becomes (parted g run p.cuts) p.part (ask_pieces p.part asks) (map Goes (flight_of (map (λ a. sent_home p.part (batch_reply p.edges a)) asks)))
all-answered g run p [] of can = becomes-same (parted g run p.cuts) p.part [] [] (λ h. refl)
all-answered g run p (a ∷ asks) of can =
    let r : PartedRun = parted g run p.cuts in
    let here : CanAnswer p a.question = All-head (λ (b : Ask). CanAnswer p b.question) a asks can in
    let owns : Owns p (asked_vertex a.question) = answers-at p a.question here in
    becomes-both r p.part (Aside p.part (Asks a p.part) ∷ []) (Goes (Replies (batch_reply p.edges a) p.part) ∷ []) (ask_pieces p.part asks)
    (map Goes (flight_of (map (λ b. sent_home p.part (batch_reply p.edges b)) asks)))
    (subst (λ reply. Becomes r p.part (Aside p.part (Asks a p.part) ∷ []) (Goes (Replies reply p.part) ∷ [])) (sym (reply-same g p a of here))
    (becomes-event r p.part (Answered a p.part) owns.owner_is))
    (all-answered g run p asks of (All-tail (λ (b : Ask). CanAnswer p b.question) a asks can))

-- walkers that arrive can go on
walker-ready : (run : Run) (p : PartView) (v : Walker) (from to : ℕ) → Suits run p → Takes run.vertices p (Travels v from to) → IsReadyIn run p v
walker-ready run p v from to suits takes = record {
  stands = record {
    suits = suits;
    within = subst (λ n. IsWithin n v) suits.vertices takes.suited.0;
    owned = takes.suited.2.owner_is;
    possible = subst (IsPossible run p v) (sym takes.suited.1) tt;
  };
  ready = ap is_ready takes.suited.1;
}

pub walkers-ready : (run : Run) (p : PartView) (is : List Item) → Suits run p → All (Takes run.vertices p) is
    → All (IsReadyIn run p) (filter_map walker_in is)
walkers-ready run p [] suits takes = All-nil (IsReadyIn run p)
walkers-ready run p (i ∷ is) suits takes =
    by i (All-head (Takes run.vertices p) i is takes) (walkers-ready run p is suits (All-tail (Takes run.vertices p) i is takes))
  where
    by : (j : Item) → Takes run.vertices p j → All (IsReadyIn run p) (filter_map walker_in is)
        → All (IsReadyIn run p) (filter_map walker_in (j ∷ is))
    by (Travels v from to) t rest = All-cons (IsReadyIn run p) v (filter_map walker_in is) (walker-ready run p v from to suits t) rest
    by (Asks ask to) t rest = rest
    by (Replies reply from) t rest = rest

-- asks that arrive can be answered
can-answer : (p : PartView) (q : Question) → IsAskedWithin p.vertices q → Owns p (asked_vertex q) → CanAnswer p q
can-answer p (question.Edge t x) within owns = (owns, within.1)
can-answer p (question.Row t) within owns = owns

pub asks-can : (run : Run) (p : PartView) (is : List Item) → Suits run p → All (Takes run.vertices p) is
    → All (λ a. CanAnswer p a.question) (filter_map ask_in is)
asks-can run p [] suits takes = All-nil (λ (a : Ask). CanAnswer p a.question)
asks-can run p (i ∷ is) suits takes =
    by i (All-head (Takes run.vertices p) i is takes) (asks-can run p is suits (All-tail (Takes run.vertices p) i is takes))
  where
    by : (j : Item) → Takes run.vertices p j → All (λ a. CanAnswer p a.question) (filter_map ask_in is)
        → All (λ a. CanAnswer p a.question) (filter_map ask_in (j ∷ is))
    by (Travels v from to) t rest = rest
    by (Asks ask to) t rest =
        All-cons (λ (a : Ask). CanAnswer p a.question) ask (filter_map ask_in is)
        (can-answer p ask.question (subst (λ n. IsAskedWithin n ask.question) suits.vertices t.suited.0) t.suited.1) rest
    by (Replies reply from) t rest = rest

-- replies that arrive have the form of their questions
pub offers-form : (vertices : ℕ) (p : PartView) (is : List Item) → All (Takes vertices p) is → All (λ o. HasForm o.told) (filter_map offer_in is)
offers-form vertices p [] takes = All-nil (λ (o : Offer). HasForm o.told)
offers-form vertices p (i ∷ is) takes =
    by i (All-head (Takes vertices p) i is takes) (offers-form vertices p is (All-tail (Takes vertices p) i is takes))
  where
    by : (j : Item) → Takes vertices p j → All (λ o. HasForm o.told) (filter_map offer_in is)
        → All (λ o. HasForm o.told) (filter_map offer_in (j ∷ is))
    by (Travels v from to) t rest = rest
    by (Asks ask to) t rest = rest
    by (Replies reply from) t rest =
        All-cons (λ (o : Offer). HasForm o.told) (offer_of (record { reply = reply; from = from })) (filter_map offer_in is) t.suited.2 rest

-- replies go where they belong
found-form : (edges : List Edge) (q : Question) → Answers q (batch_found edges q)
found-form edges (question.Edge t x) = tt
found-form edges (question.Row t) = tt

reply-flight : (vertices : ℕ) (p : PartView) (a : Ask) (to : ℕ) → p.part ≤ length p.cuts → Takes vertices p (Asks a to)
    → IsInFlight vertices p.cuts (sent_home p.part (batch_reply p.edges a))
reply-flight vertices p a to low takes = record {
  addressed = refl;
  fits = record {
    to = takes.from;
    taken = λ q same cuts part. record {
      to = sym part;
      from = subst (λ l. p.part ≤ length l) (sym cuts) low;
      suited = (takes.suited.0, sym part, found-form p.edges a.question);
    };
  };
}

pub replies-flight : (vertices : ℕ) (p : PartView) (is : List Item) → p.part ≤ length p.cuts → All (Takes vertices p) is
    → All (IsInFlight vertices p.cuts) (map (λ a. sent_home p.part (batch_reply p.edges a)) (filter_map ask_in is))
replies-flight vertices p [] low takes = All-nil (IsInFlight vertices p.cuts)
replies-flight vertices p (i ∷ is) low takes =
    by i (All-head (Takes vertices p) i is takes) (replies-flight vertices p is low (All-tail (Takes vertices p) i is takes))
  where
    by : (j : Item) → Takes vertices p j
        → All (IsInFlight vertices p.cuts) (map (λ a. sent_home p.part (batch_reply p.edges a)) (filter_map ask_in is))
        → All (IsInFlight vertices p.cuts) (map (λ a. sent_home p.part (batch_reply p.edges a)) (filter_map ask_in (j ∷ is)))
    by (Travels v from to) t rest = rest
    by (Asks ask to) t rest =
        All-cons (IsInFlight vertices p.cuts) (sent_home p.part (batch_reply p.edges ask))
        (map (λ a. sent_home p.part (batch_reply p.edges a)) (filter_map ask_in is)) (reply-flight vertices p ask to low t) rest
    by (Replies reply from) t rest = rest

-- one item more
pub filter-more : {Y : Type 0} (f : Item → Option Y) (first old new : List Y) (is : List Sent) (i : Sent)
    → old ≡ first ++ filter_map f (map item_of is) → new ≡ old ++ filter_map f (item_of i ∷ [])
    → new ≡ first ++ filter_map f (map item_of (is ++ i ∷ []))
filter-more {Y} f first old new is i so_far more =
    let pushed : filter_map f (map item_of (is ++ i ∷ [])) ≡ filter_map f (map item_of is) ++ filter_map f (item_of i ∷ []) =
    ap (filter_map f) (map_push item_of is i) ∙ filter_map-append f (map item_of is) (item_of i ∷ []) in
    more ∙ ap (λ (l : List Y). l ++ filter_map f (item_of i ∷ [])) so_far
    ∙ append_assoc first (filter_map f (map item_of is)) (filter_map f (item_of i ∷ [])) ∙ ap (λ (l : List Y). first ++ l) (sym pushed)

-- replies to asks, sent back
pub answers-sent : (p : PartView) (asks : List Ask) (replies : List Reply) → replies ≡ map (batch_reply p.edges) asks
    → map (sent_home p.part) replies ≡ map (λ a. sent_home p.part (batch_reply p.edges a)) asks
answers-sent p asks replies is = ap (map (sent_home p.part)) is ∙ by asks
  where
    by : (xs : List Ask) → map (sent_home p.part) (map (batch_reply p.edges) xs) ≡ map (λ a. sent_home p.part (batch_reply p.edges a)) xs
    by [] = refl
    by (a ∷ xs) = ap (λ l. sent_home p.part (batch_reply p.edges a) ∷ l) (by xs)
