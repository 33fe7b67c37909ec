-- One walker after another hears a reply, or goes on waiting.
use Rattle.std.proofs.Common.{◌≡◌, ◌<◌, ◌≤◌, ◌+◌, ℕ, zero, suc, Bool, true, false, List, [], ◌∷◌, ◌++◌, length, map, set, get_or, Option, Some, None, refl, ap, sym, subst, ◌∙◌, inl, inr, arith}
use Rattle.std.specs.Prelude.{All, sum_by, count_by, if◌then◌else◌}
use Rattle.std.proofs.lemmas.Bool.{cases_eq, cases_Bool}
use Rattle.std.proofs.lemmas.Option.{same_Some}
use Rattle.std.proofs.lemmas.List.{get_or-set_same, get_or-set_other, get_or_default, length-set}
use Rattle.std.proofs.lemmas.List.Elements.{All-set, All-push, All-nil}
use Rattle.std.proofs.lemmas.List.Sums.{sum_by-cons, sum_by-append, sum_by-set, sum_by_push}
use Rattle.walk_model.specs.declared.messages.Ask.{Ask}
use Rattle.walk_model.specs.declared.messages.Reply.{Reply}
use Rattle.walk_model.specs.declared.messages.Question.{Question}
use Rattle.walk_model.specs.Cuts.{owner}
use Rattle.csr_store.specs.RowGraph.{RowGraph}
use Rattle.vertex_partition.specs.PartViews.{PartView, IsPartOf}
use Rattle.traveller.specs.declared.runs.Run.{Run}
use Rattle.traveller.specs.PartedRuns.{PartedRun}
use Rattle.traveller.specs.Replies.{hear, Answers}
use Rattle.traveller.specs.Standing.{parted}
use Rattle.traveller.specs.Walkers.{Walker, ask_of}
use Rattle.world_law.specs.Items.{Item as Sent, Replies}
use Rattle.world_law.specs.Worlds.{Piece, Resident, Aside, Same}
use Rattle.world_law.specs.Events.{Hears, Becomes}
use Rattle.world_law.specs.Rounds.{same_ask, waits_with}
use Rattle.world_law.proofs.BecomeLemmas.{becomes-event, becomes-then, becomes-within, becomes-same}
use Rattle.shard_core.specs.declared.shards.Told.{Told}
use Rattle.shard_core.specs.declared.hearing.Offer.{Offer}
use Rattle.shard_core.specs.declared.hearing.Hearing.{Hearing}
use Rattle.shard_core.specs.Abreast.{IsReadyIn}
use Rattle.shard_core.specs.KeptShards.{WaitsIn, HasForm, told_item}
use Rattle.shard_core.specs.Offers.{open_weight, answer_count, open_count, open_tolds, told_pieces, asker_of, AreRising, IsOpenAt, MayHear, wait_count, IsHearing}
use Rattle.shard_core.proofs.PileLemmas.{sum_by-map, becomes-as, becomes-both}
use Rattle.shard_core.proofs.OfferLemmas.{told_pieces-sum, same_ask-tells}

-- a weight that a change at a place leaves stays everywhere
set-key : (n : Offer → ℕ) (os : List Offer) (i : ℕ) (o : Offer) → i < length os → n o ≡ n (get_or os i o)
    → (j : ℕ) (d : Offer) → n (get_or (set os i o) j d) ≡ n (get_or os j d)
set-key n os i o low same j d =
    elim (cases_eq j i) [
      | inl here ↦
          rw here (ap n (get_or-set_same os i o d low) ∙ same ∙ ap n (get_or_default os i o d low))
      | inr other ↦ ap n (get_or-set_other os i j o d other)
    ]

rising-set : (os : List Offer) (i : ℕ) (o : Offer) → i < length os → asker_of o ≡ asker_of (get_or os i o) → AreRising os → AreRising (set os i o)
rising-set os i o low same rising = λ a b d up inside.
    let long = length-set os i o in
    let first = set-key asker_of os i o low same a d in
    let last = set-key asker_of os i o low same b d in
    let order = rising a b d up (omega (arith, inside, long)) in
    omega (arith, first, last, order)

-- what a reply that is heard takes from what is left of them
set-open : (f : Told → ℕ) (os : List Offer) (i : ℕ) (o : Offer) → i < length os → o.taken ≡ true → (get_or os i o).taken ≡ false
    → sum_by (open_weight f) (set os i o) + f (get_or os i o).told ≡ sum_by (open_weight f) os
set-open f os i o low taken left =
    let swapped = sum_by-set (open_weight f) os i o o low in
    let none : open_weight f o ≡ 0 = ap (λ b. if◌then◌else◌ {A = ℕ} b 0 (f o.told)) taken in
    let one : open_weight f (get_or os i o) ≡ f (get_or os i o).told = ap (λ b. if◌then◌else◌ {A = ℕ} b 0 (f (get_or os i o).told)) left in
    omega (arith, swapped, none, one)

-- at first nobody has passed
pub none-passed : (run : Run) (p : PartView) (first : List Offer) (h : Hearing) → AreRising h.offers.items → All (λ o. HasForm o.told) h.offers.items
    → ((f : Offer → ℕ) → sum_by f h.offers.items ≡ sum_by f first) → h.ready.items ≡ [] → h.waiting.items ≡ []
    → IsHearing run p first [] h
none-passed run p first h rising forms same ready waiting = record {
  rising = rising;
  forms = forms;
  ready = rw ready (All-nil (IsReadyIn run p));
  waiting = rw waiting (All-nil (WaitsIn run p));
  becomes = λ g of.
      becomes-same (parted g run p.cuts) p.part (told_pieces p.part (open_tolds first))
      (map (Resident p.part) h.ready.items ++ (map (Resident p.part) h.waiting.items ++ told_pieces p.part (open_tolds h.offers.items)))
      (rw (ready, waiting) (λ w. told_pieces-sum w p.part first ∙ sym (same (open_weight (λ t. w (Aside p.part (told_item t))))) ∙ sym (told_pieces-sum w p.part h.offers.items)));
  counts = λ a. (let all = same (open_weight (answer_count a)) in rw waiting (omega (arith, all)));
  none = λ a some. absurd (let never : 0 < wait_count p a [] = subst (λ ws. 0 < wait_count p a ws) waiting some in omega (arith, never));
}

-- the pieces of walkers that have passed and of what they heard
hearing_pieces : ℕ → List Walker → List Walker → List Offer → List Piece
hearing_pieces k ready waiting os = map (Resident k) ready ++ (map (Resident k) waiting ++ told_pieces k (open_tolds os))

pieces-sum : (h : Piece → ℕ) (k : ℕ) (ready waiting : List Walker) (os : List Offer)
    → sum_by h (map (Resident k) ready ++ (map (Resident k) waiting ++ told_pieces k (open_tolds os)))
    ≡ sum_by (λ w. h (Resident k w)) ready + (sum_by (λ w. h (Resident k w)) waiting + sum_by (open_weight (λ t. h (Aside k (told_item t)))) os)
pieces-sum h k ready waiting os =
    omega (
      arith,
      sum_by-append h (map (Resident k) ready) (map (Resident k) waiting ++ told_pieces k (open_tolds os)),
      sum_by-append h (map (Resident k) waiting) (told_pieces k (open_tolds os)),
      sum_by-map h (Resident k) ready,
      sum_by-map h (Resident k) waiting,
      told_pieces-sum h k os,
    )

passed-sum : (h : Piece → ℕ) (k : ℕ) (passed : List Walker) (v : Walker) (first : List Piece)
    → sum_by h (map (Resident k) (passed ++ v ∷ []) ++ first) ≡ sum_by h (map (Resident k) passed ++ first) + h (Resident k v)
passed-sum h k passed v first =
    omega (
      arith,
      sum_by-append h (map (Resident k) (passed ++ v ∷ [])) first,
      sum_by-append h (map (Resident k) passed) first,
      sum_by-map h (Resident k) (passed ++ v ∷ []),
      sum_by-map h (Resident k) passed,
      sum_by_push (λ w. h (Resident k w)) passed v,
    )

abbrev wait_one : PartView → Ask → Walker → ℕ
wait_one p a v = if waits_with a (ask_of (owner p.cuts) v) then 1 else 0

-- a walker goes on waiting, since no reply to its ask is left
pub one-waits : (run : Run) (p : PartView) (first : List Offer) (passed : List Walker) (old new : Hearing) (v : Walker)
    → WaitsIn run p v → ((a : Ask) → ask_of (owner p.cuts) v ≡ Some a → open_count a old.offers.items ≡ 0)
    → new.offers.items ≡ old.offers.items → new.ready.items ≡ old.ready.items → new.waiting.items ≡ old.waiting.items ++ v ∷ []
    → IsHearing run p first passed old → IsHearing run p first (passed ++ v ∷ []) new
one-waits run p first passed old new v waits unanswered offers ready waiting inv = record {
  rising = rw offers inv.rising;
  forms = rw offers inv.forms;
  ready = rw ready inv.ready;
  waiting = rw waiting (All-push (WaitsIn run p) old.waiting.items v inv.waiting waits);
  becomes = λ g of.
      rw (offers, ready, waiting)
      (becomes-within (parted g run p.cuts) p.part (map (Resident p.part) (passed ++ v ∷ []) ++ told_pieces p.part (open_tolds first))
      (map (Resident p.part) passed ++ told_pieces p.part (open_tolds first))
      (map (Resident p.part) old.ready.items ++ (map (Resident p.part) old.waiting.items ++ told_pieces p.part (open_tolds old.offers.items)))
      (Resident p.part v ∷ [])
      (map (Resident p.part) old.ready.items ++ (map (Resident p.part) (old.waiting.items ++ v ∷ []) ++ told_pieces p.part (open_tolds old.offers.items)))
      (inv.becomes g of)
      (λ h. omega (
        arith,
        passed-sum h p.part passed v (told_pieces p.part (open_tolds first)),
        sum_by-append h (map (Resident p.part) passed ++ told_pieces p.part (open_tolds first)) (Resident p.part v ∷ []),
        sum_by-cons h (Resident p.part v) [],
      ))
      (λ h. omega (
        arith,
        sum_by-append h (map (Resident p.part) old.ready.items ++ (map (Resident p.part) old.waiting.items ++ told_pieces p.part (open_tolds old.offers.items))) (Resident p.part v ∷ []),
        sum_by-cons h (Resident p.part v) [],
        pieces-sum h p.part old.ready.items old.waiting.items old.offers.items,
        pieces-sum h p.part old.ready.items (old.waiting.items ++ v ∷ []) old.offers.items,
        sum_by_push (λ w. h (Resident p.part w)) old.waiting.items v,
      )));
  counts = λ a.
      rw (offers, waiting)
      (omega (
        arith,
        inv.counts a,
        sum_by_push (wait_one p a) passed v,
        sum_by_push (wait_one p a) old.waiting.items v,
      ));
  none = λ a some. rw offers (none-left a (rw waiting at some));
}
  where
    by : (a : Ask) (o : Option Ask) → ask_of (owner p.cuts) v ≡ o → waits_with a o ≡ true → open_count a old.offers.items ≡ 0
    by a None is same = absurd (cc)
    by a (Some b) is same = ap (λ c. open_count c old.offers.items) (same_ask-tells a b same) ∙ unanswered b is

    none-left : (a : Ask) → 0 < wait_count p a (old.waiting.items ++ v ∷ []) → open_count a old.offers.items ≡ 0
    none-left a some =
        elim (cases_Bool (waits_with a (ask_of (owner p.cuts) v))) [
          | inl same ↦ by a (ask_of (owner p.cuts) v) refl same
          | inr differ ↦
              let one : wait_one p a v ≡ 0 = ap (λ b. if◌then◌else◌ {A = ℕ} b 1 0) differ in
              let more = sum_by_push (wait_one p a) old.waiting.items v in
              inv.none a (omega (arith, some, one, more))
        ]

-- a walker hears a reply
pub one-hears : (run : Run) (p : PartView) (first : List Offer) (passed : List Walker) (old new : Hearing) (v w : Walker) (i : ℕ) (o : Offer)
    → WaitsIn run p v → MayHear (owner p.cuts) old.offers.items v i → new.offers.items ≡ set old.offers.items i o
    → o ≡ record (get_or old.offers.items i o) { taken = true }
    → new.ready.items ≡ old.ready.items ++ w ∷ [] → new.waiting.items ≡ old.waiting.items
    → ((g : RowGraph) → IsPartOf g p → w ≡ hear (parted g run p.cuts) v (get_or old.offers.items i o).told.reply.found) → IsReadyIn run p w
    → IsHearing run p first passed old → IsHearing run p first (passed ++ v ∷ []) new
one-hears run p first passed old new v w i o waits may offers is ready waiting told_is can inv = record {
  rising = rw offers (rising-set os i o low (ap asker_of is) inv.rising);
  forms = rw offers (All-set (λ (x : Offer). HasForm x.told) os i o (rw is form) inv.forms);
  ready = rw ready (All-push (IsReadyIn run p) old.ready.items w inv.ready can);
  waiting = rw waiting inv.waiting;
  becomes = λ g of.
      rw (offers, ready, waiting)
      (becomes-then (parted g run p.cuts) p.part (map (Resident p.part) (passed ++ v ∷ []) ++ told_pieces p.part (open_tolds first))
      (Resident p.part v ∷ (map (Resident p.part) old.ready.items ++ (map (Resident p.part) old.waiting.items ++ told_pieces p.part (open_tolds os))))
      (map (Resident p.part) (old.ready.items ++ w ∷ []) ++ (map (Resident p.part) old.waiting.items ++ told_pieces p.part (open_tolds (set os i o))))
      (before g of) (event g of));
  counts = λ a.
      rw (offers, waiting)
      (omega (
        arith,
        inv.counts a,
        sum_by_push (wait_one p a) passed v,
        set-open (answer_count a) os i o low taken left,
        one a,
      ));
  none = λ a some.
      rw offers (let was = inv.none a (rw waiting at some) in let less = set-open (answer_count a) os i o low taken left in omega (arith, was, less));
}
  where
    os : List Offer
    os = old.offers.items

    told : Told
    told = (get_or os i o).told

    low : i < length os
    low = may.there.low

    taken : o.taken ≡ true
    taken = ap (λ (x : Offer). x.taken) is

    left : (get_or os i o).taken ≡ false
    left = may.there.open_is o

    asks : ask_of (owner p.cuts) v ≡ Some told.reply.ask
    asks = may.waits ∙ ap (λ (a : Ask). Some a) (sym (may.there.answers o))

    form : HasForm told
    form = inv.forms i o low

    one : (a : Ask) → wait_one p a v ≡ answer_count a told
    one a = ap (λ q. if◌then◌else◌ {A = ℕ} (waits_with a q) 1 0) asks

    before : (g : RowGraph) → IsPartOf g p
        → Becomes (parted g run p.cuts) p.part (map (Resident p.part) (passed ++ v ∷ []) ++ told_pieces p.part (open_tolds first))
        (Resident p.part v ∷ (map (Resident p.part) old.ready.items ++ (map (Resident p.part) old.waiting.items ++ told_pieces p.part (open_tolds os))))
    before g of =
        becomes-within (parted g run p.cuts) p.part (map (Resident p.part) (passed ++ v ∷ []) ++ told_pieces p.part (open_tolds first))
        (map (Resident p.part) passed ++ told_pieces p.part (open_tolds first))
        (map (Resident p.part) old.ready.items ++ (map (Resident p.part) old.waiting.items ++ told_pieces p.part (open_tolds os)))
        (Resident p.part v ∷ []) _ (inv.becomes g of)
        (λ h. omega (
          arith,
          passed-sum h p.part passed v (told_pieces p.part (open_tolds first)),
          sum_by-append h (map (Resident p.part) passed ++ told_pieces p.part (open_tolds first)) (Resident p.part v ∷ []),
          sum_by-cons h (Resident p.part v) [],
        ))
        (λ h. omega (
          arith,
          sum_by-append h (map (Resident p.part) old.ready.items ++ (map (Resident p.part) old.waiting.items ++ told_pieces p.part (open_tolds os))) (Resident p.part v ∷ []),
          sum_by-cons h (Resident p.part v) [],
          sum_by-cons h (Resident p.part v) (map (Resident p.part) old.ready.items ++ (map (Resident p.part) old.waiting.items ++ told_pieces p.part (open_tolds os))),
        ))

    event : (g : RowGraph) → IsPartOf g p
        → Becomes (parted g run p.cuts) p.part
        (Resident p.part v ∷ (map (Resident p.part) old.ready.items ++ (map (Resident p.part) old.waiting.items ++ told_pieces p.part (open_tolds os))))
        (map (Resident p.part) (old.ready.items ++ w ∷ []) ++ (map (Resident p.part) old.waiting.items ++ told_pieces p.part (open_tolds (set os i o))))
    event g of =
        let r : PartedRun = parted g run p.cuts in
        let k : ℕ = p.part in
        let others : List Piece = map (Resident k) old.ready.items ++ (map (Resident k) old.waiting.items ++ told_pieces k (open_tolds (set os i o))) in
        becomes-within r k
        (Resident k v ∷ (map (Resident k) old.ready.items ++ (map (Resident k) old.waiting.items ++ told_pieces k (open_tolds os))))
        (Resident k v ∷ Aside k (told_item told) ∷ []) (Resident k w ∷ []) others
        (map (Resident k) (old.ready.items ++ w ∷ []) ++ (map (Resident k) old.waiting.items ++ told_pieces k (open_tolds (set os i o))))
        (subst (λ x. Becomes r k (Resident k v ∷ Aside k (told_item told) ∷ []) (Resident k x ∷ [])) (sym (told_is g of))
        (becomes-event r k (Hears v told.reply told.from) (waits.stands.owned, asks, form)))
        (λ h. omega (
          arith,
          sum_by-cons h (Resident k v) (map (Resident k) old.ready.items ++ (map (Resident k) old.waiting.items ++ told_pieces k (open_tolds os))),
          sum_by-cons h (Resident k v) (Aside k (told_item told) ∷ others),
          sum_by-cons h (Aside k (told_item told)) others,
          pieces-sum h k old.ready.items old.waiting.items os,
          pieces-sum h k old.ready.items old.waiting.items (set os i o),
          set-open (λ t. h (Aside k (told_item t))) os i o low taken left,
        ))
        (λ h. omega (
          arith,
          sum_by-cons h (Resident k w) others,
          pieces-sum h k old.ready.items old.waiting.items (set os i o),
          pieces-sum h k (old.ready.items ++ w ∷ []) old.waiting.items (set os i o),
          sum_by_push (λ x. h (Resident k x)) old.ready.items w,
        ))

-- where no reply comes, all go on waiting
pub none-come : (run : Run) (p : PartView) (first : List Offer) (ws : List Walker) (h : Hearing) → first ≡ [] → All (WaitsIn run p) ws
    → h.offers.items ≡ first → h.ready.items ≡ [] → h.waiting.items ≡ ws → IsHearing run p first ws h
none-come run p first ws h empty waits offers ready waiting = record {
  rising = rw (offers, empty) (λ i j d up low. absurd (omega (arith, low)));
  forms = rw (offers, empty) (All-nil (λ (o : Offer). HasForm o.told));
  ready = rw ready (All-nil (IsReadyIn run p));
  waiting = rw waiting waits;
  becomes = λ g of.
      becomes-same (parted g run p.cuts) p.part (map (Resident p.part) ws ++ told_pieces p.part (open_tolds first))
      (map (Resident p.part) h.ready.items ++ (map (Resident p.part) h.waiting.items ++ told_pieces p.part (open_tolds h.offers.items)))
      (rw (offers, ready, waiting) (λ w. refl));
  counts = λ a. rw (offers, waiting) refl;
  none = λ a some. rw (offers, empty) refl;
}
