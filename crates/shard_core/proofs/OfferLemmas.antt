-- Replies that walkers hear, and those that none has heard.
use Rattle.std.proofs.Common.{◌≡◌, ◌<◌, ◌≤◌, ◌+◌, ◌&&◌, ◌⊎◌, ℕ, zero, suc, Bool, true, false, List, [], ◌∷◌, ◌++◌, length, map, set, get_or, Option, Some, None, refl, ap, sym, subst, ◌∙◌, inl, inr, arith, ◌==◌}
use Rattle.std.specs.Prelude.{All, sum_by, count_by, if◌then◌else◌, IfSome}
use Rattle.std.specs.List.{flat_map, filter_map}
use Rattle.std.proofs.lemmas.Bool.{cases_eq, cases_Bool, eqb-true, and_parts, and_left, ne_eqb, true≢false}
use Rattle.std.proofs.lemmas.Option.{none-some, same_Some}
use Rattle.std.proofs.lemmas.List.{get_or-set_same, get_or-set_other, get_or_default, length-set, map_push}
use Rattle.std.proofs.lemmas.List.Elements.{All-nil, All-cons, All-head, All-tail, All-append}
use Rattle.std.proofs.lemmas.List.Sums.{sum_by-cons, sum_by-append, sum_by-set, sum_by_push, sum_by-le}
use Rattle.walk_model.specs.declared.messages.Ask.{Ask}
use Rattle.walk_model.specs.declared.messages.Question.{Question}
use Rattle.walk_model.specs.declared.messages.Question.TheVariants as question
use Rattle.walk_model.specs.Cuts.{owner}
use Rattle.csr_store.specs.RowGraph.{RowGraph}
use Rattle.vertex_partition.specs.PartViews.{PartView, IsPartOf}
use Rattle.traveller.specs.declared.runs.Run.{Run}
use Rattle.traveller.specs.PartedRuns.{PartedRun}
use Rattle.traveller.specs.Replies.{hear}
use Rattle.traveller.specs.Standing.{parted}
use Rattle.traveller.specs.Walkers.{Walker, ask_of}
use Rattle.world_law.specs.Items.{Item as Sent, Travels, Asks, Replies}
use Rattle.world_law.specs.Worlds.{Piece, Resident, Aside}
use Rattle.world_law.specs.Events.{Hears, Becomes}
use Rattle.world_law.specs.Rounds.{same_ask, same_question, waits_with, is_reply_to}
use Rattle.world_law.proofs.BecomeLemmas.{becomes-event, becomes-then, becomes-within, becomes-same}
use Rattle.shard_core.specs.declared.shards.Told.{Told}
use Rattle.shard_core.specs.declared.hearing.Offer.{Offer}
use Rattle.shard_core.specs.declared.hearing.Hearing.{Hearing}
use Rattle.shard_core.specs.Abreast.{IsReadyIn}
use Rattle.shard_core.specs.KeptShards.{WaitsIn, HasForm, told_item}
use Rattle.shard_core.specs.Offers.{offer_of, offer_in, open_weight, answer_count, open_count, open_told, open_tolds, told_pieces, asker_of, AreRising, IsOpenAt, MayHear, wait_count, IsHearing}
use Rattle.shard_core.proofs.PileLemmas.{sum_by-map, sum_by-flat_map, sum_by-agree}

-- asks that are the same
same_question-tells : (q r : Question) → same_question q r ≡ true → q ≡ r
same_question-tells (question.Edge t x) (question.Edge u y) h =
    let parts = and_parts (t == u) (x == y) h in
    ap (λ n. question.Edge n x) (eqb-true t u parts.0) ∙ ap (question.Edge u) (eqb-true x y parts.1)
same_question-tells (question.Edge t x) (question.Row u) h = absurd (cc)
same_question-tells (question.Row t) (question.Edge u y) h = absurd (cc)
same_question-tells (question.Row t) (question.Row u) h = ap question.Row (eqb-true t u h)

pub same_ask-tells : (a b : Ask) → same_ask a b ≡ true → a ≡ b
same_ask-tells a b h =
    let last = and_parts ((a.walker == b.walker) && (a.step == b.step) && (a.home == b.home)) (same_question a.question b.question) h in
    let third = and_parts ((a.walker == b.walker) && (a.step == b.step)) (a.home == b.home) last.0 in
    let first = and_parts (a.walker == b.walker) (a.step == b.step) third.0 in
    let walker : a.walker ≡ b.walker = eqb-true a.walker b.walker first.0 in
    let step : a.step ≡ b.step = eqb-true a.step b.step first.1 in
    let home : a.home ≡ b.home = eqb-true a.home b.home third.1 in
    let q : a.question ≡ b.question = same_question-tells a.question b.question last.1 in
    ap (λ n. record { walker = n; step = a.step; home = a.home; question = a.question }) walker
    ∙ ap (λ n. record { walker = b.walker; step = n; home = a.home; question = a.question }) step
    ∙ ap (λ n. record { walker = b.walker; step = b.step; home = n; question = a.question }) home
    ∙ ap (λ r. record { walker = b.walker; step = b.step; home = b.home; question = r }) q

-- other asks, and asks of other walkers, aren't
same_ask-other : (a b : Ask) → (a ≡ b → ⊥) → same_ask a b ≡ false
same_ask-other a b other =
    elim (cases_Bool (same_ask a b)) [ inl same ↦ absurd (other (same_ask-tells a b same)) | inr differ ↦ differ ]

-- what is left of offers
open_told-sum : (f : Told → ℕ) (o : Offer) → sum_by f (open_told o) ≡ open_weight f o
open_told-sum f o = by o.taken
  where
    by : (b : Bool) → sum_by f (if b then [] else o.told ∷ []) ≡ (if b then 0 else f o.told)
    by true = refl
    by false = omega (arith, sum_by-cons f o.told [])

pub open-sum : (f : Told → ℕ) (os : List Offer) → sum_by f (open_tolds os) ≡ sum_by (open_weight f) os
open-sum f os =
    sum_by-flat_map f open_told os ∙ sum_by-agree (λ o. sum_by f (open_told o)) (open_weight f) (open_told-sum f) os

-- as pieces
aside_weight : (Piece → ℕ) → ℕ → Told → ℕ
aside_weight h k t = h (Aside k (told_item t))

pub told_pieces-sum : (h : Piece → ℕ) (k : ℕ) (os : List Offer)
    → sum_by h (told_pieces k (open_tolds os)) ≡ sum_by (open_weight (λ t. h (Aside k (told_item t)))) os
told_pieces-sum h k os =
    sum_by-map h (λ t. Aside k (told_item t)) (open_tolds os) ∙ open-sum (λ t. h (Aside k (told_item t))) os

-- and by the asks that they answer
pub open-count : (a : Ask) (os : List Offer) → count_by (is_reply_to a) (map told_item (open_tolds os)) ≡ open_count a os
open-count a os =
    sum_by-map (λ i. if is_reply_to a i then 1 else 0) told_item (open_tolds os) ∙ open-sum (answer_count a) os

-- offers are at first the replies that were set aside and those that arrive
pub first-tolds : (ts : List Told) → open_tolds (map offer_of ts) ≡ ts
first-tolds [] = refl
first-tolds (t ∷ ts) = ap (λ l. t ∷ l) (first-tolds ts)

pub aside-count : (a : Ask) (ts : List Told) → open_count a (map offer_of ts) ≡ count_by (is_reply_to a) (map told_item ts)
aside-count a ts = sym (open-count a (map offer_of ts)) ∙ ap (λ l. count_by (is_reply_to a) (map told_item l)) (first-tolds ts)

pub arrived-count : (a : Ask) (is : List Sent) → open_count a (filter_map offer_in is) ≡ count_by (is_reply_to a) is
arrived-count a [] = refl
arrived-count a (i ∷ is) = by i (arrived-count a is)
  where
    test : Sent → ℕ
    test j = if is_reply_to a j then 1 else 0

    by : (j : Sent) → open_count a (filter_map offer_in is) ≡ count_by (is_reply_to a) is
        → open_count a (filter_map offer_in (j ∷ is)) ≡ count_by (is_reply_to a) (j ∷ is)
    by (Travels v from to) rest = omega (arith, rest, sum_by-cons test (Travels v from to) is)
    by (Asks ask to) rest = omega (arith, rest, sum_by-cons test (Asks ask to) is)
    by (Replies reply from) rest =
        let o : Offer = offer_of (record { reply = reply; from = from }) in
        omega (
          arith,
          rest,
          sum_by-cons (open_weight (answer_count a)) o (filter_map offer_in is),
          sum_by-cons test (Replies reply from) is,
        )

-- at a place where the reply doesn't answer an ask, or has been heard
pub closed-taken : (a : Ask) (o : Offer) → o.taken ≡ true → open_weight (answer_count a) o ≡ 0
closed-taken a o taken = ap (λ b. if◌then◌else◌ {A = ℕ} b 0 (answer_count a o.told)) taken

closed-same : (a : Ask) (o : Offer) → same_ask a o.told.reply.ask ≡ false → open_weight (answer_count a) o ≡ 0
closed-same a o other = by o.taken
  where
    none : answer_count a o.told ≡ 0
    none = ap (λ b. if◌then◌else◌ {A = ℕ} b 1 0) other

    by : (b : Bool) → (if b then 0 else answer_count a o.told) ≡ 0
    by true = refl
    by false = none

pub closed-other : (a : Ask) (o : Offer) → (o.told.reply.ask ≡ a → ⊥) → open_weight (answer_count a) o ≡ 0
closed-other a o other = closed-same a o (same_ask-other a o.told.reply.ask (λ e. other (sym e)))

pub closed-asker : (a : Ask) (o : Offer) → (asker_of o ≡ a.walker → ⊥) → open_weight (answer_count a) o ≡ 0
closed-asker a o other = closed-other a o (λ e. other (ap (λ (b : Ask). b.walker) e))

-- where no place is open, no reply is left
pub all-closed : (a : Ask) (os : List Offer)
    → ((k : ℕ) (d : Offer) → k < length os → open_weight (answer_count a) (get_or os k d) ≡ 0) → open_count a os ≡ 0
all-closed a os closed =
    let most = sum_by-le (open_weight (answer_count a)) 0 os (λ k d low. (let none = closed k d low in omega (arith, none))) in
    omega (arith, most)

-- what is left of offers has the form of its questions
pub tolds-form : (os : List Offer) → All (λ o. HasForm o.told) os → All HasForm (open_tolds os)
tolds-form [] forms = All-nil HasForm
tolds-form (o ∷ os) forms =
    All-append HasForm (open_told o) (open_tolds os) (by o.taken) (tolds-form os (All-tail (λ (x : Offer). HasForm x.told) o os forms))
  where
    here : HasForm o.told
    here = All-head (λ (x : Offer). HasForm x.told) o os forms

    by : (b : Bool) → All HasForm (if b then [] else o.told ∷ [])
    by true = All-nil HasForm
    by false = All-cons HasForm o.told [] here (All-nil HasForm)
