-- What the parts of a round come to together.
use Rattle.std.proofs.Common.{◌≡◌, ◌<◌, ◌≤◌, ◌+◌, ◌-◌, ℕ, zero, suc, Bool, true, false, List, [], ◌∷◌, ◌++◌, length, map, get_or, Option, Some, None, refl, ap, sym, subst, ◌∙◌, arith}
use Rattle.std.specs.Prelude.{All, sum_by, count_by, if◌then◌else◌}
use Rattle.std.specs.List.{filter_map}
use Rattle.std.proofs.lemmas.Option.{none-some}
use Rattle.std.proofs.lemmas.List.Elements.{All-append, All-map, All-nil}
use Rattle.std.proofs.lemmas.List.Sums.{sum_by-append, sum_by-cons, sum_by-le}
use Rattle.walk_model.specs.declared.messages.Ask.{Ask}
use Rattle.walk_model.specs.declared.messages.Question.{Question}
use Rattle.walk_model.specs.declared.results.Print.{Print}
use Rattle.walk_model.specs.Cuts.{owner}
use Rattle.csr_store.specs.RowGraph.{RowGraph}
use Rattle.query_batch.specs.Replies.{reply_to as batch_reply}
use Rattle.vertex_partition.specs.PartViews.{PartView, IsPartOf}
use Rattle.traveller.specs.declared.modes.Mode.{Mode}
use Rattle.traveller.specs.declared.modes.Mode.TheVariants.{Fresh, Darts, Asked, AskedRow, Chosen, Over}
use Rattle.traveller.specs.declared.runs.Run.{Run}
use Rattle.traveller.specs.PartedRuns.{PartedRun}
use Rattle.traveller.specs.Standing.{Suits, parted}
use Rattle.traveller.specs.Walkers.{Walker, ask_of, ask_with, is_over, is_ready, question_of}
use Rattle.world_law.specs.Items.{Item as Sent}
use Rattle.world_law.specs.Worlds.{Piece, Resident, Aside, Printed, Comes, Goes, ShardData, shard_pieces}
use Rattle.world_law.specs.Events.{Becomes}
use Rattle.world_law.specs.Rounds.{IsRound, is_reply, is_reply_to, waits_with}
use Rattle.world_law.proofs.BecomeLemmas.{becomes-then, becomes-within, becomes-same}
use Rattle.shard_core.specs.declared.hearing.Hearing.{Hearing}
use Rattle.shard_core.specs.declared.hearing.Offer.{Offer}
use Rattle.shard_core.specs.declared.leaving.Left.{Left}
use Rattle.shard_core.specs.declared.rounds.Crowd.{Crowd}
use Rattle.shard_core.specs.declared.shards.Told.{Told}
use Rattle.shard_core.specs.Abreast.{IsReadyIn}
use Rattle.shard_core.specs.Crowds.{IsCrowd, crowd_data}
use Rattle.shard_core.specs.Items.{item_of}
use Rattle.shard_core.specs.KeptShards.{WaitsIn, HasEndedIn, HasForm, told_item}
use Rattle.shard_core.specs.Leaving.{IsMore, resident_weight, left_weight}
use Rattle.shard_core.specs.Offers.{BecomesIn, IsHearing, ask_in, offer_in, offer_of, open_count, open_tolds, open_weight, answer_count, sent_home, told_pieces, wait_count, walker_in}
use Rattle.shard_core.specs.SoundWorlds.{flight_of}
use Rattle.shard_core.specs.Taking.{Takes}
use Rattle.shard_core.specs.Turning.{at_hand}
use Rattle.shard_core.proofs.ArriveLemmas.{ask_pieces, taken_pieces, all-taken, all-answered, asks-can}
use Rattle.shard_core.proofs.OfferLemmas.{open-count, open-sum, aside-count, arrived-count, first-tolds, told_pieces-sum}
use Rattle.shard_core.proofs.PileLemmas.{sum_by-map}
use Rattle.shard_core.proofs.SettleLemmas.{hand-sum}

-- walkers that wait or have ended can't go on by themselves, and walkers that can go on or have ended don't wait
waits-unready : (m : Mode) (q : Question) → question_of m ≡ Some q → is_ready m ≡ false
waits-unready Fresh q e = absurd (none-some q e)
waits-unready (Darts left place) q e = absurd (none-some q e)
waits-unready (Asked left place r) q e = refl
waits-unready (AskedRow place r) q e = refl
waits-unready (Chosen edge place) q e = absurd (none-some q e)
waits-unready Over q e = refl

over-unready : (m : Mode) → is_over m ≡ true → is_ready m ≡ false
over-unready Fresh e = absurd (cc)
over-unready (Darts left place) e = absurd (cc)
over-unready (Asked left place r) e = refl
over-unready (AskedRow place r) e = refl
over-unready (Chosen edge place) e = absurd (cc)
over-unready Over e = refl

over-quiet : (m : Mode) → is_over m ≡ true → question_of m ≡ None
over-quiet Fresh e = absurd (cc)
over-quiet (Darts left place) e = refl
over-quiet (Asked left place r) e = absurd (cc)
over-quiet (AskedRow place r) e = absurd (cc)
over-quiet (Chosen edge place) e = refl
over-quiet Over e = refl

ready-quiet : (m : Mode) → is_ready m ≡ true → question_of m ≡ None
ready-quiet Fresh e = refl
ready-quiet (Darts left place) e = refl
ready-quiet (Asked left place r) e = absurd (cc)
ready-quiet (AskedRow place r) e = absurd (cc)
ready-quiet (Chosen edge place) e = refl
ready-quiet Over e = absurd (cc)

quiet-one : (p : PartView) (a : Ask) (v : Walker) → question_of v.mode ≡ None → (if waits_with a (ask_of (owner p.cuts) v) then 1 else 0) ≤ 0
quiet-one p a v quiet = by (question_of v.mode) quiet
  where
    by : (o : Option Question) → o ≡ None
        → (if waits_with a (Rattle.std.specs.Prelude.option_map (ask_with (owner p.cuts) v) o) then 1 else 0) ≤ 0
    by None e = omega arith
    by (Some q) e = absurd (none-some q (sym e))

quiet-count : (p : PartView) (a : Ask) (ws : List Walker) → All (λ v. question_of v.mode ≡ None) ws → wait_count p a ws ≡ 0
quiet-count p a ws quiet =
    let most = sum_by-le (λ (v : Walker). if waits_with a (ask_of (owner p.cuts) v) then 1 else 0) 0 ws (λ k d low. quiet-one p a (get_or ws k d) (quiet k d low)) in
    omega (arith, most)

-- the walkers of a crowd that wait are those that stand among the waiting ones
crowd-waits : (run : Run) (p : PartView) (a : Ask) (c : Crowd) → IsCrowd run p c
    → count_by (λ v. waits_with a (ask_of (owner p.cuts) v)) (c.ready.items ++ (c.waiting.items ++ c.ended.items)) ≡ wait_count p a c.waiting.items
crowd-waits run p a c is =
    let one : Walker → ℕ = λ (v : Walker). if waits_with a (ask_of (owner p.cuts) v) then 1 else 0 in
    let ready = quiet-count p a c.ready.items (λ k d low. ready-quiet (get_or c.ready.items k d).mode (is.ready k d low).ready) in
    let ended = quiet-count p a c.ended.items (λ k d low. over-quiet (get_or c.ended.items k d).mode (is.ended k d low).over) in
    omega (
      arith,
      ready,
      ended,
      sum_by-append (λ (v : Walker). if waits_with a (ask_of (owner p.cuts) v) then 1 else 0) c.ready.items (c.waiting.items ++ c.ended.items),
      sum_by-append (λ (v : Walker). if waits_with a (ask_of (owner p.cuts) v) then 1 else 0) c.waiting.items c.ended.items,
    )

-- of the replies, as many are left as more came than walkers waited
left-over : (left waits all still : ℕ) → left + waits ≡ all + still → (0 < still → left ≡ 0) → left ≡ all - waits
left-over left waits all zero sum none = omega (arith, sum)
left-over left waits all (suc n) sum none = (let gone = none (omega arith) in omega (arith, sum, gone))

-- what a crowd weighs
crowd-sum : (h : Piece → ℕ) (p : PartView) (c : Crowd) (ps : List Print)
    → sum_by h (shard_pieces (crowd_data p c ps))
    ≡ resident_weight h p c.ready.items + resident_weight h p c.waiting.items + resident_weight h p c.ended.items
    + sum_by (λ t. h (Aside p.part (told_item t))) c.aside.items + sum_by h (map (Printed p.part) ps)
crowd-sum h p c ps =
    let k : ℕ = p.part in
    omega (
      arith,
      sum_by-append h (map (Resident k) (c.ready.items ++ (c.waiting.items ++ c.ended.items))) (map (Aside k) (map told_item c.aside.items) ++ map (Printed k) ps),
      sum_by-append h (map (Aside k) (map told_item c.aside.items)) (map (Printed k) ps),
      sum_by-map h (Resident k) (c.ready.items ++ (c.waiting.items ++ c.ended.items)),
      sum_by-append (λ w. h (Resident k w)) c.ready.items (c.waiting.items ++ c.ended.items),
      sum_by-append (λ w. h (Resident k w)) c.waiting.items c.ended.items,
      sum_by-map h (Aside k) (map told_item c.aside.items),
      sum_by-map (λ i. h (Aside k i)) told_item c.aside.items,
    )

-- what a round has done: it took in what arrived, walkers that waited heard replies, and walkers that could go on made
-- their turns
pub record IsMade (run : Run) (p : PartView) (before after : Crowd) (ps qs : List Print) (is : List Sent) (hearing : Hearing) (ready : List Walker) (start last : Left) : Type 0 where
  pub suits : Suits run p
  pub crowd : IsCrowd run p before
  pub takes : All (Takes run.vertices p) is
  pub heard : IsHearing run p (map offer_of before.aside.items ++ filter_map offer_in is) before.waiting.items hearing
  pub ready_is : ready ≡ (before.ready.items ++ filter_map walker_in is) ++ hearing.ready.items
  pub waiting : start.waiting.items ≡ hearing.waiting.items
  pub ended : start.ended.items ≡ before.ended.items
  pub out : start.out.items ≡ map (λ a. sent_home p.part (batch_reply p.edges a)) (filter_map ask_in is)
  pub turned : BecomesIn run p (at_hand p ready start ps) (at_hand p [] last qs)
  pub prints : IsMore ps qs
  pub none : after.ready.items ≡ []
  pub still : after.waiting.items ≡ last.waiting.items
  pub over : after.ended.items ≡ last.ended.items
  pub aside : after.aside.items ≡ open_tolds hearing.offers.items
  pub is_crowd : IsCrowd run p after

made-becomes : (run : Run) (p : PartView) (before after : Crowd) (ps qs : List Print) (is : List Sent) (hearing : Hearing) (ready : List Walker) (start last : Left)
    → IsMade run p before after ps qs is hearing ready start last
    → BecomesIn run p (shard_pieces (crowd_data p before ps) ++ map Comes is) (shard_pieces (crowd_data p after qs) ++ map Goes (flight_of last.out.items))
made-becomes run p before after ps qs is hearing ready start last made g of =
    becomes-then r k s0 s1 s5 step1 (becomes-then r k s1 s2 s5 step2 (becomes-then r k s2 s3 s5 step3 (becomes-then r k s3 s4 s5 step4 step5)))
  where
    r : PartedRun
    r = parted g run p.cuts

    k : ℕ
    k = p.part

    shard : List Piece
    shard = shard_pieces (crowd_data p before ps)

    first : List Offer
    first = map offer_of before.aside.items ++ filter_map offer_in is

    walkers : List Piece
    walkers = map (Resident k) (filter_map walker_in is)

    replies : List Piece
    replies = told_pieces k (open_tolds (filter_map offer_in is))

    goes : List Piece
    goes = map Goes (flight_of (map (λ a. sent_home k (batch_reply p.edges a)) (filter_map ask_in is)))

    others2 : List Piece
    others2 = walkers ++ (replies ++ shard)

    others3 : List Piece
    others3 = goes ++ (walkers ++ (map (Resident k) before.ready.items ++ (map (Resident k) before.ended.items ++ map (Printed k) ps)))

    heard : List Piece
    heard = map (Resident k) hearing.ready.items ++ (map (Resident k) hearing.waiting.items ++ told_pieces k (open_tolds hearing.offers.items))

    others4 : List Piece
    others4 = told_pieces k (open_tolds hearing.offers.items)

    s0 : List Piece
    s0 = shard ++ map Comes is

    s1 : List Piece
    s1 = taken_pieces k is ++ shard

    s2 : List Piece
    s2 = goes ++ others2

    s3 : List Piece
    s3 = heard ++ others3

    s4 : List Piece
    s4 = at_hand p [] last qs ++ others4

    s5 : List Piece
    s5 = shard_pieces (crowd_data p after qs) ++ map Goes (flight_of last.out.items)

    step1 : Becomes r k s0 s1
    step1 =
        becomes-within r k s0 (map Comes is) (taken_pieces k is) shard s1 (all-taken r run.vertices p is made.takes)
        (λ h. omega (arith, sum_by-append h shard (map Comes is), sum_by-append h (map Comes is) shard))
        (λ h. refl)

    step2 : Becomes r k s1 s2
    step2 =
        becomes-within r k s1 (ask_pieces k (filter_map ask_in is)) goes others2 s2
        (all-answered g run p (filter_map ask_in is) of (asks-can run p is made.suits made.takes))
        (λ h. omega (
          arith,
          sum_by-append h (taken_pieces k is) shard,
          sum_by-append h walkers (ask_pieces k (filter_map ask_in is) ++ replies),
          sum_by-append h (ask_pieces k (filter_map ask_in is)) replies,
          sum_by-append h (ask_pieces k (filter_map ask_in is)) others2,
          sum_by-append h walkers (replies ++ shard),
          sum_by-append h replies shard,
        ))
        (λ h. refl)

    aside-same : (h : Piece → ℕ) → sum_by (open_weight (λ t. h (Aside k (told_item t)))) (map offer_of before.aside.items)
        ≡ sum_by (λ t. h (Aside k (told_item t))) before.aside.items
    aside-same h =
        sym (open-sum (λ t. h (Aside k (told_item t))) (map offer_of before.aside.items))
        ∙ ap (sum_by (λ t. h (Aside k (told_item t)))) (first-tolds before.aside.items)

    step3 : Becomes r k s2 s3
    step3 =
        becomes-within r k s2 (map (Resident k) before.waiting.items ++ told_pieces k (open_tolds first)) heard others3 s3 (made.heard.becomes g of)
        (λ h. omega (
          arith,
          sum_by-append h goes others2,
          sum_by-append h walkers (replies ++ shard),
          sum_by-append h replies shard,
          crowd-sum h p before ps,
          told_pieces-sum h k (filter_map offer_in is),
          sum_by-append h (map (Resident k) before.waiting.items ++ told_pieces k (open_tolds first)) others3,
          sum_by-append h (map (Resident k) before.waiting.items) (told_pieces k (open_tolds first)),
          sum_by-map h (Resident k) before.waiting.items,
          told_pieces-sum h k first,
          sum_by-append (open_weight (λ t. h (Aside k (told_item t)))) (map offer_of before.aside.items) (filter_map offer_in is),
          aside-same h,
          sum_by-append h goes (walkers ++ (map (Resident k) before.ready.items ++ (map (Resident k) before.ended.items ++ map (Printed k) ps))),
          sum_by-append h walkers (map (Resident k) before.ready.items ++ (map (Resident k) before.ended.items ++ map (Printed k) ps)),
          sum_by-append h (map (Resident k) before.ready.items) (map (Resident k) before.ended.items ++ map (Printed k) ps),
          sum_by-append h (map (Resident k) before.ended.items) (map (Printed k) ps),
          sum_by-map h (Resident k) before.ready.items,
          sum_by-map h (Resident k) before.ended.items,
        ))
        (λ h. refl)

    start-goes : map Goes (flight_of start.out.items) ≡ goes
    start-goes = ap (λ o. map Goes (flight_of o)) made.out

    out-sum : (h : Piece → ℕ) (l : Left) → sum_by h (map Goes (flight_of l.out.items)) ≡ sum_by (λ a. h (Goes (item_of a.item))) l.out.items
    out-sum h l = sum_by-map h Goes (flight_of l.out.items) ∙ sum_by-map (λ i. h (Goes i)) (λ a. item_of a.item) l.out.items

    step4 : Becomes r k s3 s4
    step4 =
        becomes-within r k s3 (at_hand p ready start ps) (at_hand p [] last qs) others4 s4 (made.turned g of)
        (λ h. omega (
          arith,
          sum_by-append h heard others3,
          sum_by-append h (map (Resident k) hearing.ready.items) (map (Resident k) hearing.waiting.items ++ others4),
          sum_by-append h (map (Resident k) hearing.waiting.items) others4,
          sum_by-map h (Resident k) hearing.ready.items,
          sum_by-map h (Resident k) hearing.waiting.items,
          sum_by-append h goes (walkers ++ (map (Resident k) before.ready.items ++ (map (Resident k) before.ended.items ++ map (Printed k) ps))),
          sum_by-append h walkers (map (Resident k) before.ready.items ++ (map (Resident k) before.ended.items ++ map (Printed k) ps)),
          sum_by-append h (map (Resident k) before.ready.items) (map (Resident k) before.ended.items ++ map (Printed k) ps),
          sum_by-append h (map (Resident k) before.ended.items) (map (Printed k) ps),
          sum_by-map h (Resident k) before.ready.items,
          sum_by-map h (Resident k) before.ended.items,
          sum_by-map h (Resident k) (filter_map walker_in is),
          sum_by-append h (at_hand p ready start ps) others4,
          hand-sum h p ready start ps,
          ap (resident_weight h p) made.ready_is,
          sum_by-append (λ w. h (Resident k w)) (before.ready.items ++ filter_map walker_in is) hearing.ready.items,
          sum_by-append (λ w. h (Resident k w)) before.ready.items (filter_map walker_in is),
          ap (resident_weight h p) made.waiting,
          ap (resident_weight h p) made.ended,
          out-sum h start,
          ap (sum_by h) start-goes,
        ))
        (λ h. refl)

    step5 : Becomes r k s4 s5
    step5 =
        becomes-same r k s4 s5
        (λ h. omega (
          arith,
          sum_by-append h (at_hand p [] last qs) others4,
          hand-sum h p [] last qs,
          sum_by-append h (shard_pieces (crowd_data p after qs)) (map Goes (flight_of last.out.items)),
          crowd-sum h p after qs,
          ap (resident_weight h p) made.none,
          ap (resident_weight h p) made.still,
          ap (resident_weight h p) made.over,
          ap (sum_by (λ t. h (Aside k (told_item t)))) made.aside,
          sum_by-map h (λ t. Aside k (told_item t)) (open_tolds hearing.offers.items),
          out-sum h last,
        ))

made-heard : (run : Run) (p : PartView) (before after : Crowd) (ps qs : List Print) (is : List Sent) (hearing : Hearing) (ready : List Walker) (start last : Left)
    → IsMade run p before after ps qs is hearing ready start last → (a : Ask)
    → count_by (is_reply_to a) (map told_item after.aside.items)
    ≡ count_by (is_reply_to a) (map told_item before.aside.items ++ is)
    - count_by (λ v. waits_with a (ask_of (owner p.cuts) v)) (before.ready.items ++ (before.waiting.items ++ before.ended.items))
made-heard run p before after ps qs is hearing ready start last made a =
    let first : List Offer = map offer_of before.aside.items ++ filter_map offer_in is in
    let left : count_by (is_reply_to a) (map told_item after.aside.items) ≡ open_count a hearing.offers.items =
    ap (λ ts. count_by (is_reply_to a) (map told_item ts)) made.aside ∙ open-count a hearing.offers.items in
    let all : count_by (is_reply_to a) (map told_item before.aside.items ++ is) ≡ open_count a first =
    omega (
      arith,
      sum_by-append (λ i. if is_reply_to a i then 1 else 0) (map told_item before.aside.items) is,
      sum_by-append (open_weight (answer_count a)) (map offer_of before.aside.items) (filter_map offer_in is),
      aside-count a before.aside.items,
      arrived-count a is,
    ) in
    let waits = crowd-waits run p a before made.crowd in
    let over = left-over (open_count a hearing.offers.items) (wait_count p a before.waiting.items) (open_count a first) (wait_count p a hearing.waiting.items)
    (made.heard.counts a) (made.heard.none a) in
    omega (arith, left, all, waits, over)

-- so it is a round
pub round-made : (run : Run) (p : PartView) (before after : Crowd) (ps qs : List Print) (is : List Sent) (hearing : Hearing) (ready : List Walker) (start last : Left)
    → IsMade run p before after ps qs is hearing ready start last → (g : RowGraph) → IsPartOf g p
    → IsRound (parted g run p.cuts) (crowd_data p before ps) is (crowd_data p after qs) (flight_of last.out.items)
round-made run p before after ps qs is hearing ready start last made g of = record {
  part = refl;
  becomes = made-becomes run p before after ps qs is hearing ready start last made g of;
  unready =
      All-append (λ (v : Walker). is_ready v.mode ≡ false) after.ready.items (after.waiting.items ++ after.ended.items)
      (rw made.none (All-nil (λ (v : Walker). is_ready v.mode ≡ false)))
      (All-append (λ (v : Walker). is_ready v.mode ≡ false) after.waiting.items after.ended.items
      (λ k d low. waits-unready (get_or after.waiting.items k d).mode (made.is_crowd.waiting k d low).question (made.is_crowd.waiting k d low).waits)
      (λ k d low. over-unready (get_or after.ended.items k d).mode (made.is_crowd.ended k d low).over));
  replies = All-map (λ (i : Sent). is_reply i ≡ true) told_item after.aside.items (λ k d low. refl);
  heard = made-heard run p before after ps qs is hearing ready start last made;
  prints = made.prints;
}

-- the same of a shard whose walkers and replies were taken out for the round
pub round-kept : (g : RowGraph) (run : Run) (p : PartView) (ready waiting ended : List Walker) (aside : List Told) (before : Crowd) (ps : List Print) (is : List Sent)
    → (after : ShardData) (out : List Sent) → before.ready.items ≡ ready → before.waiting.items ≡ waiting → before.ended.items ≡ ended → before.aside.items ≡ aside
    → IsRound (parted g run p.cuts) (crowd_data p before ps) is after out
    → IsRound (parted g run p.cuts) (record { part = p.part; residents = ready ++ (waiting ++ ended); aside = map told_item aside; prints = ps }) is after out
round-kept g run p ready waiting ended aside before ps is after out same_ready same_waiting same_ended same_aside round =
    subst (λ (ws : List Walker). IsRound (parted g run p.cuts) (record { part = p.part; residents = ws ++ (waiting ++ ended); aside = map told_item aside; prints = ps }) is after out) same_ready
    (subst (λ (ws : List Walker). IsRound (parted g run p.cuts) (record { part = p.part; residents = before.ready.items ++ (ws ++ ended); aside = map told_item aside; prints = ps }) is after out) same_waiting
    (subst (λ (ws : List Walker). IsRound (parted g run p.cuts) (record { part = p.part; residents = before.ready.items ++ (before.waiting.items ++ ws); aside = map told_item aside; prints = ps }) is after out) same_ended
    (subst (λ (ts : List Told). IsRound (parted g run p.cuts) (record { part = p.part; residents = before.ready.items ++ (before.waiting.items ++ before.ended.items); aside = map told_item ts; prints = ps }) is after out) same_aside round)))
