-- Walkers that leave their lanes make place for others.
use Rattle.std.proofs.Common.{◌==◌, ◌&&◌, ◌≡◌, ◌<◌, ◌≤◌, ◌+◌, ◌-◌, ℕ, zero, suc, Bool, true, false, List, [], ◌∷◌, ◌++◌, length, map, set, get_or, take, drop, Option, Some, None, refl, ap, sym, subst, ◌∙◌, inl, inr, arith}
use Rattle.std.specs.Prelude.{All, sum_by}
use Rattle.std.specs.List.{remove}
use Rattle.std.proofs.lemmas.Bool.{cases_eq}
use Rattle.std.proofs.lemmas.List.{append_assoc, get_or_default, get_or-set_same, get_or-set_other, length-set, take_all, drop_all, take_more_set, drop-set-lt, take_at, drop_at, length-take-le, length_push, nil_from_length, get_or_append_left, get_or_push}
use Rattle.std.proofs.lemmas.List.Edits.{get_or-remove_below, get_or-remove_above, length-remove}
use Rattle.std.proofs.lemmas.List.Sums.{sum_by-append, sum_by-cons, sum_by-set, sum_by-remove, sum_by_push, sum_by_more, sum_by-drop_more}
use Rattle.walk_model.specs.declared.results.Print.{Print}
use Rattle.walk_model.specs.Cuts.{owner}
use Rattle.csr_store.specs.RowGraph.{RowGraph}
use Rattle.vertex_partition.specs.PartViews.{PartView, IsPartOf}
use Rattle.traveller.specs.declared.runs.Run.{Run}
use Rattle.traveller.specs.PartedRuns.{PartedRun}
use Rattle.traveller.specs.Standing.{parted}
use Rattle.traveller.specs.Walkers.{Walker, is_fresh}
use Rattle.world_law.specs.Worlds.{Piece, Resident, Printed, Goes}
use Rattle.world_law.specs.Events.{Becomes}
use Rattle.world_law.proofs.BecomeLemmas.{becomes-then, becomes-within, becomes-same}
use Rattle.shard_core.specs.declared.leaving.Left.{Left}
use Rattle.shard_core.specs.Abreast.{IsReadyIn}
use Rattle.shard_core.specs.Items.{item_of}
use Rattle.shard_core.specs.Leaving.{HasTurned, IsLeft, IsMore, resident_weight, left_weight, turn_weight, turns_ahead}
use Rattle.shard_core.specs.Offers.{BecomesIn}
use Rattle.shard_core.specs.SoundWorlds.{flight_of}
use Rattle.shard_core.specs.Turning.{at_hand, turned_pieces}
use Rattle.shard_core.proofs.LeaveLemmas.{IsStaying, stays-told, stays-ready, stays-weighs}
use Rattle.shard_core.proofs.PileLemmas.{sum_by-map}
use Rattle.shard_core.proofs.PassLemmas.{turned-sum}

-- lanes up to a place have been settled: what lanes, walkers that can go on and what turns left weigh together stays
pub record IsSettling (run : Run) (p : PartView) (olds rest : List Walker) (before : Left) (k : ℕ) (ws ready : List Walker) (l : Left) : Type 0 where
  pub within : k ≤ length ws
  pub done : (j : ℕ) (d : Walker) → j < k → IsReadyIn run p (get_or ws j d)
  pub turned : (j : ℕ) (d : Walker) → k ≤ j → j < length ws → HasTurned run p (get_or ws j d)
  pub can : All (IsReadyIn run p) ready
  pub left : IsLeft run p l
  pub few : length ws ≤ length olds
  pub full : 0 < length ready → length ws ≡ length olds
  pub fewer : sum_by turns_ahead ws + sum_by turns_ahead ready ≤ sum_by turns_ahead olds + sum_by turns_ahead rest
  pub same : (h : Piece → ℕ)
      → resident_weight h p (take k ws) + sum_by (turn_weight h p) (drop k ws) + resident_weight h p ready + left_weight h p l
      ≡ sum_by (turn_weight h p) olds + resident_weight h p rest + left_weight h p before

pub none-settled : (run : Run) (p : PartView) (olds rest : List Walker) (before : Left) → All (HasTurned run p) olds → All (IsReadyIn run p) rest
    → IsLeft run p before → IsSettling run p olds rest before 0 olds rest before
none-settled run p olds rest before turned can left = record {
  within = omega arith;
  done = λ j d low. absurd (omega (arith, low));
  turned = λ j d late low. turned j d low;
  can = can;
  left = left;
  few = omega arith;
  full = λ some. refl;
  fewer = omega arith;
  same = λ h. omega arith;
}

ready-before : (run : Run) (p : PartView) (ws : List Walker) (k : ℕ) → ((j : ℕ) (d : Walker) → j < k → IsReadyIn run p (get_or ws j d))
    → ((d : Walker) → IsReadyIn run p (get_or ws k d)) → (j : ℕ) (d : Walker) → j < k + 1 → IsReadyIn run p (get_or ws j d)
ready-before run p ws k before here j d low =
    elim (cases_eq j k) [
      | inl same ↦ rw same (here d)
      | inr other ↦ before j d (omega (arith, low, other))
    ]

-- a walker stays in its lane
pub one-stays : (run : Run) (p : PartView) (olds rest : List Walker) (before : Left) (k : ℕ) (ws ready : List Walker) (l : Left)
    → k < length ws → ((d : Walker) → IsReadyIn run p (get_or ws k d))
    → ((h : Piece → ℕ) (d : Walker) → turn_weight h p (get_or ws k d) ≡ h (Resident p.part (get_or ws k d)))
    → IsSettling run p olds rest before k ws ready l → IsSettling run p olds rest before (k + 1) ws ready l
one-stays run p olds rest before k ws ready l low here weighs inv = record {
  within = omega (arith, low);
  done = ready-before run p ws k inv.done here;
  turned = λ j d late inside. inv.turned j d (omega (arith, late)) inside;
  can = inv.can;
  left = inv.left;
  few = inv.few;
  full = inv.full;
  fewer = inv.fewer;
  same = λ h. by h (first ws low);
}
  where
    first : (xs : List Walker) → k < length xs → Walker
    first [] low = absurd (omega (arith, low))
    first (x ∷ xs) low = x

    by : (h : Piece → ℕ) → Walker
        → resident_weight h p (take (k + 1) ws) + sum_by (turn_weight h p) (drop (k + 1) ws) + resident_weight h p ready + left_weight h p l
        ≡ sum_by (turn_weight h p) olds + resident_weight h p rest + left_weight h p before
    by h d =
        omega (
          arith,
          inv.same h,
          weighs h d,
          sum_by_more (λ w. h (Resident p.part w)) ws k d low,
          sum_by-drop_more (turn_weight h p) ws k d low,
        )

pub stays-settled : (run : Run) (p : PartView) (olds rest : List Walker) (before : Left) (k : ℕ) (ws ready : List Walker) (l : Left) (w : Walker)
    → k < length ws → w ≡ get_or ws k w → (is_fresh w.mode && owner p.cuts w.state.at == p.part) ≡ true
    → IsSettling run p olds rest before k ws ready l → IsSettling run p olds rest before (k + 1) ws ready l
stays-settled run p olds rest before k ws ready l w low at stays inv =
    one-stays run p olds rest before k ws ready l low
    (λ d. subst (IsReadyIn run p) (here d) (stays-ready run p w turned staying))
    (λ h d. subst (λ v. turn_weight h p v ≡ h (Resident p.part v)) (here d) (stays-weighs h p w staying.fresh staying.own)) inv
  where
    here : (d : Walker) → w ≡ get_or ws k d
    here d = at ∙ get_or_default ws k w d low

    turned : HasTurned run p w
    turned = subst (HasTurned run p) (sym at) (inv.turned k w (omega arith) low)

    staying : IsStaying p w
    staying = stays-told p w stays

-- another takes its place
pub one-changes : (run : Run) (p : PartView) (olds rest : List Walker) (before : Left) (k : ℕ) (ws ready more : List Walker) (l next : Left) (v w : Walker)
    → k < length ws → v ≡ get_or ws k v → ready ≡ more ++ w ∷ [] → IsReadyIn run p w → All (IsReadyIn run p) more → IsLeft run p next
    → ((h : Piece → ℕ) → left_weight h p next ≡ left_weight h p l + turn_weight h p v)
    → IsSettling run p olds rest before k ws ready l → IsSettling run p olds rest before (k + 1) (set ws k w) more next
one-changes run p olds rest before k ws ready more l next v w low at popped can still left weighs inv = record {
  within = omega (arith, low, long);
  done = ready-before run p (set ws k w) k (λ j d early. rw (get_or-set_other ws k j w d (omega (arith, early))) (inv.done j d early))
      (λ d. rw (get_or-set_same ws k w d low) can);
  turned = λ j d late inside.
      rw (get_or-set_other ws k j w d (omega (arith, late))) (inv.turned j d (omega (arith, late)) (omega (arith, inside, long)));
  can = still;
  left = left;
  few = omega (arith, long, inv.few);
  full = λ some. (let full = inv.full some-ready in omega (arith, long, full));
  fewer = omega (
    arith,
    inv.fewer,
    sum_by-set turns_ahead ws k w v low,
    ap (sum_by turns_ahead) popped,
    sum_by_push turns_ahead more w,
  );
  same = λ h. omega (
    arith,
    inv.same h,
    weighs h,
    ap (turn_weight h p) at,
    ap (resident_weight h p) (take_more_set ws k w low),
    sum_by_push (λ x. h (Resident p.part x)) (take k ws) w,
    ap (sum_by (turn_weight h p)) (drop-set-lt (k + 1) ws k w (omega arith)),
    sum_by-drop_more (turn_weight h p) ws k v low,
    ap (resident_weight h p) popped,
    sum_by_push (λ x. h (Resident p.part x)) more w,
  );
}
  where
    long : length (set ws k w) ≡ length ws
    long = length-set ws k w

    some-ready : 0 < length ready
    some-ready = (let one = length_push more w in let is = ap (λ (xs : List Walker). length xs) popped in omega (arith, one, is))

-- or its lane is given up
pub one-leaves : (run : Run) (p : PartView) (olds rest : List Walker) (before : Left) (k : ℕ) (ws ready more : List Walker) (l next : Left) (v : Walker)
    → k < length ws → v ≡ get_or ws k v → more ≡ [] → IsLeft run p next
    → ((h : Piece → ℕ) → left_weight h p next ≡ left_weight h p l + turn_weight h p v) → ready ≡ []
    → IsSettling run p olds rest before k ws ready l → IsSettling run p olds rest before k (remove ws k) more next
one-leaves run p olds rest before k ws ready more l next v low at none left weighs empty inv = record {
  within = omega (arith, low, less);
  done = λ j d early. rw (get_or-remove_below ws k d j early low) (inv.done j d early);
  turned = λ j d late inside.
      rw (get_or-remove_above ws k d j late low) (inv.turned (j + 1) d (omega (arith, late)) (omega (arith, inside, less)));
  can = subst (All (IsReadyIn run p)) (empty ∙ sym none) inv.can;
  left = left;
  few = omega (arith, less, inv.few);
  full = λ some. absurd (let never : 0 < length {A = Walker} [] = rw none at some in omega (arith, never));
  fewer = omega (
    arith,
    inv.fewer,
    sum_by-remove turns_ahead ws k v low,
    ap (sum_by turns_ahead) none,
    ap (sum_by turns_ahead) empty,
  );
  same = λ h. omega (
    arith,
    inv.same h,
    weighs h,
    ap (turn_weight h p) at,
    ap (resident_weight h p) front,
    ap (sum_by (turn_weight h p)) back,
    sum_by-drop_more (turn_weight h p) ws k v low,
    ap (resident_weight h p) none,
    ap (resident_weight h p) empty,
  );
}
  where
    less : length (remove ws k) + 1 ≡ length ws
    less = length-remove ws k low

    shorter : length (take k ws) ≡ k
    shorter = length-take-le k ws (omega (arith, low))

    front : take k (remove ws k) ≡ take k ws
    front = take_at (take k ws) (drop (suc k) ws) k shorter

    next-place : suc k ≡ k + 1
    next-place = omega arith

    back : drop k (remove ws k) ≡ drop (k + 1) ws
    back = drop_at (take k ws) (drop (suc k) ws) k shorter ∙ ap (λ n. drop n ws) next-place

-- at last all lanes are
pub record HasSettled (run : Run) (p : PartView) (olds rest : List Walker) (before : Left) (ws ready : List Walker) (l : Left) : Type 0 where
  pub lanes : All (IsReadyIn run p) ws
  pub same : (h : Piece → ℕ)
      → resident_weight h p ws + resident_weight h p ready + left_weight h p l
      ≡ sum_by (turn_weight h p) olds + resident_weight h p rest + left_weight h p before

pub all-settled : (run : Run) (p : PartView) (olds rest : List Walker) (before : Left) (k : ℕ) (ws ready : List Walker) (l : Left) → length ws ≤ k
    → IsSettling run p olds rest before k ws ready l → HasSettled run p olds rest before ws ready l
all-settled run p olds rest before k ws ready l past inv = record {
  lanes = λ j d low. inv.done j d (omega (arith, low, past));
  same = λ h. omega (
    arith,
    inv.same h,
    ap (resident_weight h p) (take_all k ws past),
    ap (sum_by (turn_weight h p)) (drop_all k ws past),
  );
}

-- the pieces in hand by their weights
flight-sum : (h : Piece → ℕ) (l : Left) → sum_by h (map Goes (flight_of l.out.items)) ≡ sum_by (λ a. h (Goes (item_of a.item))) l.out.items
flight-sum h l = sum_by-map h Goes (flight_of l.out.items) ∙ sum_by-map (λ i. h (Goes i)) (λ a. item_of a.item) l.out.items

pub hand-sum : (h : Piece → ℕ) (p : PartView) (ready : List Walker) (l : Left) (ps : List Print)
    → sum_by h (at_hand p ready l ps) ≡ resident_weight h p ready + left_weight h p l + sum_by h (map (Printed p.part) ps)
unfolding at_hand
hand-sum h p ready l ps =
    let k : ℕ = p.part in
    omega (
      arith,
      sum_by-append h (map (Resident k) ready) (map (Resident k) l.waiting.items ++ (map (Resident k) l.ended.items ++ (map Goes (flight_of l.out.items) ++ map (Printed k) ps))),
      sum_by-append h (map (Resident k) l.waiting.items) (map (Resident k) l.ended.items ++ (map Goes (flight_of l.out.items) ++ map (Printed k) ps)),
      sum_by-append h (map (Resident k) l.ended.items) (map Goes (flight_of l.out.items) ++ map (Printed k) ps),
      sum_by-append h (map Goes (flight_of l.out.items)) (map (Printed k) ps),
      sum_by-map h (Resident k) ready,
      sum_by-map h (Resident k) l.waiting.items,
      sum_by-map h (Resident k) l.ended.items,
      flight-sum h l,
    )

-- passes, one after another
pub record IsTurning (run : Run) (p : PartView) (first : List Walker) (before : Left) (printed : List Print) (ws ready : List Walker) (l : Left) (ps : List Print) : Type 0 where
  pub lanes : All (IsReadyIn run p) ws
  pub can : All (IsReadyIn run p) ready
  pub few : length ws ≤ 16
  pub full : 0 < length ready → 0 < length ws
  pub left : IsLeft run p l
  pub prints : IsMore printed ps
  pub becomes : BecomesIn run p (at_hand p first before printed) (at_hand p (ws ++ ready) l ps)

pub none-turned : (run : Run) (p : PartView) (first : List Walker) (before : Left) (printed : List Print) (ws ready : List Walker)
    → ((h : Piece → ℕ) → resident_weight h p ws + resident_weight h p ready ≡ resident_weight h p first)
    → BecomesIn run p (at_hand p first before printed) (at_hand p (ws ++ ready) before printed)
none-turned run p first before printed ws ready same = λ g of.
    becomes-same (parted g run p.cuts) p.part (at_hand p first before printed) (at_hand p (ws ++ ready) before printed)
    (λ h. omega (
      arith,
      same h,
      sum_by-append (λ w. h (Resident p.part w)) ws ready,
      hand-sum h p first before printed,
      hand-sum h p (ws ++ ready) before printed,
    ))

-- one pass more, after which walkers have left their lanes
pub pass-more : (run : Run) (p : PartView) (first : List Walker) (before : Left) (printed : List Print) (ws ready : List Walker) (l : Left) (ps : List Print)
    → (turned : List Walker) (qs : List Print) (lanes rest : List Walker) (next : Left)
    → BecomesIn run p (map (Resident p.part) ws ++ map (Printed p.part) ps) (turned_pieces p turned ++ map (Printed p.part) qs)
    → ((h : Piece → ℕ) → resident_weight h p lanes + resident_weight h p rest + left_weight h p next
    ≡ sum_by (turn_weight h p) turned + resident_weight h p ready + left_weight h p l)
    → BecomesIn run p (at_hand p first before printed) (at_hand p (ws ++ ready) l ps)
    → BecomesIn run p (at_hand p first before printed) (at_hand p (lanes ++ rest) next qs)
pass-more run p first before printed ws ready l ps turned qs lanes rest next pass settled so_far = λ g of.
    let r : PartedRun = parted g run p.cuts in
    let k : ℕ = p.part in
    let others : List Piece = at_hand p ready l [] in
    becomes-then r k (at_hand p first before printed) (at_hand p (ws ++ ready) l ps) (at_hand p (lanes ++ rest) next qs) (so_far g of)
    (becomes-within r k (at_hand p (ws ++ ready) l ps) (map (Resident k) ws ++ map (Printed k) ps) (turned_pieces p turned ++ map (Printed k) qs) others
    (at_hand p (lanes ++ rest) next qs) (pass g of)
    (λ h. omega (
      arith,
      hand-sum h p (ws ++ ready) l ps,
      sum_by-append (λ w. h (Resident k w)) ws ready,
      sum_by-append h (map (Resident k) ws ++ map (Printed k) ps) others,
      sum_by-append h (map (Resident k) ws) (map (Printed k) ps),
      sum_by-map h (Resident k) ws,
      hand-sum h p ready l [],
    ))
    (λ h. omega (
      arith,
      settled h,
      hand-sum h p (lanes ++ rest) next qs,
      sum_by-append (λ w. h (Resident k w)) lanes rest,
      sum_by-append h (turned_pieces p turned ++ map (Printed k) qs) others,
      sum_by-append h (turned_pieces p turned) (map (Printed k) qs),
      turned-sum h p turned,
      hand-sum h p ready l [],
    )))

-- at last no walker can go on
pub all-done : (run : Run) (p : PartView) (first : List Walker) (before : Left) (printed : List Print) (ws ready : List Walker) (l : Left) (ps : List Print)
    → length ws ≡ 0 → (0 < length ready → 0 < length ws)
    → BecomesIn run p (at_hand p first before printed) (at_hand p (ws ++ ready) l ps)
    → BecomesIn run p (at_hand p first before printed) (at_hand p [] l ps)
all-done run p first before printed ws ready l ps empty full so_far =
    let none : ws ≡ [] = nil_from_length ws empty in
    let no-ready : ready ≡ [] = nil_from_length ready (by (length ready) full) in
    subst (λ xs. BecomesIn run p (at_hand p first before printed) (at_hand p xs l ps)) (ap (λ (xs : List Walker). xs ++ ready) none ∙ no-ready) so_far
  where
    by : (n : ℕ) → (0 < n → 0 < length ws) → n ≡ 0
    by zero full = refl
    by (suc n) full = absurd (let some = full (omega arith) in omega (arith, some, empty))

pub prints-then : (a b c : List Print) → IsMore a b → IsMore b c → IsMore a c
prints-then a b c first more = (first.0 ++ more.0, more.1 ∙ ap (λ (l : List Print). l ++ more.0) first.1 ∙ append_assoc a first.0 more.0)

-- the last of some walkers that can go on, and those before it
pub popped-all : (run : Run) (p : PartView) (ready rest : List Walker) (v : Walker) → ready ≡ rest ++ v ∷ [] → All (IsReadyIn run p) ready
    → All (IsReadyIn run p) rest
popped-all run p ready rest v popped can = λ k d low.
    let long = length_push rest v in
    let all = subst (All (IsReadyIn run p)) popped can in
    subst (IsReadyIn run p) (get_or_append_left rest (v ∷ []) d k low) (all k d (omega (arith, low, long)))

pub popped-one : (run : Run) (p : PartView) (ready rest : List Walker) (v : Walker) → ready ≡ rest ++ v ∷ [] → All (IsReadyIn run p) ready
    → IsReadyIn run p v
popped-one run p ready rest v popped can =
    let long = length_push rest v in
    let all = subst (All (IsReadyIn run p)) popped can in
    subst (IsReadyIn run p) (get_or_push rest v v (length rest) refl) (all (length rest) v (omega (arith, long)))
