-- One more item is packed.
use Rattle.std.proofs.Common.{◌≡◌, ℕ, ◌<◌, ◌≤◌, Bool, true, false, List, [], ◌∷◌, ◌++◌, map, length, refl, ◌∙◌, ap, append_assoc}
use Rattle.std.specs.Prelude.{All, filter, ◌==◌}
use Rattle.std.specs.List.Sorted.{IsPermutation}
use Rattle.std.proofs.lemmas.Bool.{eqb-true}
use Rattle.std.proofs.lemmas.List.{map-append, append-nil}
use Rattle.std.proofs.lemmas.List.Concat.{flat_map-append}
use Rattle.std.proofs.lemmas.List.Elements.{All-cons, All-head, All-tail, All-append, All-push, All-map, All-filter, filter-append}
use Rattle.std.proofs.lemmas.List.Sorted.{IsPermutation-trans, IsPermutation-append_left, IsPermutation-append_right, IsPermutation-append_comm}
use Rattle.walker_mail.specs.declared.parcels.Addressed.{Addressed}
use Rattle.walker_mail.specs.declared.parcels.Parcel.{Parcel}
use Rattle.walker_mail.specs.declared.parcels.Posted.{Posted}
use Rattle.walker_mail.specs.Posts.{posted_item, items_of, all_items, sent_from}
use Rattle.walker_mail.specs.Packing.{IsCut, IsPacking, items_to, parcels_to, contents}
use Rattle.walker_mail.proofs.CutLemmas.{All-front, All-back, cut_more, cut_grow}
use Rattle.walker_mail.proofs.MoveLemmas.{perm_put}
use Rattle.walker_mail.proofs.RiseLemmas.{rises_put, rises_in, rises_behind, none_below, none_above}

-- the items of an addressee, with one more item that is its own, and with one of another
pub items_to_here : {I : Type 0} (a : ℕ) (xs : List (Addressed I)) (x : Addressed I) → (x.to == a) ≡ true → items_to a (xs ++ x ∷ []) ≡ items_to a xs ++ x.item ∷ []
items_to_here {I} a xs x here =
    let p : Addressed I → Bool = λ y. y.to == a in
    let item : Addressed I → I = λ y. y.item in
    let one : filter p (x ∷ []) ≡ x ∷ [] = rw here refl in
    rw (filter-append p xs (x ∷ []), one, map-append item (filter p xs) (x ∷ [])) refl

pub items_to_else : {I : Type 0} (a : ℕ) (xs : List (Addressed I)) (x : Addressed I) → (x.to == a) ≡ false → items_to a (xs ++ x ∷ []) ≡ items_to a xs
items_to_else {I} a xs x other =
    let p : Addressed I → Bool = λ y. y.to == a in
    let none : filter p (x ∷ []) ≡ [] = rw other refl in
    rw (filter-append p xs (x ∷ []), none, append-nil (filter p xs)) refl

-- a parcel is the only one of its addressee between those below it and those above it
pub parcels_to_here : {I : Type 0} (front back : List (Parcel I)) (p : Parcel I) (a : ℕ) → (p.to == a) ≡ true
    → All (λ q. q.to < p.to) front → All (λ q. p.to < q.to) back → parcels_to a (front ++ p ∷ back) ≡ p ∷ []
parcels_to_here {I} front back p a here below above =
    let is : p.to ≡ a = eqb-true p.to a here in
    let test : Parcel I → Bool = λ q. q.to == a in
    let none_before : filter test front ≡ [] = rw (← is) (none_below p.to front below) in
    let none_behind : filter test back ≡ [] = rw (← is) (none_above p.to back above) in
    rw (filter-append test front (p ∷ back), none_before, here, none_behind) refl

-- it is none of another's
pub parcels_to_else : {I : Type 0} (front back : List (Parcel I)) (p : Parcel I) (a : ℕ) → (p.to == a) ≡ false
    → parcels_to a (front ++ p ∷ back) ≡ parcels_to a (front ++ back)
parcels_to_else {I} front back p a other =
    let test : Parcel I → Bool = λ q. q.to == a in
    rw (filter-append test front (p ∷ back), filter-append test front back, other) refl

-- the parcels of an addressee that are full are full
filled_to : {I : Type 0} (limit a : ℕ) (full : List (Parcel I)) → All (λ p. limit ≤ length p.items.items) full → All (λ piece. limit ≤ length piece) (contents (parcels_to a full))
filled_to {I} limit a full filled =
    let P : List I → Type 0 = λ piece. limit ≤ length piece in
    All-map P (λ (p : Parcel I). p.items.items) (parcels_to a full)
    (All-filter (λ (p : Parcel I). p.to == a) (λ (p : Parcel I). limit ≤ length p.items.items) full filled)

-- what is sent with one more item
sent_more : {I : Type 0} (from : ℕ) (xs : List (Addressed I)) (x : Addressed I) → sent_from from (xs ++ x ∷ []) ≡ sent_from from xs ++ posted_item from x.to x.item ∷ []
sent_more {I} from xs x = map-append (λ (y : Addressed I). posted_item from y.to y.item) xs (x ∷ [])

-- the items of parcels, one of them apart
items_apart : {I : Type 0} (front back : List (Parcel I)) (p : Parcel I) → all_items (front ++ p ∷ back) ≡ all_items front ++ (items_of p ++ all_items back)
items_apart front back p = flat_map-append items_of front (p ∷ back)

-- a parcel with one item
items_of_one : {I : Type 0} (from to : ℕ) (item : I) (q : Parcel I) → q.from ≡ from → q.to ≡ to → q.items.items ≡ item ∷ [] → items_of q ≡ posted_item from to item ∷ []
items_of_one from to item q of goes has = rw (of, goes, has) refl

-- the last parcel of the addressee has room
grow_cut : {I : Type 0} (from limit : ℕ) (xs : List (Addressed I)) (x : Addressed I) (full front back : List (Parcel I)) (p q : Parcel I)
    → IsPacking from limit xs full (front ++ p ∷ back) → All (λ r. r.to < p.to) front → p.to ≡ x.to
    → length p.items.items < limit → q.to ≡ p.to → q.items.items ≡ p.items.items ++ x.item ∷ []
    → (a : ℕ) (b : Bool) → (x.to == a) ≡ b
    → IsCut limit (items_to a (xs ++ x ∷ [])) (contents (parcels_to a full) ++ contents (parcels_to a (front ++ q ∷ back)))
grow_cut {I} from limit xs x full front back p q packing below own room same has a true here =
    let above = rises_behind front back p packing.rises in
    let here_p : (p.to == a) ≡ true = rw own here in
    let here_q : (q.to == a) ≡ true = rw same here_p in
    let below_q : All (λ r. r.to < q.to) front = rw same below in
    let above_q : All (λ r. q.to < r.to) back = rw same above in
    let was : IsCut limit (items_to a xs) (contents (parcels_to a full) ++ p.items.items ∷ []) =
    rw (parcels_to_here front back p a here_p below above) at (packing.cut a) in
    let grown = cut_grow limit (items_to a xs) x.item (contents (parcels_to a full)) p.items.items room was in
    rw (items_to_here a xs x here, parcels_to_here front back q a here_q below_q above_q, has) grown
grow_cut {I} from limit xs x full front back p q packing below own room same has a false other =
    let other_p : (p.to == a) ≡ false = rw own other in
    let other_q : (q.to == a) ≡ false = rw same other_p in
    let was : IsCut limit (items_to a xs) (contents (parcels_to a full) ++ contents (parcels_to a (front ++ back))) =
    rw (parcels_to_else front back p a other_p) at (packing.cut a) in
    rw (items_to_else a xs x other, parcels_to_else front back q a other_q) was

pub packing_grow : {I : Type 0} (from limit : ℕ) (xs : List (Addressed I)) (x : Addressed I) (full front back : List (Parcel I)) (p q : Parcel I)
    → IsPacking from limit xs full (front ++ p ∷ back) → All (λ r. r.to < p.to) front → p.to ≡ x.to
    → length p.items.items < limit → q.from ≡ p.from → q.to ≡ p.to → q.items.items ≡ p.items.items ++ x.item ∷ []
    → IsPacking from limit (xs ++ x ∷ []) full (front ++ q ∷ back)
packing_grow {I} from limit xs x full front back p q packing below own room of same has =
    let Sends : Parcel I → Type 0 = λ r. r.from ≡ from in
    let senders : All Sends (p ∷ back) = All-back Sends front (p ∷ back) packing.last_sender in
    let sender : p.from ≡ from = All-head Sends p back senders in
    let sender_q : q.from ≡ from = of ∙ sender in
    let goes_q : q.to ≡ x.to = same ∙ own in
    let y = posted_item from x.to x.item in
    let items_p : items_of p ≡ map (posted_item from x.to) p.items.items = rw (sender, own) refl in
    let items_q : items_of q ≡ items_of p ++ y ∷ [] =
    rw (items_p, sender_q, goes_q, has) (map-append (posted_item from x.to) p.items.items (x.item ∷ [])) in
    let kept = all_items full ++ (all_items front ++ items_of p) in
    let before : all_items full ++ all_items (front ++ p ∷ back) ≡ kept ++ all_items back = rw (items_apart front back p) (simp append_assoc) in
    let after : all_items full ++ all_items (front ++ q ∷ back) ≡ kept ++ y ∷ all_items back = rw (items_apart front back q, items_q) (simp append_assoc) in
    record {
      full_sender = packing.full_sender;
      last_sender = All-append Sends front (q ∷ back) (All-front Sends front (p ∷ back) packing.last_sender) (All-cons Sends q back sender_q (All-tail Sends p back senders));
      filled = packing.filled;
      rises = rises_put front back p q same packing.rises;
      cut = λ a. grow_cut from limit xs x full front back p q packing below own room same has a (x.to == a) refl;
      all = rw (sent_more from xs x) (perm_put (sent_from from xs) (all_items full ++ all_items (front ++ p ∷ back)) (all_items full ++ all_items (front ++ q ∷ back)) kept (all_items back) y packing.all before after);
    }

-- the last parcel of the addressee is full, and another one begins
next_cut : {I : Type 0} (from limit : ℕ) (xs : List (Addressed I)) (x : Addressed I) (full front back : List (Parcel I)) (p q : Parcel I)
    → 1 ≤ limit → IsPacking from limit xs full (front ++ p ∷ back) → All (λ r. r.to < p.to) front → p.to ≡ x.to
    → limit ≤ length p.items.items → q.to ≡ p.to → q.items.items ≡ x.item ∷ []
    → (a : ℕ) (b : Bool) → (x.to == a) ≡ b
    → IsCut limit (items_to a (xs ++ x ∷ [])) (contents (parcels_to a (full ++ p ∷ [])) ++ contents (parcels_to a (front ++ q ∷ back)))
next_cut {I} from limit xs x full front back p q some packing below own whole same has a true here =
    let above = rises_behind front back p packing.rises in
    let here_p : (p.to == a) ≡ true = rw own here in
    let here_q : (q.to == a) ≡ true = rw same here_p in
    let below_q : All (λ r. r.to < q.to) front = rw same below in
    let above_q : All (λ r. q.to < r.to) back = rw same above in
    let was : IsCut limit (items_to a xs) (contents (parcels_to a full) ++ p.items.items ∷ []) =
    rw (parcels_to_here front back p a here_p below above) at (packing.cut a) in
    let now : contents (parcels_to a (full ++ p ∷ [])) ≡ contents (parcels_to a full) ++ p.items.items ∷ [] =
    rw (filter-append (λ (r : Parcel I). r.to == a) full (p ∷ []), here_p, map-append (λ (r : Parcel I). r.items.items) (parcels_to a full) (p ∷ [])) refl in
    let filled : All (λ piece. limit ≤ length piece) (contents (parcels_to a full) ++ p.items.items ∷ []) =
    All-push (λ (piece : List I). limit ≤ length piece) (contents (parcels_to a full)) p.items.items (filled_to limit a full packing.filled) whole in
    let more = cut_more limit (items_to a xs) x.item (contents (parcels_to a full) ++ p.items.items ∷ []) some was filled in
    rw (items_to_here a xs x here, now, parcels_to_here front back q a here_q below_q above_q, has) more
next_cut {I} from limit xs x full front back p q some packing below own whole same has a false other =
    let other_p : (p.to == a) ≡ false = rw own other in
    let other_q : (q.to == a) ≡ false = rw same other_p in
    let test : Parcel I → Bool = λ r. r.to == a in
    let none : filter test (p ∷ []) ≡ [] = rw other_p refl in
    let full_as_before : parcels_to a (full ++ p ∷ []) ≡ parcels_to a full = rw (filter-append test full (p ∷ []), none) (append-nil (filter test full)) in
    let was : IsCut limit (items_to a xs) (contents (parcels_to a full) ++ contents (parcels_to a (front ++ back))) =
    rw (parcels_to_else front back p a other_p) at (packing.cut a) in
    rw (items_to_else a xs x other, full_as_before, parcels_to_else front back q a other_q) was

pub packing_next : {I : Type 0} (from limit : ℕ) (xs : List (Addressed I)) (x : Addressed I) (full front back : List (Parcel I)) (p q : Parcel I)
    → 1 ≤ limit → IsPacking from limit xs full (front ++ p ∷ back) → All (λ r. r.to < p.to) front → p.to ≡ x.to
    → limit ≤ length p.items.items → q.from ≡ from → q.to ≡ p.to → q.items.items ≡ x.item ∷ []
    → IsPacking from limit (xs ++ x ∷ []) (full ++ p ∷ []) (front ++ q ∷ back)
packing_next {I} from limit xs x full front back p q some packing below own whole of same has =
    let Sends : Parcel I → Type 0 = λ r. r.from ≡ from in
    let senders : All Sends (p ∷ back) = All-back Sends front (p ∷ back) packing.last_sender in
    let y = posted_item from x.to x.item in
    let items_q : items_of q ≡ y ∷ [] = items_of_one from x.to x.item q of (same ∙ own) has in
    let kept = (all_items full ++ items_of p) ++ all_items front in
    let before : all_items full ++ all_items (front ++ p ∷ back) ≡ all_items full ++ ((all_items front ++ items_of p) ++ all_items back) =
    rw (items_apart front back p) (simp append_assoc) in
    let turned : IsPermutation (all_items full ++ ((all_items front ++ items_of p) ++ all_items back)) (all_items full ++ ((items_of p ++ all_items front) ++ all_items back)) =
    IsPermutation-append_right (all_items full) ((all_items front ++ items_of p) ++ all_items back) ((items_of p ++ all_items front) ++ all_items back)
    (IsPermutation-append_left (all_items back) (all_items front ++ items_of p) (items_of p ++ all_items front) (IsPermutation-append_comm (all_items front) (items_of p))) in
    let moved : IsPermutation (sent_from from xs) (all_items full ++ ((items_of p ++ all_items front) ++ all_items back)) =
    IsPermutation-trans (sent_from from xs) (all_items full ++ ((all_items front ++ items_of p) ++ all_items back)) (all_items full ++ ((items_of p ++ all_items front) ++ all_items back))
    (rw before at packing.all) turned in
    let split : all_items full ++ ((items_of p ++ all_items front) ++ all_items back) ≡ kept ++ all_items back = simp append_assoc in
    let full_items : all_items (full ++ p ∷ []) ≡ all_items full ++ items_of p =
    flat_map-append items_of full (p ∷ []) ∙ ap (λ (l : List (Posted I)). all_items full ++ l) (append-nil (items_of p)) in
    let after : all_items (full ++ p ∷ []) ++ all_items (front ++ q ∷ back) ≡ kept ++ y ∷ all_items back =
    rw (full_items, items_apart front back q, items_q) (simp append_assoc) in
    record {
      full_sender = All-push Sends full p packing.full_sender (All-head Sends p back senders);
      last_sender = All-append Sends front (q ∷ back) (All-front Sends front (p ∷ back) packing.last_sender) (All-cons Sends q back of (All-tail Sends p back senders));
      filled = All-push (λ (r : Parcel I). limit ≤ length r.items.items) full p packing.filled whole;
      rises = rises_put front back p q same packing.rises;
      cut = λ a. next_cut from limit xs x full front back p q some packing below own whole same has a (x.to == a) refl;
      all = rw (sent_more from xs x) (perm_put (sent_from from xs) (all_items full ++ ((items_of p ++ all_items front) ++ all_items back)) (all_items (full ++ p ∷ []) ++ all_items (front ++ q ∷ back)) kept (all_items back) y moved split after);
    }

-- the addressee has no parcel yet
new_cut : {I : Type 0} (from limit : ℕ) (xs : List (Addressed I)) (x : Addressed I) (full front back : List (Parcel I)) (q : Parcel I)
    → 1 ≤ limit → IsPacking from limit xs full (front ++ back) → All (λ r. r.to < x.to) front → All (λ r. x.to < r.to) back
    → q.to ≡ x.to → q.items.items ≡ x.item ∷ []
    → (a : ℕ) (b : Bool) → (x.to == a) ≡ b
    → IsCut limit (items_to a (xs ++ x ∷ [])) (contents (parcels_to a full) ++ contents (parcels_to a (front ++ q ∷ back)))
new_cut {I} from limit xs x full front back q some packing below above goes has a true here =
    let is : x.to ≡ a = eqb-true x.to a here in
    let here_q : (q.to == a) ≡ true = rw goes here in
    let below_q : All (λ r. r.to < q.to) front = rw goes below in
    let above_q : All (λ r. q.to < r.to) back = rw goes above in
    let test : Parcel I → Bool = λ r. r.to == a in
    let none_before : filter test front ≡ [] = rw (← is) (none_below x.to front below) in
    let none_behind : filter test back ≡ [] = rw (← is) (none_above x.to back above) in
    let none : parcels_to a (front ++ back) ≡ [] = rw (filter-append test front back, none_before, none_behind) refl in
    let was : IsCut limit (items_to a xs) (contents (parcels_to a full)) = rw (none, append-nil (contents (parcels_to a full))) at (packing.cut a) in
    let more = cut_more limit (items_to a xs) x.item (contents (parcels_to a full)) some was (filled_to limit a full packing.filled) in
    rw (items_to_here a xs x here, parcels_to_here front back q a here_q below_q above_q, has) more
new_cut {I} from limit xs x full front back q some packing below above goes has a false other =
    let other_q : (q.to == a) ≡ false = rw goes other in
    rw (items_to_else a xs x other, parcels_to_else front back q a other_q) (packing.cut a)

pub packing_new : {I : Type 0} (from limit : ℕ) (xs : List (Addressed I)) (x : Addressed I) (full front back : List (Parcel I)) (q : Parcel I)
    → 1 ≤ limit → IsPacking from limit xs full (front ++ back) → All (λ r. r.to < x.to) front → All (λ r. x.to < r.to) back
    → q.from ≡ from → q.to ≡ x.to → q.items.items ≡ x.item ∷ []
    → IsPacking from limit (xs ++ x ∷ []) full (front ++ q ∷ back)
packing_new {I} from limit xs x full front back q some packing below above of goes has =
    let Sends : Parcel I → Type 0 = λ r. r.from ≡ from in
    let y = posted_item from x.to x.item in
    let items_q : items_of q ≡ y ∷ [] = items_of_one from x.to x.item q of goes has in
    let kept = all_items full ++ all_items front in
    let before : all_items full ++ all_items (front ++ back) ≡ kept ++ all_items back = rw (flat_map-append items_of front back) (simp append_assoc) in
    let after : all_items full ++ all_items (front ++ q ∷ back) ≡ kept ++ y ∷ all_items back = rw (items_apart front back q, items_q) (simp append_assoc) in
    let below_q : All (λ r. r.to < q.to) front = rw goes below in
    let above_q : All (λ r. q.to < r.to) back = rw goes above in
    record {
      full_sender = packing.full_sender;
      last_sender = All-append Sends front (q ∷ back) (All-front Sends front back packing.last_sender) (All-cons Sends q back of (All-back Sends front back packing.last_sender));
      filled = packing.filled;
      rises = rises_in front back q below_q above_q packing.rises;
      cut = λ a. new_cut from limit xs x full front back q some packing below above goes has a (x.to == a) refl;
      all = rw (sent_more from xs x) (perm_put (sent_from from xs) (all_items full ++ all_items (front ++ back)) (all_items full ++ all_items (front ++ q ∷ back)) kept (all_items back) y packing.all before after);
    }
