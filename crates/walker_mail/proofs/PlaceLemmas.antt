-- The place of an addressee among the last parcels.
use Rattle.std.proofs.Common.{◌≡◌, ℕ, suc, ◌<◌, ◌≤◌, true, false, List, [], ◌∷◌, ◌++◌, length, take, drop, get_or, nat_lt, sym, ◌∙◌, ap, subst, arith, drop-cons}
use Rattle.std.proofs.Math.ListN.{set}
use Rattle.std.specs.Prelude.{All}
use Rattle.std.specs.List.{insert, AllWithin}
use Rattle.std.proofs.lemmas.Bool.{ltb-true, ltb-false}
use Rattle.std.proofs.lemmas.List.{length-take, get_or-take, set-get_or, set_split, take-append-drop}
use Rattle.std.proofs.lemmas.List.Elements.{All-cons, All-weaker}
use Rattle.walker_mail.specs.declared.parcels.Addressed.{Addressed}
use Rattle.walker_mail.specs.declared.parcels.Parcel.{Parcel}
use Rattle.walker_mail.specs.Packing.{IsPacking, Rises}
use Rattle.walker_mail.proofs.RiseLemmas.{rises_behind}
use Rattle.walker_mail.proofs.PackingLemmas.{packing_grow, packing_next, packing_new}

-- those before the place are below the addressee
pub below_place : {I : Type 0} (t place : ℕ) (ps : List (Parcel I)) → AllWithin (λ r. nat_lt r.to t ≡ true) ps 0 place → All (λ r. r.to < t) (take place ps)
below_place t place ps within k d low =
    let short : k < place = omega (arith, length-take place ps) in
    rw (get_or-take place ps k d short) (ltb-true (get_or ps k d).to t (within k d (omega arith) short))

-- a list at a place
pub split_at : {X : Type 0} (xs : List X) (i : ℕ) (x : X) → i < length xs → x ≡ get_or xs i x → xs ≡ take i xs ++ x ∷ drop (suc i) xs
split_at {X} xs i x low is =
    let put : set xs i x ≡ take i xs ++ x ∷ drop (suc i) xs = set_split xs i x low in
    let same : set xs i (get_or xs i x) ≡ xs = set-get_or xs i x in
    sym same ∙ ap (λ (y : X). set xs i y) (sym is) ∙ put

drop_split : {X : Type 0} (xs : List X) (i : ℕ) (x : X) → i < length xs → x ≡ get_or xs i x → drop i xs ≡ x ∷ drop (suc i) xs
drop_split {X} xs i x low is = drop-cons xs i x low ∙ ap (λ (y : X). y ∷ drop (suc i) xs) (sym is)

-- where the parcel at the place is of another addressee, those from it on are above
pub above_place : {I : Type 0} (t place : ℕ) (ps : List (Parcel I)) (p : Parcel I) → place < length ps → p ≡ get_or ps place p
    → Rises ps → AllWithin (λ r. nat_lt r.to t ≡ false) ps place (length ps) → (p.to ≡ t → ⊥) → All (λ r. t < r.to) (drop place ps)
above_place {I} t place ps p low is rises within other =
    let split = split_at ps place p low is in
    let at_p : nat_lt (get_or ps place p).to t ≡ false = within place p (omega arith) low in
    let least : t ≤ (get_or ps place p).to = ltb-false (get_or ps place p).to t at_p in
    let here : t ≤ p.to = rw is least in
    let below : t < p.to = omega arith in
    let behind : All (λ r. p.to < r.to) (drop (suc place) ps) = rises_behind (take place ps) (drop (suc place) ps) p (subst Rises split rises) in
    let above : All (λ r. t < r.to) (drop (suc place) ps) = All-weaker (λ (r : Parcel I). p.to < r.to) (λ (r : Parcel I). t < r.to) (λ r more. omega arith) (drop (suc place) ps) behind in
    let cut : drop place ps ≡ p ∷ drop (suc place) ps = drop_split ps place p low is in
    rw cut (All-cons (λ (r : Parcel I). t < r.to) p (drop (suc place) ps) below above)

pub add_new : {I : Type 0} (from limit : ℕ) (xs : List (Addressed I)) (x : Addressed I) (full last : List (Parcel I)) (place : ℕ) (q : Parcel I)
    → 1 ≤ limit → IsPacking from limit xs full last → AllWithin (λ r. nat_lt r.to x.to ≡ true) last 0 place → All (λ r. x.to < r.to) (drop place last)
    → q.from ≡ from → q.to ≡ x.to → q.items.items ≡ x.item ∷ []
    → IsPacking from limit (xs ++ x ∷ []) full (insert last place q)
add_new from limit xs x full last place q some packing within above of goes has =
    packing_new from limit xs x full (take place last) (drop place last) q some
    (subst (IsPacking from limit xs full) (sym (take-append-drop place last)) packing) (below_place x.to place last within) above of goes has

pub add_grow : {I : Type 0} (from limit : ℕ) (xs : List (Addressed I)) (x : Addressed I) (full last : List (Parcel I)) (place : ℕ) (p q : Parcel I)
    → IsPacking from limit xs full last → AllWithin (λ r. nat_lt r.to x.to ≡ true) last 0 place → place < length last → p ≡ get_or last place p → p.to ≡ x.to
    → length p.items.items < limit → q.from ≡ p.from → q.to ≡ p.to → q.items.items ≡ p.items.items ++ x.item ∷ []
    → IsPacking from limit (xs ++ x ∷ []) full (set last place q)
add_grow from limit xs x full last place p q packing within low is own room of same has =
    let below : All (λ r. r.to < p.to) (take place last) = rw own (below_place x.to place last within) in
    rw (set_split last place q low)
    (packing_grow from limit xs x full (take place last) (drop (suc place) last) p q
    (subst (IsPacking from limit xs full) (split_at last place p low is) packing) below own room of same has)

pub add_next : {I : Type 0} (from limit : ℕ) (xs : List (Addressed I)) (x : Addressed I) (full last : List (Parcel I)) (place : ℕ) (p q : Parcel I)
    → 1 ≤ limit → IsPacking from limit xs full last → AllWithin (λ r. nat_lt r.to x.to ≡ true) last 0 place → place < length last → p ≡ get_or last place p → p.to ≡ x.to
    → limit ≤ length p.items.items → q.from ≡ from → q.to ≡ x.to → q.items.items ≡ x.item ∷ []
    → IsPacking from limit (xs ++ x ∷ []) (full ++ p ∷ []) (set last place q)
add_next from limit xs x full last place p q some packing within low is own whole of goes has =
    let below : All (λ r. r.to < p.to) (take place last) = rw own (below_place x.to place last within) in
    rw (set_split last place q low)
    (packing_next from limit xs x full (take place last) (drop (suc place) last) p q some
    (subst (IsPacking from limit xs full) (split_at last place p low is) packing) below own whole of (goes ∙ sym own) has)
