-- Shards that are dealt out to workers, and come back in their order.
use Rattle.std.proofs.Common.{◌≡◌, ℕ, zero, suc, ◌+◌, ◌<◌, ◌%◌, nat_eq, true, false, if◌then◌else◌, List, [], ◌∷◌, ◌++◌, length, take, drop, get_or, set, refl, ap, arith, eq-eqb, add-zero, inl, inr}
use Rattle.std.specs.Prelude.{All}
use Rattle.std.specs.List.{AllZip}
use Rattle.std.proofs.lemmas.Bool.{ne_eqb}
use Rattle.std.proofs.lemmas.Bool.Decides.{eqb_tells}
use Rattle.std.proofs.lemmas.Grind.{get_or-set_at}
use Rattle.std.proofs.lemmas.List.{get_or-set_other}
use Rattle.std.proofs.lemmas.List.Elements.{All-cons, All-head, All-tail}
use Rattle.std.proofs.lemmas.Slice.Zip.{all_zipped_more}
use Rattle.superstep.specs.declared.seats.Seat.{Seat}
use Rattle.superstep.specs.Rounding.{HasTurned}
use Rattle.superstep.specs.Share.{share}

-- one more thing goes to the worker of its number
share-more_true : {A : Type 0} (worker workers from : ℕ) (xs : List A) (x : A) → nat_eq ((from + length xs) % workers) worker ≡ true
    → share worker workers from (xs ++ x ∷ []) ≡ share worker workers from xs ++ x ∷ []
share-more_true worker workers from [] x here =
    let at : nat_eq (from % workers) worker ≡ true = rw add-zero at here in
    rw at refl
share-more_true worker workers from (y ∷ ys) x here =
    let move : from + length (y ∷ ys) ≡ suc from + length ys = omega arith in
    let later : nat_eq ((suc from + length ys) % workers) worker ≡ true = rw (← move) here in
    let e = share-more_true worker workers (suc from) ys x later in
    elim (nat_eq (from % workers) worker) as (λ b. (if b then y ∷ share worker workers (suc from) (ys ++ x ∷ []) else share worker workers (suc from) (ys ++ x ∷ [])) ≡ (if b then y ∷ share worker workers (suc from) ys else share worker workers (suc from) ys) ++ x ∷ []) [ true ↦ ap (λ s. y ∷ s) e | false ↦ e ]

share-more_false : {A : Type 0} (worker workers from : ℕ) (xs : List A) (x : A) → nat_eq ((from + length xs) % workers) worker ≡ false
    → share worker workers from (xs ++ x ∷ []) ≡ share worker workers from xs
share-more_false worker workers from [] x here =
    let at : nat_eq (from % workers) worker ≡ false = rw add-zero at here in
    rw at refl
share-more_false worker workers from (y ∷ ys) x here =
    let move : from + length (y ∷ ys) ≡ suc from + length ys = omega arith in
    let later : nat_eq ((suc from + length ys) % workers) worker ≡ false = rw (← move) here in
    let e = share-more_false worker workers (suc from) ys x later in
    elim (nat_eq (from % workers) worker) as (λ b. (if b then y ∷ share worker workers (suc from) (ys ++ x ∷ []) else share worker workers (suc from) (ys ++ x ∷ [])) ≡ (if b then y ∷ share worker workers (suc from) ys else share worker workers (suc from) ys)) [ true ↦ ap (λ s. y ∷ s) e | false ↦ e ]

pub share-more : {A : Type 0} (worker workers n : ℕ) (xs : List A) (x : A) → n ≡ length xs → n % workers ≡ worker
    → share worker workers 0 (xs ++ x ∷ []) ≡ share worker workers 0 xs ++ x ∷ []
share-more worker workers n xs x count here =
    share-more_true worker workers 0 xs x (eq-eqb ((0 + length xs) % workers) worker (let e : 0 + length xs ≡ n = omega arith in rw e here))

-- and to no other
pub share-same : {A : Type 0} (worker workers n : ℕ) (xs : List A) (x : A) → n ≡ length xs → (n % workers ≡ worker → ⊥)
    → share worker workers 0 (xs ++ x ∷ []) ≡ share worker workers 0 xs
share-same worker workers n xs x count other =
    share-more_false worker workers 0 xs x (ne_eqb ((0 + length xs) % workers) worker (let e : 0 + length xs ≡ n = omega arith in rw e other))

-- the front of what is left of a list
drop-has : {A : Type 0} (k : ℕ) (xs : List A) → k < length xs → (x : A) × (drop k xs ≡ x ∷ drop (suc k) xs) × (take (suc k) xs ≡ take k xs ++ x ∷ [])
drop-has k [] low = absurd (omega arith)
drop-has zero (x ∷ xs) low = (x, refl, refl)
drop-has (suc k) (x ∷ xs) low =
    let r = drop-has k xs (omega arith) in
    (r.0, r.1, ap (λ s. x ∷ s) r.2)

-- what stands beside a list that begins with x
zip-begins : (x : Seat) (xs : List Seat) (ys : List Seat) → AllZip HasTurned (x ∷ xs) ys
    → (y : Seat) × (zs : List Seat) × (ys ≡ y ∷ zs) × HasTurned x y × AllZip HasTurned xs zs
zip-begins x xs [] all = absurd all
zip-begins x xs (y ∷ zs) all = (y, zs, refl, all.0, all.1)

-- the next shard of the worker whose turn it is, after its round
pub share-next : (w workers k : ℕ) (seats : List Seat) (ys : List Seat) → k < length seats → k % workers ≡ w
    → AllZip HasTurned (share w workers k (drop k seats)) ys
    → (y : Seat) × (zs : List Seat) × (ys ≡ y ∷ zs)
    × ((before : List Seat) → AllZip HasTurned (take k seats) before → AllZip HasTurned (take (suc k) seats) (before ++ y ∷ []))
    × AllZip HasTurned (share w workers (suc k) (drop (suc k) seats)) zs
share-next w workers k seats ys low here all =
    let r = drop-has k seats low in
    let test : nat_eq (k % workers) w ≡ true = eq-eqb (k % workers) w here in
    let cut : share w workers k (drop k seats) ≡ r.0 ∷ share w workers (suc k) (drop (suc k) seats) = rw r.1 (rw test refl) in
    let zipped : AllZip HasTurned (r.0 ∷ share w workers (suc k) (drop (suc k) seats)) ys = rw cut at all in
    let b = zip-begins r.0 (share w workers (suc k) (drop (suc k) seats)) ys zipped in
    (b.0, b.1, b.2, (λ before done. rw r.2 (all_zipped_more HasTurned (take k seats) before r.0 b.0 done b.3)), b.4)

-- the other workers keep theirs
pub share-skip : (w workers k : ℕ) (seats : List Seat) (ys : List Seat) → k < length seats → (k % workers ≡ w → ⊥)
    → AllZip HasTurned (share w workers k (drop k seats)) ys → AllZip HasTurned (share w workers (suc k) (drop (suc k) seats)) ys
share-skip w workers k seats ys low other all =
    let r = drop-has k seats low in
    let test : nat_eq (k % workers) w ≡ false = ne_eqb (k % workers) w other in
    let cut : share w workers k (drop k seats) ≡ share w workers (suc k) (drop (suc k) seats) = rw r.1 (rw test refl) in
    rw cut at all

-- a fact of each row of a list, one of which was replaced
pub set-row : {A : Type 0} (P : A → Type 0) (rows : List A) (p w : ℕ) (v d : A) → p < length rows → (w ≡ p → P v)
    → ((w ≡ p → ⊥) → P (get_or rows w d)) → P (get_or (set rows p v) w d)
set-row P rows p w v d low same other =
    elim (eqb_tells w p) [
      | inl here ↦ rw (get_or-set_at rows p w v d here.1 low) (same here.1)
      | inr there ↦ rw (get_or-set_other rows p w v d there.1) (other there.1)
    ]

-- what holds of two lists at a place
pub zip-at : {A B : Type 0} (R : A → B → Type 0) (xs : List A) (ys : List B) (i : ℕ) (d : A) (e : B) → AllZip R xs ys → i < length xs
    → R (get_or xs i d) (get_or ys i e)
zip-at R [] ys i d e all low = absurd (omega arith)
zip-at R (x ∷ xs) [] i d e all low = absurd all
zip-at R (x ∷ xs) (y ∷ ys) zero d e all low = all.0
zip-at R (x ∷ xs) (y ∷ ys) (suc i) d e all low = zip-at R xs ys i d e all.1 (omega arith)

-- what holds of all things holds of those of each worker
pub share-all : {A : Type 0} (P : A → Type 0) (worker workers from : ℕ) (xs : List A) → All P xs → All P (share worker workers from xs)
share-all P worker workers from [] h = h
share-all P worker workers from (x ∷ xs) h =
    let rest = share-all P worker workers (suc from) xs (All-tail P x xs h) in
    elim (nat_eq (from % workers) worker) as (λ b. All P (if b then x ∷ share worker workers (suc from) xs else share worker workers (suc from) xs))
    [ true ↦ All-cons P x (share worker workers (suc from) xs) (All-head P x xs h) rest | false ↦ rest ]
