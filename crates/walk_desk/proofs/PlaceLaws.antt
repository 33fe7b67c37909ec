-- Clients and lanes by place.
use Rattle.std.proofs.Common.{◌≡◌, ◌≢◌, ℕ, zero, suc, ◌+◌, ◌<◌, List, [], ◌∷◌, ◌++◌, None, length, map, get_or, drop, take, refl, ap, sym, ◌∙◌, arith, ⊎_elim, subst}
use Rattle.std.specs.List.{AllZip}
use Rattle.std.proofs.Math.ListN.{set}
use Rattle.std.proofs.Math.Seq.{map-set_same}
use Rattle.std.proofs.lemmas.List.{get_or-set_same, get_or-set_other, length-map, take_more}
use Rattle.std.proofs.lemmas.Bool.{cases_eq}
use Rattle.walk_desk.specs.Posts.{Post}
use Rattle.walk_desk.specs.Seats.{Seat, new_seat, new_seats, places_from}

-- a lane served leaves the places as they were
pub places-set : (xs : List Post) (k : ℕ) (old new : Post) → old ≡ get_or xs k old → new.place ≡ old.place → map (λ (p : Post). p.place) (set xs k new) ≡ map (λ (p : Post). p.place) xs
places-set xs k old new at same = map-set_same (λ (p : Post). p.place) xs k new old (same ∙ ap (λ (p : Post). p.place) at)

-- one lane more has no ask that was taken
pub none-set : (xs : List Post) (k : ℕ) (new : Post) → k < length xs → ((j : ℕ) (d : Post) → j < k → (get_or xs j d).taken ≡ None) → new.taken ≡ None → (j : ℕ) (d : Post) → j < k + 1 → (get_or (set xs k new) j d).taken ≡ None
none-set xs k new low before none j d less =
    ⊎_elim
    (λ (e : j ≡ k). rw e (ap (λ (p : Post). p.taken) (get_or-set_same xs k new d low) ∙ none))
    (λ (apart : j ≢ k). ap (λ (p : Post). p.taken) (get_or-set_other xs k j new d apart) ∙ before j d (omega arith))
    (cases_eq j k)

-- one place more
pub places-next : (place n next : ℕ) → next ≡ n + 1 → places_from place next ≡ places_from place n ++ (place + n) ∷ []
places-next place zero next e = let one : next ≡ suc zero = omega arith in let at : place + 0 ≡ place = omega arith in rw (one, at) refl
places-next place (suc n) next e =
    let more : next ≡ suc (n + 1) = omega arith in
    let at : place + suc n ≡ suc place + n = omega arith in
    rw (more, at) (ap (λ z. place ∷ z) (places-next (suc place) n (n + 1) refl))

-- one new client more
pub seats-next : (capacity place n next : ℕ) → next ≡ n + 1 → new_seats capacity place next ≡ new_seats capacity place n ++ new_seat capacity (place + n) ∷ []
seats-next capacity place zero next e = let one : next ≡ suc zero = omega arith in let at : place + 0 ≡ place = omega arith in rw (one, at) refl
seats-next capacity place (suc n) next e =
    let more : next ≡ suc (n + 1) = omega arith in
    let at : place + suc n ≡ suc place + n = omega arith in
    rw (more, at) (ap (λ z. new_seat capacity place ∷ z) (seats-next capacity (suc place) n (n + 1) refl))

-- new clients stand by rising place
pub seats-places : (capacity place n : ℕ) → map (λ (s : Seat). s.place) (new_seats capacity place n) ≡ places_from place n
seats-places capacity place zero = refl
seats-places capacity place (suc n) = ap (λ z. place ∷ z) (seats-places capacity (suc place) n)

-- how many they are
pub seats-length : (capacity place n : ℕ) → length (new_seats capacity place n) ≡ n
seats-length capacity place zero = refl
seats-length capacity place (suc n) = ap suc (seats-length capacity (suc place) n)

pub places-length : (place n : ℕ) → length (places_from place n) ≡ n
places-length place zero = refl
places-length place (suc n) = ap suc (places-length (suc place) n)

-- one member more
map-push : {A B : Type 0} (f : A → B) (xs : List A) (x : A) → map f (xs ++ x ∷ []) ≡ map f xs ++ f x ∷ []
map-push f [] x = refl
map-push f (y ∷ ys) x = ap (λ s. f y ∷ s) (map-push f ys x)

-- one lane more stands at the next place
pub places-push : (xs new : List Post) (p : Post) (n : ℕ) → new ≡ xs ++ p ∷ [] → map (λ (q : Post). q.place) xs ≡ places_from 0 n → p.place ≡ n → map (λ (q : Post). q.place) new ≡ places_from 0 (n + 1)
places-push xs new p n is before at =
    let last : p.place ≡ 0 + n = omega arith in
    ap (map (λ (q : Post). q.place)) is
    ∙ map-push (λ (q : Post). q.place) xs p
    ∙ ap (λ z. z ++ p.place ∷ []) before
    ∙ ap (λ z. places_from 0 n ++ z ∷ []) last
    ∙ sym (places-next 0 n (n + 1) refl)

-- one new client more stands at the next place
pub seats-push : (capacity : ℕ) (xs new : List Seat) (s : Seat) (n : ℕ) → new ≡ xs ++ s ∷ [] → xs ≡ new_seats capacity 0 n → s ≡ new_seat capacity n → new ≡ new_seats capacity 0 (n + 1)
seats-push capacity xs new s n is before at =
    let zero_on : n ≡ 0 + n = omega arith in
    is
    ∙ ap (λ z. z ++ s ∷ []) before
    ∙ ap (λ z. new_seats capacity 0 n ++ z ∷ []) (at ∙ ap (new_seat capacity) zero_on)
    ∙ sym (seats-next capacity 0 n (n + 1) refl)

-- the place of one of the clients that stand by rising place
pub place-at : (xs : List Seat) (s : Seat) (k place n : ℕ) → map (λ (q : Seat). q.place) xs ≡ places_from place n → k < length xs → s ≡ get_or xs k s → s.place ≡ place + k
place-at [] s k place n at low is = absurd (omega arith)
place-at (x ∷ xs) s k place zero at low is = let e : suc (length xs) ≡ 0 = sym (length-map (x ∷ xs) (λ (q : Seat). q.place)) ∙ ap length at in absurd (omega arith)
place-at (x ∷ xs) s zero place (suc n) at low is =
    let first : x.place ≡ place = ap (λ z. get_or z 0 place) at in
    let flat : place ≡ place + 0 = omega arith in
    ap (λ (q : Seat). q.place) is ∙ first ∙ flat
place-at (x ∷ xs) s (suc k) place (suc n) at low is =
    let there = place-at xs s k (suc place) n (ap (drop 1) at) (omega arith) is in
    omega arith

-- there is a first lane where more places are to come
pub lane-left : (xs : List Post) (place n : ℕ) → map (λ (q : Post). q.place) xs ≡ places_from place n → length xs ≡ n
lane-left xs place n at = sym (length-map xs (λ (q : Post). q.place)) ∙ ap length at ∙ places-length place n

-- the first lane, and those behind it
pub lane-first : (xs : List Post) (p : Post) (place n : ℕ) → map (λ (q : Post). q.place) xs ≡ places_from place n → 0 < n → p ≡ get_or xs 0 p → p.place ≡ place
lane-first [] p place n at more is = let e = lane-left [] place n at in absurd (omega arith)
lane-first (x ∷ xs) p place zero at more is = absurd (omega arith)
lane-first (x ∷ xs) p place (suc n) at more is = ap (λ (q : Post). q.place) is ∙ ap (λ z. get_or z 0 place) at

pub lanes-behind : (xs : List Post) (place n next : ℕ) → n ≡ next + 1 → map (λ (q : Post). q.place) xs ≡ places_from place n → map (λ (q : Post). q.place) (drop 1 xs) ≡ places_from (place + 1) next
lanes-behind [] place n next e at = let long = lane-left [] place n at in absurd (omega arith)
lanes-behind (x ∷ xs) place n next e at =
    let more : n ≡ suc next = omega arith in
    let on : place + 1 ≡ suc place = omega arith in
    rw on (ap (drop 1) (at ∙ ap (places_from place) more))

-- one pair more
pub zip-more : {A B : Type 0} (R : A → B → Type 0) (xs : List A) (ys new : List B) (x : A) (y : B) → AllZip R xs ys → R x y → new ≡ ys ++ y ∷ [] → AllZip R (xs ++ x ∷ []) new
zip-more {A} {B} R xs ys new x y all one is = subst (λ z. AllZip R (xs ++ x ∷ []) z) (sym is) (push xs ys all)
  where
    push : (xs : List A) (ys : List B) → AllZip R xs ys → AllZip R (xs ++ x ∷ []) (ys ++ y ∷ [])
    push [] [] all = (one, tt)
    push [] (b ∷ ys) all = absurd all
    push (a ∷ xs) [] all = absurd all
    push (a ∷ xs) (b ∷ ys) all = (all.0, push xs ys all.1)

-- clients so far that stand by rising place, and the next one
pub seats-more : (xs : List Seat) (k : ℕ) (s : Seat) → k < length xs → s ≡ get_or xs k s → map (λ (q : Seat). q.place) (take k xs) ≡ places_from 0 k → s.place ≡ k → map (λ (q : Seat). q.place) (take (k + 1) xs) ≡ places_from 0 (k + 1)
seats-more xs k s low is before at =
    let last : s.place ≡ 0 + k = omega arith in
    let more : take (k + 1) xs ≡ take k xs ++ s ∷ [] = sym (ap (λ z. take k xs ++ z ∷ []) is ∙ sym (take_more xs k s low)) in
    ap (map (λ (q : Seat). q.place)) more
    ∙ map-push (λ (q : Seat). q.place) (take k xs) s
    ∙ ap (λ z. z ++ s.place ∷ []) before
    ∙ ap (λ z. places_from 0 k ++ z ∷ []) last
    ∙ sym (places-next 0 k (k + 1) refl)
