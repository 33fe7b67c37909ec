-- Lists under a map, an insert or a filter.
use Rattle.std.proofs.Common.{◌≡◌, ℕ, zero, suc, ◌+◌, Bool, true, false, cond, List, [], ◌∷◌, map, refl, ap, ◌||◌}
use Rattle.std.specs.Prelude.{filter, insert, count_by}
use Rattle.std.specs.List.{list_any}
use Rattle.std.proofs.lemmas.List.Sums.{sum_by-cons}

pub map-insert : {X Y : Type 0} (f : X → Y) (xs : List X) (i : ℕ) (x : X) → map f (insert xs i x) ≡ insert (map f xs) i (f x)
map-insert f xs zero x = refl
map-insert f [] (suc i) x = refl
map-insert f (y ∷ ys) (suc i) x = ap (λ l. f y ∷ l) (map-insert f ys i x)

pub map-map : {X Y Z : Type 0} (f : Y → Z) (g : X → Y) (xs : List X) → map f (map g xs) ≡ map (λ x. f (g x)) xs
map-map f g [] = refl
map-map f g (x ∷ xs) = ap (λ l. f (g x) ∷ l) (map-map f g xs)

pub map-same : {X Y : Type 0} (f g : X → Y) → ((x : X) → f x ≡ g x) → (xs : List X) → map f xs ≡ map g xs
map-same f g e [] = refl
map-same f g e (x ∷ xs) = rw (e x) (ap (λ l. g x ∷ l) (map-same f g e xs))

pub map-itself : {X : Type 0} (f : X → X) → ((x : X) → f x ≡ x) → (xs : List X) → map f xs ≡ xs
map-itself f e [] = refl
map-itself f e (x ∷ xs) = rw (e x) (ap (λ l. x ∷ l) (map-itself f e xs))

pub count_by-cons : {X : Type 0} (p : X → Bool) (x : X) (xs : List X) → count_by p (x ∷ xs) ≡ cond (p x) 1 0 + count_by p xs
count_by-cons p x xs = sum_by-cons (λ y. cond (p y) 1 0) x xs

pub count_by-map : {X Y : Type 0} (p : Y → Bool) (f : X → Y) (xs : List X) → count_by p (map f xs) ≡ count_by (λ x. p (f x)) xs
count_by-map p f [] = refl
count_by-map p f (x ∷ xs) =
    rw (count_by-cons p (f x) (map f xs), count_by-cons (λ x. p (f x)) x xs, count_by-map p f xs) refl

pub filter-map : {X Y : Type 0} (p : Y → Bool) (f : X → Y) (xs : List X) → filter p (map f xs) ≡ map f (filter (λ x. p (f x)) xs)
filter-map p f [] = refl
filter-map p f (x ∷ xs) =
    elim (p (f x)) as (λ b. cond b (f x ∷ filter p (map f xs)) (filter p (map f xs))
    ≡ map f (cond b (x ∷ filter (λ x. p (f x)) xs) (filter (λ x. p (f x)) xs))) [
      | true ↦ ap (λ l. f x ∷ l) (filter-map p f xs)
      | false ↦ filter-map p f xs
    ]

pub list_any-map : {X Y : Type 0} (p : Y → Bool) (f : X → Y) (xs : List X) → list_any p (map f xs) ≡ list_any (λ x. p (f x)) xs
list_any-map p f [] = refl
list_any-map p f (x ∷ xs) = ap (λ b. p (f x) || b) (list_any-map p f xs)

-- either of two and a third, in another order
or_exchange : (a b c : Bool) → (a || (b || c)) ≡ (b || (a || c))
or_exchange true true c = refl
or_exchange true false c = refl
or_exchange false b c = refl

pub list_any-insert : {X : Type 0} (p : X → Bool) (xs : List X) (i : ℕ) (x : X) → list_any p (insert xs i x) ≡ (p x || list_any p xs)
list_any-insert p xs zero x = refl
list_any-insert p [] (suc i) x = refl
list_any-insert p (y ∷ ys) (suc i) x =
    rw (list_any-insert p ys i x) (or_exchange (p y) (p x) (list_any p ys))
