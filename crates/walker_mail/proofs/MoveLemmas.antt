-- Rearrangements: an item that goes to its place, and lists whose pieces are rearranged.
use Rattle.std.proofs.Common.{◌≡◌, ℕ, zero, suc, ◌<◌, List, [], ◌∷◌, ◌++◌, length, take, drop, get_or, sym, ◌∙◌, ap, arith, append_assoc}
use Rattle.std.proofs.Math.ListN.{set}
use Rattle.std.specs.List.{flat_map, swap}
use Rattle.std.specs.List.Sorted.{IsPermutation}
use Rattle.std.proofs.lemmas.List.{set-get_or, set_split}
use Rattle.std.proofs.lemmas.List.Concat.{flat_map-append}
use Rattle.std.proofs.lemmas.List.Edits.{swap_is}
use Rattle.std.proofs.lemmas.List.Sorted.{IsPermutation-refl, IsPermutation-sym, IsPermutation-trans, IsPermutation-to_front, IsPermutation-middle, IsPermutation-append_left, IsPermutation-append_right, IsPermutation-append_comm, IsPermutation-keeps}

-- an item behind all goes to its place
pub perm_put : {X : Type 0} (s old new front back : List X) (y : X)
    → IsPermutation s old → old ≡ front ++ back → new ≡ front ++ y ∷ back → IsPermutation (s ++ y ∷ []) new
perm_put s old new front back y perm was is =
    let moved : IsPermutation ((front ++ back) ++ y ∷ []) (front ++ y ∷ back) =
    IsPermutation-trans ((front ++ back) ++ y ∷ []) (y ∷ (front ++ back)) (front ++ y ∷ back)
    (IsPermutation-to_front (front ++ back) y) (IsPermutation-sym (front ++ y ∷ back) (y ∷ (front ++ back)) (IsPermutation-middle front y back)) in
    let begun : IsPermutation (s ++ y ∷ []) ((front ++ back) ++ y ∷ []) =
    IsPermutation-append_left (y ∷ []) s (front ++ back) (rw was at perm) in
    rw is (IsPermutation-trans (s ++ y ∷ []) ((front ++ back) ++ y ∷ []) (front ++ y ∷ back) begun moved)

-- two pieces in each other's place
pub blocks_swapped : {X : Type 0} (a b c r : List X) → IsPermutation (a ++ (b ++ (c ++ r))) (c ++ (b ++ (a ++ r)))
blocks_swapped {X} a b c r =
    let turned : IsPermutation (a ++ (b ++ c)) ((b ++ c) ++ a) = IsPermutation-append_comm a (b ++ c) in
    let inner : IsPermutation ((b ++ c) ++ a) ((c ++ b) ++ a) = IsPermutation-append_left a (b ++ c) (c ++ b) (IsPermutation-append_comm b c) in
    let all : IsPermutation ((a ++ (b ++ c)) ++ r) (((c ++ b) ++ a) ++ r) =
    IsPermutation-append_left r (a ++ (b ++ c)) ((c ++ b) ++ a) (IsPermutation-trans (a ++ (b ++ c)) ((b ++ c) ++ a) ((c ++ b) ++ a) turned inner) in
    let left : (a ++ (b ++ c)) ++ r ≡ a ++ (b ++ (c ++ r)) = simp append_assoc in
    let right : ((c ++ b) ++ a) ++ r ≡ c ++ (b ++ (a ++ r)) = simp append_assoc in
    rw (left, right) at all

-- the first one exchanged with another
exchanged : {X A : Type 0} (f : X → List A) (x : X) (xs : List X) (j : ℕ) (d : X) → j < length xs
    → IsPermutation (f x ++ flat_map f xs) (f (get_or xs j d) ++ flat_map f (set xs j x))
exchanged f x xs j d low =
    let y = get_or xs j d in
    let split : xs ≡ take j xs ++ y ∷ drop (suc j) xs = sym (set-get_or xs j d) ∙ set_split xs j y low in
    let before : flat_map f xs ≡ flat_map f (take j xs) ++ (f y ++ flat_map f (drop (suc j) xs)) =
    ap (flat_map f) split ∙ flat_map-append f (take j xs) (y ∷ drop (suc j) xs) in
    let after : flat_map f (set xs j x) ≡ flat_map f (take j xs) ++ (f x ++ flat_map f (drop (suc j) xs)) =
    ap (flat_map f) (set_split xs j x low) ∙ flat_map-append f (take j xs) (x ∷ drop (suc j) xs) in
    rw (after, before) (blocks_swapped (f x) (flat_map f (take j xs)) (f y) (flat_map f (drop (suc j) xs)))

swapped : {X A : Type 0} (f : X → List A) (l : List X) (i j : ℕ) (d : X) → i < length l → j < length l
    → IsPermutation (flat_map f l) (flat_map f (set (set l i (get_or l j d)) j (get_or l i d)))
swapped f [] i j d low high = absurd (omega arith)
swapped f (x ∷ xs) zero zero d low high = IsPermutation-refl (flat_map f (x ∷ xs))
swapped f (x ∷ xs) zero (suc j) d low high = exchanged f x xs j d (omega arith)
swapped f (x ∷ xs) (suc i) zero d low high = exchanged f x xs i d (omega arith)
swapped f (x ∷ xs) (suc i) (suc j) d low high =
    IsPermutation-append_right (f x) (flat_map f xs) (flat_map f (set (set xs i (get_or xs j d)) j (get_or xs i d)))
    (swapped f xs i j d (omega arith) (omega arith))

swap_of : {X A : Type 0} (f : X → List A) (l : List X) (i j : ℕ) → i < length l → j < length l → IsPermutation (flat_map f l) (flat_map f (swap l i j))
swap_of f [] i j low high = absurd (omega arith)
swap_of f (x ∷ xs) i j low high =
    rw (← swap_is (x ∷ xs) i j x low high) (swapped f (x ∷ xs) i j x low high)

-- what rearranged elements are made of is rearranged
pub IsPermutation-flat_map : {X A : Type 0} (f : X → List A) (xs ys : List X) → IsPermutation xs ys → IsPermutation (flat_map f xs) (flat_map f ys)
IsPermutation-flat_map f xs ys perm =
    IsPermutation-keeps xs (λ zs. IsPermutation (flat_map f xs) (flat_map f zs)) (IsPermutation-refl (flat_map f xs))
    (λ l i j low high so_far. IsPermutation-trans (flat_map f xs) (flat_map f l) (flat_map f (swap l i j)) so_far (swap_of f l i j low high)) ys perm
