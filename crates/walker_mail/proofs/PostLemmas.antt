-- Items of parcels: how many, and in reverse.
use Rattle.std.proofs.Common.{◌≡◌, ℕ, ◌+◌, ◌<◌, ◌≤◌, List, [], ◌∷◌, ◌++◌, map, length, take, drop, get_or, refl, sym, ◌∙◌, ap, arith, length-append}
use Rattle.std.proofs.Math.ListN.{set}
use Rattle.std.specs.Prelude.{reverse}
use Rattle.std.specs.List.{flat_map}
use Rattle.std.proofs.lemmas.List.{drop_more, length-map, append-nil, map-append, map-set, get_or-map, reverse-append, take_all, drop_all}
use Rattle.std.proofs.lemmas.List.Concat.{flat_map-append}
use Rattle.std.proofs.lemmas.List.Edits.{map_over_more}
use Rattle.walk_model.specs.declared.messages.Letter.{Letter}
use Rattle.walker_mail.specs.declared.parcels.Parcel.{Parcel}
use Rattle.walker_mail.specs.Posts.{posted_item, items_of, all_items, letters_of}

-- the items of the parcels from one on are its own and those of the parcels behind it
pub length_more : {I : Type 0} (ps : List (Parcel I)) (i : ℕ) (d : Parcel I) → i < length ps
    → length (all_items (drop i ps)) ≡ length (get_or ps i d).items.items + length (all_items (drop (i + 1) ps))
length_more ps i d low =
    let p = get_or ps i d in
    rw (drop_more ps i d low, length-append (items_of p) (all_items (drop (i + 1) ps)), length-map p.items.items (posted_item p.from p.to)) refl

-- a list's map, the other way round
pub map_reverse : {X Y : Type 0} (f : X → Y) (xs : List X) → map f (reverse xs) ≡ reverse (map f xs)
map_reverse f [] = refl
map_reverse f (x ∷ xs) =
    rw (reverse-append (x ∷ []) xs, reverse-append (f x ∷ []) (map f xs), map-append f (reverse xs) (x ∷ [])) (rw (map_reverse f xs) refl)

-- the letters of a parcel's items
pub letters_of_parcel : {I : Type 0} (description : I → Letter) (from to : ℕ) (items : List I) → letters_of description (map (posted_item from to) items) ≡ map description items
letters_of_parcel description from to [] = refl
letters_of_parcel description from to (x ∷ xs) = ap (λ l. description x ∷ l) (letters_of_parcel description from to xs)

-- one parcel more is turned round
pub turned_more : {I : Type 0} (old ps : List (Parcel I)) (i : ℕ) (p q : Parcel I) → i < length old → length ps ≡ length old
    → map items_of ps ≡ map reverse (take i (map items_of old)) ++ drop i (map items_of old) → p ≡ get_or ps i p
    → q.from ≡ p.from → q.to ≡ p.to → q.items.items ≡ reverse p.items.items
    → map items_of (set ps i q) ≡ map reverse (take (i + 1) (map items_of old)) ++ drop (i + 1) (map items_of old)
turned_more {I} old ps i p q low long so_far is of goes has =
    let turned : items_of q ≡ reverse (items_of p) = rw (of, goes, has) (map_reverse (posted_item p.from p.to) p.items.items) in
    let read : items_of p ≡ get_or (map items_of ps) i (items_of p) = ap items_of is ∙ sym (get_or-map items_of ps i p (items_of p) (omega arith)) in
    rw (map-set items_of ps i q, turned)
    (map_over_more reverse (map items_of old) (map items_of ps) i (items_of p) (omega (arith, length-map old (items_of {I = I}))) so_far read)

-- pieces turned round one by one and then all together
turned_whole : {X A : Type 0} (f : X → List A) (ps : List X) (pieces : List (List A)) → map f ps ≡ map reverse pieces
    → flat_map f (reverse ps) ≡ reverse (flat_map (λ piece. piece) pieces)
turned_whole f [] [] same = refl
turned_whole f [] (y ∷ ys) same = cc
turned_whole f (p ∷ ps) [] same = cc
turned_whole f (p ∷ ps) (y ∷ ys) same =
    let first : f p ≡ reverse y = cc in
    let rest : map f ps ≡ map reverse ys = cc in
    rw (reverse-append (p ∷ []) ps, flat_map-append f (reverse ps) (p ∷ []), append-nil (f p), reverse-append y (flat_map (λ piece. piece) ys), first)
    (rw (turned_whole f ps ys rest) refl)

joined_pieces : {X A : Type 0} (f : X → List A) (xs : List X) → flat_map (λ piece. piece) (map f xs) ≡ flat_map f xs
joined_pieces f [] = refl
joined_pieces f (x ∷ xs) = ap (λ l. f x ++ l) (joined_pieces f xs)

-- all parcels are turned round
pub turned_all : {I : Type 0} (old ps : List (Parcel I)) (i : ℕ) → length old ≤ i
    → map items_of ps ≡ map reverse (take i (map items_of old)) ++ drop i (map items_of old) → all_items (reverse ps) ≡ reverse (all_items old)
turned_all {I} old ps i past so_far =
    let pieces = map items_of old in
    let far : length pieces ≤ i = omega (arith, length-map old (items_of {I = I})) in
    let whole : map items_of ps ≡ map reverse pieces =
    so_far ∙ rw (take_all i pieces far, drop_all i pieces far) (append-nil (map reverse pieces)) in
    turned_whole items_of ps pieces whole ∙ ap reverse (joined_pieces items_of old)
