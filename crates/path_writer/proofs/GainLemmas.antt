-- What sinks gain, piece by piece.
use Rattle.std.proofs.Common.{◌≡◌, ℕ, zero, suc, ◌+◌, ◌<◌, List, [], ◌∷◌, ◌++◌, length, take, drop, get_or, map, Option, Some, None, refl, ap, sym, ◌∙◌, append_assoc, add-one, arith}
use Rattle.std.proofs.lemmas.List.{append-nil}
use Rattle.std.specs.List.{concat}
use Rattle.std.specs.Io.KnownBytes.{append_known}
use Rattle.path_writer.specs.Gains.{GainsFront}

pub append_known-none : (o : Option (List ℕ)) → append_known o [] ≡ o
append_known-none None = refl
append_known-none (Some bs) = ap (λ (x : List ℕ). Some x) (append-nil bs)

pub append_known-twice : (o : Option (List ℕ)) (a b : List ℕ) → append_known (append_known o a) b ≡ append_known o (a ++ b)
append_known-twice None a b = refl
append_known-twice (Some bs) a b = ap (λ (x : List ℕ). Some x) (append_assoc bs a b)

take-nothing : (k : ℕ) → take {A = ℕ} k [] ≡ []
take-nothing zero = refl
take-nothing (suc k) = refl

pub take-more : (i k n : ℕ) (xs : List ℕ) → n ≡ i + k → take i xs ++ take k (drop i xs) ≡ take n xs
take-more zero k n xs e = let same : n ≡ k = omega arith in rw same refl
take-more (suc i) k zero xs e = absurd (omega arith)
take-more (suc i) k (suc n) [] e = take-nothing k
take-more (suc i) k (suc n) (x ∷ xs) e = ap (λ l. x ∷ l) (take-more i k n xs (omega arith))

-- a part is in front of the whole
pub front-first : (old new : Option (List ℕ)) (text front rest : List ℕ) → text ≡ front ++ rest → new ≡ append_known old front → GainsFront old new text
front-first old new text front rest is gained = record { front = front; rest = rest; is = is; gained = gained }

-- nothing is in front of all
pub front-nothing : (old new : Option (List ℕ)) (text : List ℕ) → new ≡ old → GainsFront old new text
front-nothing old new text same = record { front = []; rest = text; is = refl; gained = same ∙ sym (append_known-none old) }

-- the front of a part that comes after another part
pub front-after : (old mid new : Option (List ℕ)) (text done piece rest : List ℕ) → text ≡ done ++ (piece ++ rest) → mid ≡ append_known old done
    → GainsFront mid new piece → GainsFront old new text
front-after old mid new text done piece rest is gained part = record {
  front = done ++ part.front;
  rest = part.rest ++ rest;
  is = is ∙ ap (λ p. done ++ (p ++ rest)) part.is ∙ ap (λ l. done ++ l) (append_assoc part.front part.rest rest) ∙ sym (append_assoc done part.front (part.rest ++ rest));
  gained = part.gained ∙ ap (λ o. append_known o part.front) gained ∙ append_known-twice old done part.front;
}

-- a piece more
pub gained-after : (old mid new : Option (List ℕ)) (done piece more : List ℕ) → more ≡ done ++ piece → mid ≡ append_known old done
    → new ≡ append_known mid piece → new ≡ append_known old more
gained-after old mid new done piece more is gained next =
    next ∙ ap (λ o. append_known o piece) gained ∙ append_known-twice old done piece ∙ ap (append_known old) (sym is)

-- a list of pieces, cut at one of them
pub concat-map-at : {X : Type 0} (f : X → List ℕ) (xs : List X) (i : ℕ) (d : X) → i < length xs
    → concat (map f xs) ≡ concat (map f (take i xs)) ++ (f (get_or xs i d) ++ concat (map f (drop (suc i) xs)))
concat-map-at f [] i d there = absurd (omega arith)
concat-map-at f (x ∷ xs) zero d there = refl
concat-map-at f (x ∷ xs) (suc i) d there =
    ap (λ l. f x ++ l) (concat-map-at f xs i d (omega arith)) ∙ sym (append_assoc (f x) (concat (map f (take i xs))) (f (get_or xs i d) ++ concat (map f (drop (suc i) xs))))

-- one piece more of a list of pieces
pub concat-map-more : {X : Type 0} (f : X → List ℕ) (xs : List X) (i : ℕ) (d : X) → i < length xs
    → concat (map f (take (suc i) xs)) ≡ concat (map f (take i xs)) ++ f (get_or xs i d)
concat-map-more f [] i d there = absurd (omega arith)
concat-map-more f (x ∷ xs) zero d there = append-nil (f x)
concat-map-more f (x ∷ xs) (suc i) d there =
    ap (λ l. f x ++ l) (concat-map-more f xs i d (omega arith)) ∙ sym (append_assoc (f x) (concat (map f (take i xs))) (f (get_or xs i d)))

-- bytes one by one, cut at one of them
pub map-at : (f : ℕ → ℕ) (xs : List ℕ) (i d : ℕ) → i < length xs → map f xs ≡ map f (take i xs) ++ ((f (get_or xs i d) ∷ []) ++ map f (drop (suc i) xs))
map-at f [] i d there = absurd (omega arith)
map-at f (x ∷ xs) zero d there = refl
map-at f (x ∷ xs) (suc i) d there = ap (λ l. f x ∷ l) (map-at f xs i d (omega arith))

-- one piece more of a list of pieces after a text
pub pieces-more : {X : Type 0} (f : X → List ℕ) (before : List ℕ) (xs : List X) (i : ℕ) (d : X) → i < length xs
    → before ++ concat (map f (take (i + 1) xs)) ≡ (before ++ concat (map f (take i xs))) ++ f (get_or xs i d)
pieces-more f before xs i d there =
    rw add-one (ap (λ l. before ++ l) (concat-map-more f xs i d there) ∙ sym (append_assoc before (concat (map f (take i xs))) (f (get_or xs i d))))

-- a list of pieces after a text, cut behind one of them
pub pieces-at : {X : Type 0} (f : X → List ℕ) (before : List ℕ) (xs : List X) (i : ℕ) (d : X) → i < length xs
    → before ++ concat (map f xs) ≡ ((before ++ concat (map f (take i xs))) ++ f (get_or xs i d)) ++ concat (map f (drop (suc i) xs))
pieces-at f before xs i d there =
    ap (λ l. before ++ l) (concat-map-at f xs i d there)
    ∙ sym (append_assoc before (concat (map f (take i xs))) (f (get_or xs i d) ++ concat (map f (drop (suc i) xs))))
    ∙ sym (append_assoc (before ++ concat (map f (take i xs))) (f (get_or xs i d)) (concat (map f (drop (suc i) xs))))
