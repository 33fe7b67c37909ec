-- Lists over the numbers below one more.
use Rattle.std.proofs.Common.{◌≡◌, ℕ, suc, List, [], ◌∷◌, ◌++◌, map, append_assoc, refl, sym, ap, ◌∙◌}
use Rattle.std.specs.List.{flat_map}
use Rattle.std.proofs.lemmas.Grind.{flat_map-append}
use Rattle.std.proofs.lemmas.List.{append-nil, map-append}
use Rattle.walk_model.specs.Numbers.{below}

-- one more item behind
pub map-next : {X : Type 0} (f : ℕ → X) (n m : ℕ) → m ≡ suc n → map f (below m) ≡ map f (below n) ++ f n ∷ []
unfolding below
map-next f n m e = ap (λ k. map f (below k)) e ∙ map-append f (below n) (n ∷ [])

-- one more list behind
pub flat-next : {X : Type 0} (f : ℕ → List X) (n m : ℕ) → m ≡ suc n → flat_map f (below m) ≡ flat_map f (below n) ++ f n
unfolding below
flat-next f n m e =
    ap (λ k. flat_map f (below k)) e ∙ flat_map-append f (below n) (n ∷ []) ∙ ap (λ l. flat_map f (below n) ++ l) (append-nil (f n))

-- no number is below 0
pub map-none : {X : Type 0} (f : ℕ → X) (xs : List X) → xs ≡ xs ++ map f (below 0)
unfolding below
map-none f xs = sym (append-nil xs)

pub flat-none : {X : Type 0} (f : ℕ → List X) → [] ≡ flat_map f (below 0)
unfolding below
flat-none f = refl

-- an item added behind, and a list
pub map-added : {X : Type 0} (f : ℕ → X) (n m : ℕ) (before now next : List X) (x : X) → m ≡ suc n → now ≡ before ++ map f (below n)
    → x ≡ f n → next ≡ now ++ x ∷ [] → next ≡ before ++ map f (below m)
map-added f n m before now next x e so_far is added =
    added ∙ ap (λ l. l ++ x ∷ []) so_far ∙ append_assoc before (map f (below n)) (x ∷ [])
    ∙ ap (λ y. before ++ (map f (below n) ++ y ∷ [])) is ∙ ap (λ l. before ++ l) (sym (map-next f n m e))

pub flat-added : {X : Type 0} (f : ℕ → List X) (n m : ℕ) (now next : List X) → m ≡ suc n → now ≡ flat_map f (below n)
    → next ≡ now ++ f n → next ≡ flat_map f (below m)
flat-added f n m now next e so_far added = added ∙ ap (λ l. l ++ f n) so_far ∙ sym (flat-next f n m e)
