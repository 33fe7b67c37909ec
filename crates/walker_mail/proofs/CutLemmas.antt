-- A list cut after each so many items, when an item comes behind it.
use Rattle.std.proofs.Common.{◌≡◌, ℕ, ◌+◌, ◌<◌, ◌≤◌, Bool, false, List, [], ◌∷◌, ◌++◌, length, get_or, refl, sym, ◌∙◌, ap, subst, arith, length-append, append_assoc}
use Rattle.std.specs.Prelude.{All, filter}
use Rattle.std.specs.List.{flat_map}
use Rattle.std.proofs.lemmas.List.{get_or_append_left, append-nil}
use Rattle.std.proofs.lemmas.List.Concat.{flat_map-append}
use Rattle.std.proofs.lemmas.List.Elements.{All-nil, All-head, All-tail, All-push}
use Rattle.walker_mail.specs.Packing.{IsCut}

-- what holds of each element of two lists one after another holds of the first
pub All-front : {X : Type 0} (P : X → Type 0) (xs ys : List X) → All P (xs ++ ys) → All P xs
All-front P xs ys all k d low =
    subst P (get_or_append_left xs ys d k low) (all k d (omega (arith, length-append xs ys)))

-- and of the second
pub All-back : {X : Type 0} (P : X → Type 0) (xs ys : List X) → All P (xs ++ ys) → All P ys
All-back P [] ys all = all
All-back P (x ∷ xs) ys all = All-back P xs ys (All-tail P x (xs ++ ys) all)

-- the last one of a list
pub All-end : {X : Type 0} (P : X → Type 0) (xs : List X) (y : X) → All P (xs ++ y ∷ []) → P y
All-end P xs y all = All-head P y [] (All-back P xs (y ∷ []) all)

-- a test that fails at each element keeps none
pub filter_none : {X : Type 0} (p : X → Bool) (xs : List X) → All (λ x. p x ≡ false) xs → filter p xs ≡ []
filter_none p [] none = refl
filter_none p (x ∷ xs) none =
    let here : p x ≡ false = All-head (λ y. p y ≡ false) x xs none in
    rw here (filter_none p xs (All-tail (λ y. p y ≡ false) x xs none))

-- nothing is cut into no piece
pub cut_none : {I : Type 0} (limit : ℕ) → IsCut {I = I} limit [] []
cut_none limit = record {
  whole = refl;
  some = All-nil _;
  most = All-nil _;
  full = λ k d low. absurd (omega arith);
}

-- behind pieces that are all full, an item begins a new one
pub cut_more : {I : Type 0} (limit : ℕ) (xs : List I) (x : I) (pieces : List (List I))
    → 1 ≤ limit → IsCut limit xs pieces → All (λ piece. limit ≤ length piece) pieces
    → IsCut limit (xs ++ x ∷ []) (pieces ++ (x ∷ []) ∷ [])
cut_more {I} limit xs x pieces room c filled = record {
  whole = rw (flat_map-append (λ (piece : List I). piece) pieces ((x ∷ []) ∷ [])) (rw c.whole refl);
  some = All-push (λ (piece : List I). 1 ≤ length piece) pieces (x ∷ []) c.some (omega arith);
  most = All-push (λ (piece : List I). length piece ≤ limit) pieces (x ∷ []) c.most room;
  full = λ k d low.
      let within : k < length pieces = omega (arith, length-append pieces ((x ∷ []) ∷ [])) in
      let least : limit ≤ length (get_or pieces k d) = filled k d within in
      let greatest : length (get_or pieces k d) ≤ limit = c.most k d within in
      rw (get_or_append_left pieces ((x ∷ []) ∷ []) d k within) (omega arith);
}

-- in the last piece, where that has room
pub cut_grow : {I : Type 0} (limit : ℕ) (xs : List I) (x : I) (pieces : List (List I)) (piece : List I)
    → length piece < limit → IsCut limit xs (pieces ++ piece ∷ [])
    → IsCut limit (xs ++ x ∷ []) (pieces ++ (piece ++ x ∷ []) ∷ [])
cut_grow {I} limit xs x pieces piece room c =
    let before : flat_map (λ (p : List I). p) pieces ++ piece ≡ xs =
    sym (flat_map-append (λ (p : List I). p) pieces (piece ∷ []) ∙ ap (λ (l : List I). flat_map (λ (p : List I). p) pieces ++ l) (append-nil piece)) ∙ c.whole in
    let after : flat_map (λ (p : List I). p) (pieces ++ (piece ++ x ∷ []) ∷ []) ≡ flat_map (λ (p : List I). p) pieces ++ (piece ++ x ∷ []) =
    flat_map-append (λ (p : List I). p) pieces ((piece ++ x ∷ []) ∷ []) ∙ ap (λ (l : List I). flat_map (λ (p : List I). p) pieces ++ l) (append-nil (piece ++ x ∷ [])) in
    let long : length (piece ++ x ∷ []) ≡ length piece + 1 = length-append piece (x ∷ []) in
    record {
      whole = after ∙ sym (append_assoc (flat_map (λ (p : List I). p) pieces) piece (x ∷ [])) ∙ ap (λ (l : List I). l ++ x ∷ []) before;
      some = All-push (λ (p : List I). 1 ≤ length p) pieces (piece ++ x ∷ []) (All-front (λ (p : List I). 1 ≤ length p) pieces (piece ∷ []) c.some) (omega arith);
      most = All-push (λ (p : List I). length p ≤ limit) pieces (piece ++ x ∷ []) (All-front (λ (p : List I). length p ≤ limit) pieces (piece ∷ []) c.most) (omega arith);
      full = λ k d low.
          let within : k < length pieces = omega (arith, length-append pieces ((piece ++ x ∷ []) ∷ [])) in
          let was : length (get_or (pieces ++ piece ∷ []) k d) ≡ limit = c.full k d (omega (arith, length-append pieces (piece ∷ []))) in
          let old : length (get_or pieces k d) ≡ limit = rw (get_or_append_left pieces (piece ∷ []) d k within) at was in
          rw (get_or_append_left pieces ((piece ++ x ∷ []) ∷ []) d k within) old;
    }
