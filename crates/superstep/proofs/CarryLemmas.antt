-- Items that are given out and items that come weigh alike in a sound world.
use Rattle.std.proofs.Common.{◌≡◌, ℕ, List, [], ◌∷◌, ◌++◌, map, refl, arith}
use Rattle.std.proofs.lemmas.List.Sums.{sum_by-cons, sum_by-append}
use Rattle.walk_model.specs.declared.messages.Ask.{Ask}
use Rattle.traveller.specs.PartedRuns.{PartedRun}
use Rattle.traveller.specs.Walkers.{Walker}
use Rattle.world_law.specs.Items.{Item}
use Rattle.world_law.specs.Soundness.{of_walker, of_open, of_sent, of_print, steps_made, IsTruePiece, IsSound}
use Rattle.world_law.specs.Worlds.{Piece, Comes, Goes, Same}
use Rattle.world_law.proofs.LeadLemmas.{sound-same}

-- two pieces weigh alike, whatever a sound world weighs them by, and the second is as true as the first
pub record AreAlike (g : PartedRun) (p q : Piece) : Type 0 where
  pub walkers : (f : Walker → ℕ) → of_walker f q ≡ of_walker f p
  pub opens : (f : Ask → ℕ) → of_open g.owner f q ≡ of_open g.owner f p
  pub sents : (f : Ask → ℕ) → of_sent f q ≡ of_sent f p
  pub prints : (f : ℕ → ℕ → ℕ) → of_print f q ≡ of_print f p
  pub holds : IsTruePiece g p → IsTruePiece g q

alike-sound : (g : PartedRun) (p q : Piece) (others : List Piece) → AreAlike g p q → IsSound g (p ∷ others) → IsSound g (q ∷ others)
alike-sound g p q others alike h = record {
  numbers = λ f.
      let w : Piece → ℕ = of_walker (λ v. f v.number) in
      omega (arith, h.numbers f, alike.walkers (λ v. f v.number), sum_by-cons w p others, sum_by-cons w q others);
  asks = λ f.
      omega (
        arith,
        h.asks f,
        alike.opens f,
        alike.sents f,
        sum_by-cons (of_open g.owner f) p others,
        sum_by-cons (of_open g.owner f) q others,
        sum_by-cons (of_sent f) p others,
        sum_by-cons (of_sent f) q others,
      );
  prints = λ f.
      omega (
        arith,
        h.prints f,
        alike.prints f,
        alike.walkers (steps_made f),
        sum_by-cons (of_print f) p others,
        sum_by-cons (of_print f) q others,
        sum_by-cons (of_walker (steps_made f)) p others,
        sum_by-cons (of_walker (steps_made f)) q others,
      );
  pieces = (alike.holds h.pieces.0, h.pieces.1);
}

-- a piece goes behind others
turned : (p : Piece) (xs ys : List Piece) → Same (p ∷ (xs ++ ys)) (xs ++ (p ∷ ys))
turned p xs ys = λ h. omega (arith, sum_by-cons h p (xs ++ ys), sum_by-append h xs ys, sum_by-append h xs (p ∷ ys), sum_by-cons h p ys)

turned_back : (p : Piece) (xs ys : List Piece) → Same (xs ++ (p ∷ ys)) (p ∷ (xs ++ ys))
turned_back p xs ys = λ h. omega (arith, turned p xs ys h)

-- items as other pieces that weigh alike
all-alike : (g : PartedRun) (a b : Item → Piece) → ((i : Item) → AreAlike g (a i) (b i)) → (is : List Item) (others : List Piece)
    → IsSound g (map a is ++ others) → IsSound g (map b is ++ others)
all-alike g a b alike [] others h = h
all-alike g a b alike (i ∷ is) others h =
    let one = alike-sound g (a i) (b i) (map a is ++ others) (alike i) h in
    let behind = sound-same g (b i ∷ (map a is ++ others)) (map a is ++ (b i ∷ others)) (turned (b i) (map a is) others) one in
    let rest = all-alike g a b alike is (b i ∷ others) behind in
    sound-same g (map b is ++ (b i ∷ others)) (b i ∷ (map b is ++ others)) (turned_back (b i) (map b is) others) rest

pub sound-comes : (g : PartedRun) (is : List Item) (others : List Piece) → IsSound g (map Goes is ++ others) → IsSound g (map Comes is ++ others)
sound-comes g is others h =
    all-alike g Goes Comes (λ i. record { walkers = λ f. refl; opens = λ f. refl; sents = λ f. refl; prints = λ f. refl; holds = λ t. t }) is others h

pub sound-goes : (g : PartedRun) (is : List Item) (others : List Piece) → IsSound g (map Comes is ++ others) → IsSound g (map Goes is ++ others)
sound-goes g is others h =
    all-alike g Comes Goes (λ i. record { walkers = λ f. refl; opens = λ f. refl; sents = λ f. refl; prints = λ f. refl; holds = λ t. t }) is others h
