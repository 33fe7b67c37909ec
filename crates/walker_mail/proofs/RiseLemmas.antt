-- Parcels by strictly rising addressee.
use Rattle.std.proofs.Common.{◌≡◌, ℕ, zero, suc, ◌<◌, false, List, [], ◌∷◌, ◌++◌, get_or, arith}
use Rattle.std.specs.Prelude.{All, ◌==◌}
use Rattle.std.specs.List.Sorted.{IsNonDecreasingBy}
use Rattle.std.proofs.lemmas.Bool.{ne_eqb}
use Rattle.std.proofs.lemmas.List.Elements.{All-cons, All-head, All-tail, All-append, All-weaker}
use Rattle.walker_mail.specs.declared.parcels.Parcel.{Parcel}
use Rattle.walker_mail.specs.Packing.{Rises, parcels_to}
use Rattle.walker_mail.proofs.CutLemmas.{All-front, All-back, filter_none}

-- rising addressees don't fall
pub rises_far : {I : Type 0} (ps : List (Parcel I)) → Rises ps → IsNonDecreasingBy (λ p. p.to) ps
rises_far [] rises i j d le low = absurd (omega arith)
rises_far (p ∷ ps) rises zero zero d le low = omega arith
rises_far {I} (p ∷ ps) rises zero (suc j) d le low =
    let above : p.to < (get_or ps j d).to = rises.0 j d (omega arith) in omega arith
rises_far (p ∷ ps) rises (suc i) zero d le low = absurd (omega arith)
rises_far (p ∷ ps) rises (suc i) (suc j) d le low = rises_far ps rises.1 i j d (omega arith) (omega arith)

-- those behind a parcel are above it
pub rises_behind : {I : Type 0} (front back : List (Parcel I)) (p : Parcel I) → Rises (front ++ p ∷ back) → All (λ q. p.to < q.to) back
rises_behind [] back p rises = rises.0
rises_behind (q ∷ front) back p rises = rises_behind front back p rises.1

-- another parcel of the same addressee in the place of one
pub rises_put : {I : Type 0} (front back : List (Parcel I)) (p q : Parcel I) → q.to ≡ p.to → Rises (front ++ p ∷ back) → Rises (front ++ q ∷ back)
rises_put [] back p q same rises = (rw same rises.0, rises.1)
rises_put {I} (r ∷ front) back p q same rises =
    let Above : Parcel I → Type 0 = λ s. r.to < s.to in
    let rest : All Above (p ∷ back) = All-back Above front (p ∷ back) rises.0 in
    let first : r.to < p.to = All-head Above p back rest in (
      All-append Above front (q ∷ back) (All-front Above front (p ∷ back) rises.0) (All-cons Above q back (omega arith) (All-tail Above p back rest)),
      rises_put front back p q same rises.1,
    )

-- a parcel between those below it and those above it
pub rises_in : {I : Type 0} (front back : List (Parcel I)) (q : Parcel I) → All (λ r. r.to < q.to) front → All (λ r. q.to < r.to) back → Rises (front ++ back) → Rises (front ++ q ∷ back)
rises_in [] back q below above rises = (above, rises)
rises_in {I} (r ∷ front) back q below above rises =
    let Above : Parcel I → Type 0 = λ s. r.to < s.to in
    let Below : Parcel I → Type 0 = λ s. s.to < q.to in
    let here : r.to < q.to = All-head Below r front below in (
      All-append Above front (q ∷ back) (All-front Above front back rises.0) (All-cons Above q back here (All-back Above front back rises.0)),
      rises_in front back q (All-tail Below r front below) above rises.1,
    )

-- none of the parcels below an addressee is its own, and none above it
pub none_below : {I : Type 0} (a : ℕ) (ps : List (Parcel I)) → All (λ p. p.to < a) ps → parcels_to a ps ≡ []
none_below {I} a ps below =
    filter_none (λ (p : Parcel I). p.to == a) ps
    (All-weaker (λ (p : Parcel I). p.to < a) (λ (p : Parcel I). (p.to == a) ≡ false) (λ p less. ne_eqb p.to a (λ same. absurd (omega arith))) ps below)

pub none_above : {I : Type 0} (a : ℕ) (ps : List (Parcel I)) → All (λ p. a < p.to) ps → parcels_to a ps ≡ []
none_above {I} a ps above =
    filter_none (λ (p : Parcel I). p.to == a) ps
    (All-weaker (λ (p : Parcel I). a < p.to) (λ (p : Parcel I). (p.to == a) ≡ false) (λ p more. ne_eqb p.to a (λ same. absurd (omega arith))) ps above)
