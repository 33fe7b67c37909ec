-- A list of results that are all well, and what stands at each of its places.
use Rattle.std.proofs.Common.{◌≡◌, ◌<◌, ℕ, suc, zero, List, [], ◌∷◌, length, map, get_or, refl, ap, arith}
use Rattle.std.specs.Prelude.{Vec, Result, Ok, Err, MatchResult, IfOk, Contains}
use Rattle.std.specs.List.{AllZip}
use Rattle.std.specs.declared.alloc.Global.{Global}

zip-ok : (E : Type 0) (vs : List ℕ) (weights : ℕ → List ℕ) (ys : List (List ℕ))
    → AllZip (λ v (r : Result (List ℕ) E). IfOk r (λ t. t ≡ weights v)) vs (map Ok ys) → AllZip (λ v t. t ≡ weights v) vs ys
zip-ok E [] weights [] h = tt
zip-ok E [] weights (y ∷ ys) h = absurd h
zip-ok E (v ∷ vs) weights [] h = absurd h
zip-ok E (v ∷ vs) weights (y ∷ ys) h = (h.0, zip-ok E vs weights ys h.1)

-- where all results are well, their list is what they hold
pub all-ok : {E : Type 0} (vs : List ℕ) (weights : ℕ → List ℕ) (xs : List (Result (List ℕ) E)) (r : Result (Vec (List ℕ) Global) E)
    → AllZip (λ v (r : Result (List ℕ) E). IfOk r (λ t. t ≡ weights v)) vs xs
    → MatchResult r (λ c. (ys : List (List ℕ)) × (xs ≡ map Ok ys) × (c.items ≡ ys)) (λ e. Contains xs (Err e))
    → IfOk r (λ ts. AllZip (λ v t. t ≡ weights v) vs ts.items)
all-ok {E} vs weights xs (Ok ts) zip is = rw is.2 (zip-ok E vs weights is.0 (rw is.1 at zip))
all-ok {E} vs weights xs (Err e) zip is = tt

-- as many tables as vertices
pub zip-long : (vs : List ℕ) (weights : ℕ → List ℕ) (ts : List (List ℕ)) → AllZip (λ v t. t ≡ weights v) vs ts → length ts ≡ length vs
zip-long [] weights [] h = refl
zip-long [] weights (t ∷ ts) h = absurd h
zip-long (v ∷ vs) weights [] h = absurd h
zip-long (v ∷ vs) weights (t ∷ ts) h = ap suc (zip-long vs weights ts h.1)

-- and each is that of the vertex at its place
pub zip-at : (vs : List ℕ) (weights : ℕ → List ℕ) (ts : List (List ℕ)) (k : ℕ) (d : List ℕ) → AllZip (λ v t. t ≡ weights v) vs ts
    → k < length vs → get_or ts k d ≡ weights (get_or vs k 0)
zip-at [] weights ts k d h low = absurd (omega (arith, low))
zip-at (v ∷ vs) weights [] k d h low = absurd h
zip-at (v ∷ vs) weights (t ∷ ts) zero d h low = h.0
zip-at (v ∷ vs) weights (t ∷ ts) (suc k) d h low = zip-at vs weights ts k d h.1 (omega arith)
