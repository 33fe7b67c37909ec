-- Where a step could overflow.
use Rattle.std.proofs.Common.{◌≡◌, ◌<◌, ◌≤◌, ◌^◌, ◌*◌, ℕ, zero, suc, Bool, true, false, List, [], ◌∷◌, ◌++◌, length, map, sum, Option, Some, None, refl, ap, sym, subst, ◌∙◌, arith}
use Rattle.std.specs.Prelude.{if◌then◌else◌, nat_lt, find}
use Rattle.std.specs.Option.{option_or}
use Rattle.std.proofs.lemmas.Bool.Decides.{nat_tests}
use Rattle.std.proofs.lemmas.List.{length-map}
use Rattle.std.proofs.lemmas.List.Folds.{find-append}
use Rattle.walk_model.specs.Settings.{Settings}
use Rattle.walk_model.specs.Graph.{row, weights_of}
use Rattle.walk_model.specs.Factor.{greatest_factor}
use Rattle.walk_model.specs.Fits.{reach_of}
use Rattle.csr_store.specs.RowGraph.{RowGraph}
use Rattle.csr_store.specs.declared.out_edge.OutEdge.{OutEdge}
use Rattle.csr_store.specs.OutEdges.{out_edge}
use Rattle.vertex_partition.specs.OutWeights.{out_weight}
use Rattle.walk_model.specs.Numbers.{below}
use Rattle.vertex_partition.specs.Reaches.{row_reach}
use Rattle.vertex_partition.proofs.WeightLaws.{out-weights}

-- what is found first among the numbers below a bound
pub found-below : (p : ℕ → Bool) (v n : ℕ) → v < n → find p (below v) ≡ None → p v ≡ true → find p (below n) ≡ Some v
unfolding below
found-below p v zero low none here = absurd (omega arith)
found-below p v (suc n) low none here =
    let cases : (b : Bool) → nat_lt v n ≡ b → find p (below n ++ n ∷ []) ≡ Some v = λ b.
    elim b as (λ t. nat_lt v n ≡ t → find p (below n ++ n ∷ []) ≡ Some v) [
      | true ↦ λ e.
          let less : v < n = grind (arith, nat_tests) in
          find-append p (below n) (n ∷ []) ∙ ap (λ o. option_or o (find p (n ∷ []))) (found-below p v n less none here)
      | false ↦ λ e.
          let same : v ≡ n = grind (arith, nat_tests) in
          find-append p (below n) (n ∷ []) ∙ ap (λ o. option_or o (find p (n ∷ []))) (ap (λ m. find p (below m)) (sym same) ∙ none)
          ∙ ap (λ m. if p m then Some m else None) (sym same) ∙ ap (λ b. if b then Some v else None) here
    ] in
    cases (nat_lt v n) refl

pub below-zero : (p : ℕ → Bool) → find p (below 0) ≡ None
unfolding below
below-zero p = refl

-- one number more, and still none
pub none-below : (p : ℕ → Bool) (n : ℕ) → find p (below n) ≡ None → p n ≡ false → find p (below (suc n)) ≡ None
unfolding below
none-below p n none other =
    find-append p (below n) (n ∷ []) ∙ ap (λ o. option_or o (find p (n ∷ []))) none ∙ ap (λ b. if b then Some n else None) other

-- where none is found, each of the numbers isn't one
pub not-below : (p : ℕ → Bool) (n v : ℕ) → find p (below n) ≡ None → v < n → p v ≡ false
unfolding below
not-below p zero v none low = absurd (omega arith)
not-below p (suc n) v none low =
    let both : option_or (find p (below n)) (find p (n ∷ [])) ≡ None = sym (find-append p (below n) (n ∷ [])) ∙ none in
    let first : find p (below n) ≡ None = none-first (find p (below n)) (find p (n ∷ [])) both in
    let cases : (b : Bool) → nat_lt v n ≡ b → p v ≡ false = λ b.
    elim b as (λ t. nat_lt v n ≡ t → p v ≡ false) [
      | true ↦ λ e. not-below p n v first (let less : v < n = grind (arith, nat_tests) in less)
      | false ↦ λ e.
          let same : v ≡ n = grind (arith, nat_tests) in
          rw same (last (p n) (ap (λ o. option_or o (find p (n ∷ []))) (sym first) ∙ both))
    ] in
    cases (nat_lt v n) refl
  where
    none-first : (o q : Option ℕ) → option_or o q ≡ None → o ≡ None
    none-first None q e = refl
    none-first (Some x) q e = e

    some_none : Some n ≡ None → ⊥
    some_none e = let P : Option ℕ → Type 0 = λ o. elim o as (λ _. Type 0) [ None ↦ ⊥ | Some x ↦ Unit {0} ] in subst P e tt

    last : (b : Bool) → (if b then Some n else None) ≡ None → b ≡ false
    last true e = absurd (some_none e)
    last false e = refl

-- where none overflows, each row is within the bound
pub reach-within : (g : RowGraph) (plan : Settings)
    → find (λ v. nat_lt (2 ^ 62) (row_reach g plan.weighted (greatest_factor plan.rule) v)) (below g.vertices) ≡ None
    → (v : ℕ) → v < g.vertices → reach_of g.edges plan v ≤ 2 ^ 62
reach-within g plan none v low =
    let not : nat_lt (2 ^ 62) (row_reach g plan.weighted (greatest_factor plan.rule) v) ≡ false =
    not-below (λ w. nat_lt (2 ^ 62) (row_reach g plan.weighted (greatest_factor plan.rule) w)) g.vertices v none low in
    grind (arith, nat_tests)

-- what a stored row costs
pub stored-reach : (g : RowGraph) (weighted : Bool) (factor v : ℕ) (out : List OutEdge) → out ≡ map out_edge (row g.edges v)
    → length out * sum (map (out_weight weighted) out) * factor ≡ row_reach g weighted factor v
stored-reach g weighted factor v out stored =
    let weights : map (out_weight weighted) out ≡ weights_of weighted (row g.edges v) =
    ap (map (out_weight weighted)) stored ∙ out-weights weighted (row g.edges v) in
    let long : length out ≡ length (weights_of weighted (row g.edges v)) =
    sym (length-map out (out_weight weighted)) ∙ ap (λ (ws : List ℕ). length ws) weights in
    ap (λ n. n * sum (map (out_weight weighted) out) * factor) long
    ∙ ap (λ (ws : List ℕ). length (weights_of weighted (row g.edges v)) * sum ws * factor) weights
