-- A part owns the vertices between its cuts.
use Rattle.std.proofs.Common.{◌≡◌, ℕ, zero, suc, ◌+◌, ◌<◌, ◌≤◌, Bool, true, false, List, [], ◌∷◌, length, get_or, refl, arith, sym, ◌∙◌, inl, inr}
use Rattle.std.specs.Prelude.{nat_le, nat_lt}
use Rattle.std.specs.List.Sorted.{IsNonDecreasing, IsPartitionPoint}
use Rattle.std.proofs.lemmas.Bool.{cases_lt}
use Rattle.std.proofs.lemmas.Bool.Decides.{nat_tests}
use Rattle.std.proofs.lemmas.List.{get_or_default, get_or_past}
use Rattle.std.proofs.lemmas.List.Sums.{count_by-le-length}
use Rattle.walk_model.specs.Cuts.{owner}
use Rattle.csr_store.proofs.ListLemmas.{count_by-cons}
use Rattle.csr_store.proofs.SearchLemmas.{count-from_point}
use Rattle.vertex_partition.specs.CutViews.{begin_of, end_of}

-- no cut lies at or before a vertex where the first doesn't
owner-none : (c v : ℕ) (cs : List ℕ) → v < c → IsNonDecreasing (c ∷ cs) → owner cs v ≡ 0
owner-none c v [] low up = refl
owner-none c v (d ∷ cs) low up =
    let more : c ≤ d = up 0 1 0 (omega arith) (omega arith) in
    let no : nat_le d v ≡ false = grind (arith, nat_tests) in
    let rest = owner-none d v cs (omega (arith, low, more)) (λ i j e le within. up (suc i) (suc j) e (omega (arith, le)) (omega (arith, within))) in
    rw (count_by-cons (λ c. nat_le c v) d cs, no) (omega (arith, rest))

-- a cut lies at or before a vertex exactly where its place is below the number of the owner
pub owner-above : (cuts : List ℕ) (v i : ℕ) → IsNonDecreasing cuts → i < length cuts
    → nat_lt i (owner cuts v) ≡ nat_le (get_or cuts i 0) v
owner-above [] v i up low = absurd (omega (arith, low))
owner-above (c ∷ cs) v i up low =
    let rest : IsNonDecreasing cs = λ k j e le within. up (suc k) (suc j) e (omega (arith, le)) (omega (arith, within)) in
    let cases : (b : Bool) → nat_le c v ≡ b → (i : ℕ) → i < suc (length cs)
    → nat_lt i (owner (c ∷ cs) v) ≡ nat_le (get_or (c ∷ cs) i 0) v = λ b.
    elim b as (λ b. nat_le c v ≡ b → (i : ℕ) → i < suc (length cs) → nat_lt i (owner (c ∷ cs) v) ≡ nat_le (get_or (c ∷ cs) i 0) v) [
      | true ↦ λ h i. elim i as (λ i. i < suc (length cs) → nat_lt i (owner (c ∷ cs) v) ≡ nat_le (get_or (c ∷ cs) i 0) v) [
        | zero ↦ λ within.
            let some : nat_lt 0 (1 + owner cs v) ≡ true = grind (arith, nat_tests) in
            rw (count_by-cons (λ c. nat_le c v) c cs, h) some
        | suc k ↦ λ within.
            let there : k < length cs = omega (arith, within) in
            let less : nat_lt (suc k) (1 + owner cs v) ≡ nat_lt k (owner cs v) = grind (arith, nat_tests) in
            rw (count_by-cons (λ c. nat_le c v) c cs, h) (less ∙ owner-above cs v k rest there)
      ]
      | false ↦ λ h i within.
          let high : v < c = grind (arith, nat_tests) in
          let none : owner (c ∷ cs) v ≡ 0 = (let rest = owner-none c v cs high up in rw (count_by-cons (λ c. nat_le c v) c cs, h) (omega (arith, rest))) in
          let more : c ≤ get_or (c ∷ cs) i 0 = up 0 i 0 (omega arith) within in
          let no : nat_le (get_or (c ∷ cs) i 0) v ≡ false = grind (arith, nat_tests) in
          let zeroth : nat_lt i 0 ≡ false = grind (arith, nat_tests) in
          rw (none, no) zeroth
    ] in
    cases (nat_le c v) refl i low

-- the vertices that a part owns lie between its cuts
pub owned-from : (cuts : List ℕ) (v part : ℕ) → IsNonDecreasing cuts → owner cuts v ≡ part → begin_of cuts part ≤ v
owned-from cuts v zero up is = omega arith
owned-from cuts v (suc k) up is =
    let most = count_by-le-length (λ c. nat_le c v) cuts in
    let there : k < length cuts = omega (arith, most, is) in
    let below : nat_lt k (owner cuts v) ≡ true = grind (arith, nat_tests) in
    let at : nat_le (get_or cuts k 0) v ≡ true = sym (owner-above cuts v k up there) ∙ below in
    grind (arith, nat_tests)

pub owned-to : (vertices : ℕ) (cuts : List ℕ) (v part : ℕ) → IsNonDecreasing cuts → v < vertices → owner cuts v ≡ part
    → v < end_of vertices cuts part
owned-to vertices cuts v part up low is =
    elim (cases_lt part (length cuts)) [
      | inl there ↦
          let not : nat_lt part (owner cuts v) ≡ false = grind (arith, nat_tests) in
          let above : nat_le (get_or cuts part 0) v ≡ false = sym (owner-above cuts v part up there) ∙ not in
          let high : v < get_or cuts part 0 = grind (arith, nat_tests) in
          rw (get_or_default cuts part vertices 0 there) high
      | inr past ↦ rw (get_or_past cuts part vertices past) low
    ]

-- and it owns those that do
pub owned-between : (vertices : ℕ) (cuts : List ℕ) (v part : ℕ) → IsNonDecreasing cuts → part ≤ length cuts
    → begin_of cuts part ≤ v → v < end_of vertices cuts part → owner cuts v ≡ part
owned-between vertices cuts v part up low from to =
    let most = count_by-le-length (λ c. nat_le c v) cuts in
    let least : part ≤ owner cuts v = first cuts v part up low from in
    elim (cases_lt part (length cuts)) [
      | inl there ↦
          let high : v < get_or cuts part 0 = rw (get_or_default cuts part vertices 0 there) at to in
          let above : nat_le (get_or cuts part 0) v ≡ false = grind (arith, nat_tests) in
          let not : nat_lt part (owner cuts v) ≡ false = owner-above cuts v part up there ∙ above in
          grind (arith, nat_tests)
      | inr past ↦ omega (arith, past, most, least)
    ]
  where
    first : (cuts : List ℕ) (v part : ℕ) → IsNonDecreasing cuts → part ≤ length cuts → begin_of cuts part ≤ v → part ≤ owner cuts v
    first cuts v zero up low from = omega arith
    first cuts v (suc k) up low from =
        let at : nat_le (get_or cuts k 0) v ≡ true = grind (arith, nat_tests) in
        let below : nat_lt k (owner cuts v) ≡ true = owner-above cuts v k up (omega (arith, low)) ∙ at in
        grind (arith, nat_tests)

-- what a search for the owner finds
pub owner-found : (cuts : List ℕ) (v i : ℕ) → i ≤ length cuts
    → IsPartitionPoint (λ c. nat_le c v ≡ true) (λ c. nat_le c v ≡ false) cuts i → i ≡ owner cuts v
owner-found cuts v i h point = count-from_point (λ c. nat_le c v) cuts i h point
