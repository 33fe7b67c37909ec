-- Ranks keep the order of names, and the name at the place of a rank is the name.
use Rattle.std.proofs.Common.{◌≡◌, ℕ, suc, ◌+◌, ◌^◌, ◌<◌, ◌≤◌, ◌||◌, Bool, true, false, cond, List, [], ◌∷◌, ◌++◌, length, map, take, drop, get_or, refl, arith, ap, sym, subst, ◌∙◌}
use Rattle.std.specs.Prelude.{nat_lt, ◌==◌, slice_index, All, IsTrue}
use Rattle.std.specs.List.Sorted.{IsStrictlyIncreasing}
use Rattle.std.proofs.lemmas.Bool.{false≢true, eq-eqb, ne_eqb, eqb-true, eqb-false}
use Rattle.std.proofs.lemmas.Bool.Decides.{nat_tests}
use Rattle.std.proofs.lemmas.List.Elements.{All-head, All-tail, All-map}
use Rattle.std.proofs.lemmas.List.{take_all, drop_all, append-nil, get_or_default}
use Rattle.std.proofs.lemmas.List.Folds.{list_any_at, Any-from_list_any}
use Rattle.std.proofs.lemmas.List.Sums.{count_by-le-length}
use Rattle.walk_model.specs.declared.graph.Edge.{Edge}
use Rattle.walk_model.proofs.RenameLemmas.{Keeps, EndsIn}
use Rattle.vertex_names.proofs.IndexLemmas.{rank-at}
use Rattle.walk_model.specs.Graph.{vertices_of}
use Rattle.vertex_names.specs.declared.names.Names.TheInside.{Inside}
use Rattle.vertex_names.specs.Known.{AreKept}
use Rattle.vertex_names.specs.Ranks.{is_name, rank_in, ranked, AreNamed}
use Rattle.vertex_names.proofs.RisingLemmas.{is_name-vertices}
use Rattle.vertex_names.proofs.ListLemmas.{count_by-cons}

-- below a greater number there are no fewer names
rank-mono : (names : List ℕ) (x y : ℕ) → x ≤ y → rank_in names x ≤ rank_in names y
rank-mono [] x y h = omega arith
rank-mono (z ∷ zs) x y h =
    rw (count_by-cons (λ n. nat_lt n x) z zs, count_by-cons (λ n. nat_lt n y) z zs)
    (let rest = rank-mono zs x y h in
    let here : cond (nat_lt z x) 1 0 ≤ cond (nat_lt z y) 1 0 = grind (arith, nat_tests) in
    omega arith)

-- and more, where the lesser one is a name
pub rank-less : (names : List ℕ) (x y : ℕ) → is_name names x ≡ true → x < y → rank_in names x < rank_in names y
rank-less [] x y is h = absurd (false≢true is)
rank-less (z ∷ zs) x y is h =
    rw (count_by-cons (λ n. nat_lt n x) z zs, count_by-cons (λ n. nat_lt n y) z zs)
    (let here : cond (nat_lt z x) 1 0 ≤ cond (nat_lt z y) 1 0 = grind (arith, nat_tests) in
    let cases : (b : Bool) → (z == x) ≡ b → cond (nat_lt z x) 1 0 + rank_in zs x < cond (nat_lt z y) 1 0 + rank_in zs y = λ b.
    elim b as (λ b. (z == x) ≡ b → cond (nat_lt z x) 1 0 + rank_in zs x < cond (nat_lt z y) 1 0 + rank_in zs y) [
      | true ↦ λ e.
          let no : nat_lt z x ≡ false = grind (arith, nat_tests) in
          let yes : nat_lt z y ≡ true = grind (arith, nat_tests) in
          rw (no, yes) (let rest = rank-mono zs x y (omega arith) in omega arith)
      | false ↦ λ e.
          let later : is_name zs x ≡ true = rw e at is in
          let rest = rank-less zs x y later h in omega arith
    ] in
    cases (z == x) refl)

-- two names have two ranks
apart : (names : List ℕ) (x y : ℕ) → is_name names x ≡ true → is_name names y ≡ true → (x ≡ y → ⊥)
    → rank_in names x ≡ rank_in names y → ⊥
apart names x y hx hy ne same =
    let cases : (b : Bool) → nat_lt x y ≡ b → ⊥ = λ b.
    elim b as (λ b. nat_lt x y ≡ b → ⊥) [
      | true ↦ λ e. let up = rank-less names x y hx (grind (arith, nat_tests)) in absurd (omega arith)
      | false ↦ λ e.
          let above : y ≤ x = grind (arith, nat_tests) in
          let more : y < x = omega arith in
          let down = rank-less names y x hy more in absurd (omega arith)
    ] in
    cases (nat_lt x y) refl

-- the ranks of names keep the order of the names
pub ranks-keep : (names : List ℕ) → Keeps (rank_in names) (λ x. IsTrue (is_name names x))
ranks-keep names = record {
  below = λ x y hx hy. (
      let cases : (b : Bool) → nat_lt x y ≡ b → nat_lt (rank_in names x) (rank_in names y) ≡ b = λ b.
      elim b as (λ b. nat_lt x y ≡ b → nat_lt (rank_in names x) (rank_in names y) ≡ b) [
        | true ↦ λ e. let up = rank-less names x y hx (grind (arith, nat_tests)) in grind (arith, nat_tests)
        | false ↦ λ e. let down = rank-mono names y x (grind (arith, nat_tests)) in grind (arith, nat_tests)
      ] in
      cases (nat_lt x y) refl);
  same = λ x y hx hy. (
      let cases : (b : Bool) → (x == y) ≡ b → (rank_in names x == rank_in names y) ≡ b = λ b.
      elim b as (λ b. (x == y) ≡ b → (rank_in names x == rank_in names y) ≡ b) [
        | true ↦ λ e. eq-eqb (rank_in names x) (rank_in names y) (ap (rank_in names) (eqb-true x y e))
        | false ↦ λ e. ne_eqb (rank_in names x) (rank_in names y) (λ z. apart names x y hx hy (eqb-false x y e) z)
      ] in
      cases (x == y) refl);
}

-- named edges have their ends among the names
pub ends-in : (names : List ℕ) (edges : List Edge) → AreNamed names edges → EndsIn (λ x. IsTrue (is_name names x)) edges
ends-in names [] h = tt
ends-in names (e ∷ es) h =
    let P : Edge → Type 0 = λ d. IsTrue (is_name names d.src) × IsTrue (is_name names d.dst) in
    let head = All-head (λ (d : Edge). IsTrue (is_name names d.src) × IsTrue (is_name names d.dst)) e es h in
    (head.0, head.1, ends-in names es (All-tail (λ (d : Edge). IsTrue (is_name names d.src) × IsTrue (is_name names d.dst)) e es h))

-- the vertices of edges name their ends
pub vertices-name : (edges : List Edge) → AreNamed (vertices_of edges) edges
vertices-name edges = λ k d h.
    (let P : Edge → ℕ → Bool = λ e x. e.src == x || e.dst == x in
    let e = get_or edges k d in (
      is_name-vertices edges (get_or edges k d).src ∙ list_any_at (λ (e : Edge). e.src == (get_or edges k d).src || e.dst == (get_or edges k d).src) edges k d h
          (one (get_or edges k d).src (get_or edges k d).dst),
      is_name-vertices edges (get_or edges k d).dst ∙ list_any_at (λ (e : Edge). e.src == (get_or edges k d).dst || e.dst == (get_or edges k d).dst) edges k d h
          (other (get_or edges k d).src (get_or edges k d).dst),
    ))
  where
    one : (x y : ℕ) → (x == x || y == x) ≡ true
    one x y = let yes : (x == x) ≡ true = grind (arith, nat_tests) in rw yes refl

    other : (x y : ℕ) → (x == y || y == y) ≡ true
    other x y =
        let yes : (y == y) ≡ true = grind (arith, nat_tests) in
        rw yes (elim (x == y) as (λ b. (b || true) ≡ true) [ true ↦ refl | false ↦ refl ])

-- the rank of a name is a place
pub rank-within : (names : List ℕ) (x : ℕ) → is_name names x ≡ true → rank_in names x < length names
rank-within [] x is = absurd (false≢true is)
rank-within (z ∷ zs) x is =
    rw (count_by-cons (λ n. nat_lt n x) z zs)
    (let most = count_by-le-length (λ n. nat_lt n x) zs in
    let cases : (b : Bool) → (z == x) ≡ b → cond (nat_lt z x) 1 0 + rank_in zs x < suc (length zs) = λ b.
    elim b as (λ b. (z == x) ≡ b → cond (nat_lt z x) 1 0 + rank_in zs x < suc (length zs)) [
      | true ↦ λ e. let no : nat_lt z x ≡ false = grind (arith, nat_tests) in rw no (omega arith)
      | false ↦ λ e.
          let later : is_name zs x ≡ true = rw e at is in
          let rest = rank-within zs x later in
          let one : cond (nat_lt z x) 1 0 ≤ 1 = grind (arith, nat_tests) in
          omega arith
    ] in
    cases (z == x) refl)

-- ranked edges have their ends below the number of names
pub ranked-ends : (names : List ℕ) (edges : List Edge) → AreNamed names edges
    → All (λ e. (e.src < length names) × (e.dst < length names)) (map (ranked names) edges)
ranked-ends names edges h =
    All-map (λ (e : Edge). (e.src < length names) × (e.dst < length names)) (ranked names) edges
    (λ k d b. (rank-within names (get_or edges k d).src (h k d b).0, rank-within names (get_or edges k d).dst (h k d b).1))

-- and the weights of the edges
pub ranked-weights : (names : List ℕ) (edges : List Edge) → All (λ e. (1 ≤ e.weight) × (e.weight < 2 ^ 62)) edges
    → All (λ e. (1 ≤ e.weight) × (e.weight < 2 ^ 62)) (map (ranked names) edges)
ranked-weights names edges h =
    All-map (λ (e : Edge). (1 ≤ e.weight) × (e.weight < 2 ^ 62)) (ranked names) edges h

-- once the first ones are all, all edges are ranked
pub all-ranked : (names : List ℕ) (old edges : List Edge) (i : ℕ) → length old ≤ i
    → edges ≡ map (ranked names) (take i old) ++ drop i old → edges ≡ map (ranked names) old
all-ranked names old edges i h is =
    let front : take i old ≡ old = take_all i old h in
    let rest : drop i old ≡ [] = drop_all i old h in
    is ∙ rw (front, rest) (append-nil (map (ranked names) old))

-- the name at the place of a rank is the name
pub name-at_rank : (names : List ℕ) (x : ℕ) → IsStrictlyIncreasing names → IsTrue (is_name names x)
    → slice_index names (rank_in names x) ≡ x
name-at_rank names x up is =
    let found = Any-from_list_any (λ y. y == x) names is in
    let k = found.0 in
    let read : slice_index names found.0 ≡ x =
    get_or_default names found.0 0 found.1 found.2 ∙ found.3 ∙ eqb-true found.1 x found.4 in
    ap (slice_index names) (rank-at names found.0 x up found.2 read) ∙ read

-- names that follow each other from 0 are their own ranks
pub rank-itself : (names : List ℕ) → IsStrictlyIncreasing names → ((k : ℕ) → k < length names → slice_index names k ≡ k)
    → (id : ℕ) → IsTrue (is_name names id) → rank_in names id ≡ id
rank-itself names up close id is =
    sym (close (rank_in names id) (rank-within names id is)) ∙ name-at_rank names id up is

-- edges between names that are their own ranks stay what they are
pub ranked-itself : (names : List ℕ) → ((id : ℕ) → IsTrue (is_name names id) → rank_in names id ≡ id)
    → (edges : List Edge) → AreNamed names edges → map (ranked names) edges ≡ edges
ranked-itself names same [] h = refl
ranked-itself names same (e ∷ es) h =
    let head = All-head (λ (d : Edge). IsTrue (is_name names d.src) × IsTrue (is_name names d.dst)) e es h in
    let rest = ranked-itself names same es (All-tail (λ (d : Edge). IsTrue (is_name names d.src) × IsTrue (is_name names d.dst)) e es h) in
    rw (same e.src head.0, same e.dst head.1) (ap (λ l. e ∷ l) rest)

-- kept names that follow each other from 0 are their own ranks
pub ranks_own : (a : Inside) (names : List ℕ) → AreKept a → a.ids.items ≡ names → a.dense ≡ true → a.first ≡ 0
    → (id : ℕ) → IsTrue (is_name names id) → rank_in names id ≡ id
ranks_own a names kept is dense least id named =
    rank-itself names (subst IsStrictlyIncreasing is kept.rising)
    (λ k h. (let at = kept.close dense k (subst (λ l. k < length l) (sym is) h) in
    let read : slice_index a.ids.items k ≡ slice_index names k = ap (λ l. slice_index l k) is in omega arith)) id named
