-- What a part owns lies in its range, and what it keeps are the rows of its vertices.
use Rattle.std.proofs.Common.{◌≡◌, ℕ, ◌+◌, ◌<◌, ◌≤◌, Bool, true, false, List, [], ◌∷◌, ◌++◌, length, get_or, refl, arith, ap, inl, inr}
use Rattle.std.specs.Prelude.{◌==◌, nat_lt, nat_le, ◌&&◌}
use Rattle.std.proofs.lemmas.Bool.{cases_lt}
use Rattle.std.proofs.lemmas.Bool.Decides.{nat_tests}
use Rattle.std.proofs.lemmas.List.{get_or_append_left, get_or_push}
use Rattle.walk_model.specs.declared.graph.Edge.{Edge}
use Rattle.walk_model.specs.Graph.{row, has_edge, weights_of}
use Rattle.walk_model.specs.Cuts.{owner}
use Rattle.csr_store.specs.RowGraph.{RowGraph, RangeGraph, IsIn, HoldsRange, mark_of}
use Rattle.vertex_partition.specs.CutViews.{CutView, AreCuts, begin_of, end_of}
use Rattle.vertex_partition.specs.StoredParts.{HoldsPart}
use Rattle.vertex_partition.specs.Tabled.{HasTable}
use Rattle.vertex_partition.specs.PartViews.{PartView, Owns, IsPart}
use Rattle.vertex_partition.proofs.OwnerLaws.{owned-from, owned-to, owned-between}

-- the part of a range
abbrev pub view_of : ℕ → Bool → CutView → RangeGraph → PartView
view_of part weighted cuts rows = record { part = part; cuts = cuts.cuts; weighted = weighted; vertices = rows.vertices; edges = rows.edges }

-- a vertex that a part owns lies in its range
pub held : (part : ℕ) (weighted : Bool) (cuts : CutView) (rows : RangeGraph) (tables : List (List ℕ)) (v : ℕ)
    → HoldsPart part weighted cuts rows tables → Owns (view_of part weighted cuts rows) v → IsIn rows v
held part weighted cuts rows tables v h owns =
    let first = h.first_is in
    let end = h.end_is in
    let all = h.vertices in
    let low = owns.below in
    let from = owned-from cuts.cuts v part h.cuts_are.rising owns.owner_is in
    let to = owned-to cuts.vertices cuts.cuts v part h.cuts_are.rising (omega (arith, low, all)) owns.owner_is in
    (omega (arith, first, from), omega (arith, end, to))

-- the rows that are copied for a part are its rows
pub part-copied : (edges : List Edge) (vertices : ℕ) (weighted : Bool) (cuts : CutView) (part : ℕ) (rows : RangeGraph)
    → AreCuts cuts.vertices cuts.cuts → part ≤ length cuts.cuts → vertices ≡ cuts.vertices
    → HoldsRange edges vertices (begin_of cuts.cuts part) (end_of cuts.vertices cuts.cuts part) rows
    → IsPart (record { edges = edges; vertices = vertices }) weighted cuts.cuts part (view_of part weighted cuts rows)
part-copied edges vertices weighted cuts part rows are low all held = record {
  part = refl;
  cuts_are = refl;
  weights = refl;
  of_graph = record {
    vertices = held.vertices;
    rows = λ v owns. held.rows v (from v owns) (to v owns);
    has = λ t x owns. held.has t x (from t owns) (to t owns);
  };
  only = λ k d h. (let e = held.only k d h in owned-between cuts.vertices cuts.cuts _ part are.rising low e.0 e.1);
}
  where
    from : (v : ℕ) → Owns (view_of part weighted cuts rows) v → begin_of cuts.cuts part ≤ v
    from v owns = owned-from cuts.cuts v part are.rising owns.owner_is

    to : (v : ℕ) → Owns (view_of part weighted cuts rows) v → v < end_of cuts.vertices cuts.cuts part
    to v owns =
        let n = held.vertices in
        let below = owns.below in
        owned-to cuts.vertices cuts.cuts v part are.rising (omega (arith, n, below, all)) owns.owner_is

-- without cuts the one part has all rows
pub part-whole : (g : RowGraph) (weighted : Bool) (cuts : CutView) (rows : RangeGraph) → length cuts.cuts ≡ 0
    → rows.edges ≡ g.edges → rows.vertices ≡ g.vertices → IsPart g weighted cuts.cuts 0 (view_of 0 weighted cuts rows)
part-whole g weighted cuts rows none edges vertices = record {
  part = refl;
  cuts_are = refl;
  weights = refl;
  of_graph = record {
    vertices = vertices;
    rows = λ v owns. ap (λ es. row es v) edges;
    has = λ t x owns. ap (λ es. has_edge es t x) edges;
  };
  only = λ k d h. first cuts.cuts none _;
}
  where
    first : (cuts : List ℕ) → length cuts ≡ 0 → (v : ℕ) → owner cuts v ≡ 0
    first [] none v = refl
    first (c ∷ cs) none v = absurd (omega (arith, none))

-- whether a vertex lies in the range of a part is whether the part owns it
pub owns-is : (part : ℕ) (weighted : Bool) (cuts : CutView) (rows : RangeGraph) (tables : List (List ℕ)) (v : ℕ)
    → HoldsPart part weighted cuts rows tables → v < rows.vertices
    → (nat_le rows.first v && nat_lt v rows.end) ≡ (owner cuts.cuts v == part)
owns-is part weighted cuts rows tables v h low =
    let first = h.first_is in
    let end = h.end_is in
    let all = h.vertices in
    let cases : (b : Bool) → (owner cuts.cuts v == part) ≡ b → (nat_le rows.first v && nat_lt v rows.end) ≡ b = λ b.
    elim b as (λ b. (owner cuts.cuts v == part) ≡ b → (nat_le rows.first v && nat_lt v rows.end) ≡ b) [
      | true ↦ λ e.
          let is : owner cuts.cuts v ≡ part = grind (arith, nat_tests) in
          let from = owned-from cuts.cuts v part h.cuts_are.rising is in
          let to = owned-to cuts.vertices cuts.cuts v part h.cuts_are.rising (omega (arith, low, all)) is in
          let left : nat_le rows.first v ≡ true = grind (arith, nat_tests) in
          let right : nat_lt v rows.end ≡ true = grind (arith, nat_tests) in
          rw (left, right) refl
      | false ↦ λ e.
          let inner : (c : Bool) → nat_le rows.first v ≡ c → (c && nat_lt v rows.end) ≡ false = λ c.
          elim c as (λ c. nat_le rows.first v ≡ c → (c && nat_lt v rows.end) ≡ false) [
            | true ↦ λ f.
                let deeper : (d : Bool) → nat_lt v rows.end ≡ d → d ≡ false = λ d.
                elim d as (λ d. nat_lt v rows.end ≡ d → d ≡ false) [
                  | true ↦ λ t.
                      let from : begin_of cuts.cuts part ≤ v = grind (arith, nat_tests) in
                      let to : v < end_of cuts.vertices cuts.cuts part = grind (arith, nat_tests) in
                      let is = owned-between cuts.vertices cuts.cuts v part h.cuts_are.rising h.low from to in
                      absurd (grind (arith, nat_tests))
                  | false ↦ λ t. refl
                ] in
                deeper (nat_lt v rows.end) refl
            | false ↦ λ f. refl
          ] in
          inner (nat_le rows.first v) refl
    ] in
    cases (owner cuts.cuts v == part) refl

-- the table of a vertex that a part owns
pub table-of : (part : ℕ) (weighted : Bool) (cuts : CutView) (rows : RangeGraph) (tables : List (List ℕ)) (v number : ℕ)
    → HoldsPart part weighted cuts rows tables → Owns (view_of part weighted cuts rows) v → number ≡ mark_of rows v
    → 0 < length (row rows.edges v) → HasTable tables number (weights_of weighted (row rows.edges v))
table-of part weighted cuts rows tables v number h owns is some =
    rw is (h.tables_are v (held part weighted cuts rows tables v h owns) some)

-- one part more
pub each-push : {X : Type 0} (P : ℕ → X → Type 0) (xs : List X) (x : X) (n : ℕ) → length xs ≡ n
    → ((k : ℕ) (d : X) → k < n → P k (get_or xs k d)) → P n x → (k : ℕ) (d : X) → k < n + 1 → P k (get_or (xs ++ x ∷ []) k d)
each-push P xs x n long each last k d low =
    elim (cases_lt k n) [
      | inl before ↦ rw (get_or_append_left xs (x ∷ []) d k (omega (arith, before, long))) (each k d before)
      | inr past ↦
          let here : k ≡ n = omega (arith, low, past) in
          rw (here, get_or_push xs x d n long) last
    ]
