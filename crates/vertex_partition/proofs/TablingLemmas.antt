-- Tables that are made one after another, and shared.
use Rattle.std.proofs.Common.{◌≡◌, ◌<◌, ◌≤◌, ◌+◌, ℕ, suc, Bool, true, false, List, [], ◌∷◌, ◌++◌, length, map, set, get_or, replicate, Option, Some, None, refl, ap, sym, subst, ◌∙◌, inl, inr, arith}
use Rattle.std.specs.Prelude.{All, unwrap_or, not, IfNone, IsTrue, ◌⊎◌}
use Rattle.std.specs.List.{AllZip}
use Rattle.std.proofs.lemmas.Bool.{cases_eq, cases_lt}
use Rattle.std.proofs.lemmas.List.{length-append, length-map, get_or-set_same, get_or-set_other, get_or-replicate, get_or_past, length-replicate, get_or-append-add}
use Rattle.std.proofs.Math.ListN.{get_or-append}
use Rattle.std.proofs.Math.Seq.{get_or-append_seam}
use Rattle.walk_model.specs.declared.graph.Edge.{Edge}
use Rattle.walk_model.specs.Graph.{weights_of}
use Rattle.csr_store.specs.declared.out_edge.OutEdge.{OutEdge}
use Rattle.csr_store.specs.OutEdges.{out_edge}
use Rattle.vertex_partition.specs.Tabled.{HasTable, Keeps, AreOwn, AreShared, AreTables, AreTablesBut, IsAmong, row_weights}
use Rattle.csr_store.specs.RowGraph.{RangeGraph, mark_of}
use Rattle.vertex_partition.specs.OutWeights.{out_weight}
use Rattle.vertex_partition.proofs.OkLemmas.{zip-long, zip-at}

-- the last table has the number of those before it
pub has-last : (ts : List (List ℕ)) (ws : List ℕ) (k : ℕ) → k ≡ length ts → HasTable (ts ++ ws ∷ []) k ws
has-last ts ws k is =
    rw is (omega (arith, length-append ts (ws ∷ [])), λ d. get_or-append_seam ts ws [] d)

-- and those keep theirs
pub keeps-more : (ts : List (List ℕ)) (ws : List ℕ) → Keeps ts (ts ++ ws ∷ [])
keeps-more ts ws k weights has =
    (omega (arith, has.0, length-append ts (ws ∷ [])), λ d. get_or-append ts (ws ∷ []) d k has.0 ∙ has.1 d)

pub shared-kept : (ts us : List (List ℕ)) (shared : List (Option ℕ)) → Keeps ts us → AreShared ts shared → AreShared us shared
shared-kept ts us shared keeps are count k is = keeps k (replicate count 1) (are count k is)

-- one more table is shared
pub shared-set : (ts : List (List ℕ)) (shared : List (Option ℕ)) (at n : ℕ) → at < length shared
    → AreShared ts shared → HasTable ts n (replicate at 1) → AreShared ts (set shared at (Some n))
shared-set ts shared at n low are has count k is =
    elim (cases_eq count at) [
      | inl same ↦
          let here : Some n ≡ Some k = sym (get_or-set_same shared at (Some n) None low) ∙ rw same at is in
          let number : n ≡ k = ap (λ (o : Option ℕ). unwrap_or o 0) here in
          rw (same, ← number) has
      | inr other ↦ are count k (sym (get_or-set_other shared at count (Some n) None other) ∙ is)
    ]

-- at first none is
pub shared-none : (ts : List (List ℕ)) (n : ℕ) → AreShared ts (replicate n None)
shared-none ts n count k is =
    absurd (none_some k (sym (nothing n count) ∙ is))
  where
    nothing : (n count : ℕ) → get_or (replicate {A = Option ℕ} n None) count None ≡ None
    nothing n count =
        elim (cases_lt count n) [
          | inl low ↦ get_or-replicate n count None None low
          | inr past ↦ get_or_past (replicate n None) count None (omega (arith, length-replicate {A = Option ℕ} n None, past))
        ]

    none_some : (t : ℕ) → None ≡ Some t → ⊥
    none_some t e = let P : Option ℕ → Type 0 = λ o. elim o as (λ _. Type 0) [ None ↦ Unit {0} | Some x ↦ ⊥ ] in subst P e tt

-- where weights don't count, they are all 1
pub ones-unweighted : (weighted : Bool) (row : List OutEdge) → IsTrue (not weighted) → map (out_weight weighted) row ≡ replicate (length row) 1
ones-unweighted true row h = absurd (false_is_true h)
  where
    false_is_true : false ≡ true → ⊥
    false_is_true e = let P : Bool → Type 0 = λ b. elim b as (λ _. Type 0) [ true ↦ ⊥ | false ↦ Unit {0} ] in subst P e tt
ones-unweighted false [] h = refl
ones-unweighted false (e ∷ es) h = ap (λ (ws : List ℕ). 1 ∷ ws) (ones-unweighted false es h)

-- and where each edge has the weight 1
pub ones : (weighted : Bool) (row : List OutEdge) → All (λ e. e.weight ≡ 1) row → map (out_weight weighted) row ≡ replicate (length row) 1
ones weighted [] h = refl
ones true (e ∷ es) h =
    ap (λ w. w ∷ map (out_weight true) es) (h 0 e (omega arith))
    ∙ ap (λ (ws : List ℕ). 1 ∷ ws) (ones true es (λ k d low. h (suc k) d (omega arith)))
ones false (e ∷ es) h = ap (λ (ws : List ℕ). 1 ∷ ws) (ones false es (λ k d low. h (suc k) d (omega arith)))

-- a row without edges has no weights
pub no-weights : (weighted : Bool) (row : List Edge) (out : List OutEdge) → out ≡ map out_edge row → length out ≡ 0
    → weights_of weighted row ≡ []
unfolding weights_of
no-weights weighted [] out is none = refl
no-weights weighted (e ∷ es) out is none =
    let long : length out ≡ length (map out_edge (e ∷ es)) = ap (λ (l : List OutEdge). length l) is in
    absurd (omega (arith, long, none, length-map (e ∷ es) out_edge))

-- one more vertex whose table is known, while tables come
pub each-known : (before after : List (List ℕ)) (lone : List ℕ) (size : ℕ → ℕ) (of : ℕ → List ℕ) (mark mark' : ℕ → ℕ) (first v : ℕ)
    → Keeps before after → ((u : ℕ) → first ≤ u → u < v → mark' u ≡ mark u)
    → ((u : ℕ) → first ≤ u → u < v → 0 < size u → HasTable before (mark u) (of u) ⊎ IsAmong 0 lone u)
    → (0 < size v → HasTable after (mark' v) (of v))
    → (u : ℕ) → first ≤ u → u < v + 1 → 0 < size u → HasTable after (mark' u) (of u) ⊎ IsAmong 0 lone u
each-known before after lone size of mark mark' first v keeps same each last u from low some =
    elim (cases_eq u v) [
      | inl here ↦ inl (rw here (last (rw here at some)))
      | inr other ↦
          let there : u < v = omega arith in
          elim (each u from there some) [
            | inl has ↦ inl (rw (same u from there) (keeps (mark u) (of u) has))
            | inr among ↦ inr among
          ]
    ]

-- one more vertex that is listed
pub each-listed : (tables : List (List ℕ)) (lone : List ℕ) (size : ℕ → ℕ) (of : ℕ → List ℕ) (mark : ℕ → ℕ) (first v : ℕ)
    → ((u : ℕ) → first ≤ u → u < v → 0 < size u → HasTable tables (mark u) (of u) ⊎ IsAmong 0 lone u)
    → (u : ℕ) → first ≤ u → u < v + 1 → 0 < size u → HasTable tables (mark u) (of u) ⊎ IsAmong 0 (lone ++ v ∷ []) u
each-listed tables lone size of mark first v each u from low some =
    let long = length-append lone (v ∷ []) in
    elim (cases_eq u v) [
      | inl here ↦ inr (length lone, omega arith, omega (arith, long), get_or-append_seam lone v [] 0 ∙ sym here)
      | inr other ↦ elim (each u from (omega arith) some) [
        | inl has ↦ inl has
        | inr among ↦ inr (among.0, among.1, omega (arith, long, among.2), get_or-append lone (v ∷ []) 0 among.0 among.2 ∙ among.3)
      ]
    ]

-- one more vertex of the list gets the number of its table
pub each-numbered : (tables : List (List ℕ)) (lone : List ℕ) (In : ℕ → Type 0) (size : ℕ → ℕ) (of : ℕ → List ℕ) (mark mark' : ℕ → ℕ) (place v : ℕ)
    → get_or lone place 0 ≡ v → ((u : ℕ) → In u → (u ≡ v → ⊥) → mark' u ≡ mark u) → HasTable tables (mark' v) (of v)
    → ((u : ℕ) → In u → 0 < size u → HasTable tables (mark u) (of u) ⊎ IsAmong place lone u)
    → (u : ℕ) → In u → 0 < size u → HasTable tables (mark' u) (of u) ⊎ IsAmong (place + 1) lone u
each-numbered tables lone In size of mark mark' place v stands same last each u inside some =
    elim (cases_eq u v) [
      | inl here ↦ inl (rw here last)
      | inr other ↦ elim (each u inside some) [
        | inl has ↦ inl (rw (same u inside other) has)
        | inr among ↦ elim (cases_eq among.0 place) [
          | inl first ↦ absurd (other (sym among.3 ∙ ap (λ k. get_or lone k 0) first ∙ stands))
          | inr later ↦ inr (among.0, omega (arith, among.1), among.2, among.3)
        ]
      ]
    ]

-- none is left at the end of the list
pub none-left : (lone : List ℕ) (place v : ℕ) → length lone ≤ place → IsAmong place lone v → ⊥
none-left lone place v end among = absurd (omega (arith, end, among.1, among.2))

-- behind the shared tables each table of its own has the number of its place
pub own-number : (made own : List (List ℕ)) (lone : List ℕ) (of : ℕ → List ℕ) (place : ℕ) → AllZip (λ v t. t ≡ of v) lone own → place < length lone
    → HasTable (made ++ own) (length made + place) (of (get_or lone place 0))
own-number made own lone of place zip low =
    let long = zip-long lone of own zip in (
      omega (arith, low, long, length-append made own),
      λ d. get_or-append-add made own place d ∙ zip-at lone of own place d zip low,
    )

-- what holds where there is none, of none
pub none-of : (o : Option ℕ) (P : Type 0) → ((n : ℕ) → o ≡ Some n → ⊥) → IfNone o P → P
none-of None P none h = h
none-of (Some n) P none h = absurd (none n refl)

-- the tables of all rows: the shared ones, and behind them those of the listed vertices, when these are marked
pub all-tabled : (weighted : Bool) (g h : RangeGraph) (made own tables : List (List ℕ)) (lone listed : List ℕ) (first : ℕ)
    → listed ≡ lone → first ≡ length made → tables ≡ made ++ own → AreTablesBut weighted g made 0 lone
    → AllZip (λ v t. t ≡ row_weights weighted g v) listed own
    → ((weighted : Bool) (tables : List (List ℕ)) → AreTablesBut weighted g tables 0 listed → AreOwn weighted g tables first listed → AreTables weighted h tables)
    → AreTables weighted h tables
all-tabled weighted g h made own tables lone listed first same count is but zip marked =
    marked weighted tables kept numbered
  where
    kept : AreTablesBut weighted g tables 0 listed
    kept v inside some =
        rw (same, is)
        (elim (but v inside some) [
          | inl has ↦ inl (omega (arith, has.0, length-append made own), λ d. get_or-append made own d (mark_of g v) has.0 ∙ has.1 d)
          | inr among ↦ inr among
        ])

    numbered : AreOwn weighted g tables first listed
    numbered k low = rw (is, count) (own-number made own listed (row_weights weighted g) k zip low)
