-- A copy of the stored rows of a lesser range.
use Rattle.std.proofs.Common.{◌≡◌, ℕ, zero, suc, ◌+◌, ◌-◌, ◌<◌, ◌≤◌, List, length, map, take, drop, refl, arith, ap, sym, ◌∙◌}
use Rattle.std.specs.Prelude.{Vec, slice_index}
use Rattle.std.specs.List.{list_any}
use Rattle.std.specs.declared.alloc.Global.{Global}
use Rattle.std.proofs.lemmas.List.{get_or-map, get_or-take, get_or-drop, length-map, length-take-le, length-drop, drop-take, drop-drop, take-take, take-map, drop-map}
use Rattle.std.proofs.lemmas.List.Elements.{All-same}
use Rattle.std.specs.Prelude.{◌==◌}
use Rattle.walk_model.specs.Graph.{row}
use Rattle.csr_store.specs.declared.out_edge.OutEdge.{OutEdge}
use Rattle.csr_store.specs.declared.ranges.RowRange.TheInside.{Inside}
use Rattle.csr_store.specs.HeadLists.{HeadLists, starts_from}
use Rattle.csr_store.specs.OutEdges.{out_edge}
use Rattle.csr_store.specs.RowGraph.{HoldsRange}
use Rattle.csr_store.specs.Shelves.{stored_row, edges_of_rows, IsOutEdge}
use Rattle.csr_store.specs.Stored.{IsStored, graph_of}
use Rattle.csr_store.proofs.RowLaws.{rows_from, edges_of_rows_is, row-rows_in, has_edge-row, length-edges_of_rows, sources-in}

-- starts that rise step by step rise
pub rises-far : (starts : List ℕ) (count k i : ℕ) → ((n : ℕ) → n < count → slice_index starts n ≤ slice_index starts (n + 1))
    → k + i ≤ count → slice_index starts k ≤ slice_index starts (k + i)
rises-far starts count k zero rising low =
    let here : k + 0 ≡ k = omega arith in
    rw here (omega arith)
rises-far starts count k (suc i) rising low =
    let next : k + suc i ≡ k + i + 1 = omega arith in
    let before = rises-far starts count k i rising (omega (arith, low)) in
    let up = rising (k + i) (omega (arith, low)) in
    rw next (omega (arith, before, up))

-- a start of a copy
pub start-at : (starts : List ℕ) (k n i : ℕ) → k + n < length starts → i ≤ n
    → slice_index (starts_from starts k n) i ≡ slice_index starts (k + i) - slice_index starts k
start-at starts k n i low within =
    let rest = length-drop k starts in
    let long : length (take (n + 1) (drop k starts)) ≡ n + 1 = length-take-le (n + 1) (drop k starts) (omega (arith, rest, low)) in
    get_or-map (λ p. p - slice_index starts k) (take (n + 1) (drop k starts)) i 0 0 (omega (arith, long, within))
    ∙ ap (λ p. p - slice_index starts k) (get_or-take (n + 1) (drop k starts) i 0 (omega (arith, within)) ∙ get_or-drop k starts i 0)

-- a part of a part of a list
pub part-of_part : {X : Type 0} (xs : List X) (from low high to : ℕ) → from ≤ low → low ≤ high → high ≤ to
    → take (high - from - (low - from)) (drop (low - from) (take (to - from) (drop from xs))) ≡ take (high - low) (drop low xs)
part-of_part xs from low high to a b c =
    let split : to - from ≡ low - from + (to - low) = omega (arith, a, b, c) in
    let size : high - from - (low - from) ≡ high - low = omega (arith, a, b) in
    let back : from + (low - from) ≡ low = omega (arith, a) in
    ap (λ n. take (high - from - (low - from)) (drop (low - from) (take n (drop from xs)))) split
    ∙ ap (take (high - from - (low - from))) (drop-take (low - from) (to - low) (drop from xs))
    ∙ ap (λ n. take n (take (to - low) (drop (low - from) (drop from xs)))) size
    ∙ take-take (high - low) (to - low) (drop (low - from) (drop from xs)) (omega (arith, c))
    ∙ ap (take (high - low)) (drop-drop (low - from) from xs ∙ ap (λ n. drop n xs) back)

-- what is copied of the edges, or of what is kept of them
abbrev pub copied : {X : Type 0} → List ℕ → ℕ → ℕ → List X → List X
copied starts k n xs = take (slice_index starts (k + n) - slice_index starts k) (drop (slice_index starts k) xs)

-- a stored row of the copy
pub row-copied : (starts : List ℕ) (out : List OutEdge) (count k n i : ℕ) → length starts ≡ count + 1
    → ((m : ℕ) → m < count → slice_index starts m ≤ slice_index starts (m + 1)) → k + n ≤ count → i < n
    → stored_row (starts_from starts k n) (copied starts k n out) i ≡ stored_row starts out (k + i)
row-copied starts out count k n i long rising low within =
    let from : ℕ = slice_index starts k in
    let first = start-at starts k n i (omega (arith, long, low)) (omega (arith, within)) in
    let next = start-at starts k n (i + 1) (omega (arith, long, low)) (omega (arith, within)) in
    let there : k + (i + 1) ≡ k + i + 1 = omega arith in
    let a = rises-far starts count k i rising (omega (arith, low, within)) in
    let b = rising (k + i) (omega (arith, low, within)) in
    let rest : k + i + 1 + (n - (i + 1)) ≡ k + n = omega (arith, within) in
    let c : slice_index starts (k + i + 1) ≤ slice_index starts (k + n) =
    rw rest at (rises-far starts count (k + i + 1) (n - (i + 1)) rising (omega (arith, low, within))) in
    rw (first, next, there) (part-of_part out from (slice_index starts (k + i)) (slice_index starts (k + i + 1)) (slice_index starts (k + n)) a b c)

-- the parts of a copy
pub record IsCopy (a : Inside) (k n first : ℕ) (starts : List ℕ) (out : List OutEdge) (dsts kinds : List ℕ) : Type 0 where
  pub first_is : first ≡ a.first + k
  pub low : k + n ≤ a.count
  pub starts_are : starts ≡ starts_from a.heads.starts k n
  pub out_are : out ≡ copied a.heads.starts k n a.out.items
  pub dsts_are : dsts ≡ copied a.heads.starts k n a.dsts.items
  pub kinds_are : kinds ≡ copied a.heads.starts k n a.kinds.items

-- each row of the copy is the row of its vertex
row-is : (a : Inside) (s : IsStored a) (k n first : ℕ) (starts : List ℕ) (out : List OutEdge) (dsts kinds : List ℕ)
    → IsCopy a k n first starts out dsts kinds → (i : ℕ) → i < n
    → stored_row starts out i ≡ map out_edge (row (graph_of a).edges (first + i))
row-is a s k n first starts out dsts kinds c i within =
    let low = c.low in
    let there : a.first + (k + i) ≡ first + i = let e = c.first_is in omega (arith, e) in
    rw (c.starts_are, c.out_are)
    (row-copied a.heads.starts a.out.items a.count k n i s.starts s.rising c.low within
    ∙ s.rows (k + i) (omega (arith, low, within))
    ∙ ap (λ w. map out_edge (row (graph_of a).edges w)) there)

edges-are : (a : Inside) (s : IsStored a) (k n first : ℕ) (starts : List ℕ) (out : List OutEdge) (dsts kinds : List ℕ)
    → IsCopy a k n first starts out dsts kinds → edges_of_rows first starts out n ≡ rows_from (graph_of a).edges first n
edges-are a s k n first starts out dsts kinds c =
    edges_of_rows_is (graph_of a).edges first starts out n n (omega arith) (row-is a s k n first starts out dsts kinds c)

-- a start lies within the edges
pub start-within : (a : Inside) → IsStored a → (m : ℕ) → m ≤ a.count → slice_index a.heads.starts m ≤ length a.out.items
start-within a s zero h = s.begin
start-within a s (suc m) h =
    let next : suc m ≡ m + 1 = omega arith in
    rw next (s.within m (omega (arith, h)))

-- how many edges are copied
size-copied : (a : Inside) → IsStored a → (k n : ℕ) → k + n ≤ a.count
    → length (copied a.heads.starts k n a.out.items) ≡ slice_index a.heads.starts (k + n) - slice_index a.heads.starts k
size-copied a s k n low =
    let up = rises-far a.heads.starts a.count k n s.rising low in
    let top = start-within a s (k + n) low in
    length-take-le (slice_index a.heads.starts (k + n) - slice_index a.heads.starts k) (drop (slice_index a.heads.starts k) a.out.items)
    (let e = length-drop (slice_index a.heads.starts k) a.out.items in omega (arith, e, top, up))

-- what is kept of the edges that are copied
kept-copied : (starts : List ℕ) (k n : ℕ) (f : OutEdge → ℕ) (out : List OutEdge) (kept : List ℕ) → kept ≡ map f out
    → copied starts k n kept ≡ map f (copied starts k n out)
kept-copied starts k n f out kept is =
    ap (copied starts k n) is
    ∙ ap (take (slice_index starts (k + n) - slice_index starts k)) (drop-map f (slice_index starts k) out)
    ∙ take-map f (slice_index starts (k + n) - slice_index starts k) (drop (slice_index starts k) out)

-- the starts of the copy, which rise
start-is : (a : Inside) → IsStored a → (k n first : ℕ) (starts : List ℕ) (out : List OutEdge) (dsts kinds : List ℕ)
    → IsCopy a k n first starts out dsts kinds → (i : ℕ) → i ≤ n
    → slice_index starts i ≡ slice_index a.heads.starts (k + i) - slice_index a.heads.starts k
start-is a s k n first starts out dsts kinds c i within =
    let long = s.starts in
    let low = c.low in
    rw c.starts_are (start-at a.heads.starts k n i (omega (arith, long, low)) within)

starts-rise : (a : Inside) → IsStored a → (k n first : ℕ) (starts : List ℕ) (out : List OutEdge) (dsts kinds : List ℕ)
    → IsCopy a k n first starts out dsts kinds → (i : ℕ) → i < n → slice_index starts i ≤ slice_index starts (i + 1)
starts-rise a s k n first starts out dsts kinds c i within =
    let low = c.low in
    let here = start-is a s k n first starts out dsts kinds c i (omega (arith, within)) in
    let next = start-is a s k n first starts out dsts kinds c (i + 1) (omega (arith, within)) in
    let there : k + (i + 1) ≡ k + i + 1 = omega arith in
    let up = s.rising (k + i) (omega (arith, low, within)) in
    rw (here, next, there) (omega (arith, up))

starts-within : (a : Inside) → IsStored a → (k n first : ℕ) (starts : List ℕ) (out : List OutEdge) (dsts kinds : List ℕ)
    → IsCopy a k n first starts out dsts kinds → (i : ℕ) → i < n → slice_index starts (i + 1) ≤ length out
starts-within a s k n first starts out dsts kinds c i within =
    let low = c.low in
    let next = start-is a s k n first starts out dsts kinds c (i + 1) (omega (arith, within)) in
    let size : length out ≡ slice_index a.heads.starts (k + n) - slice_index a.heads.starts k =
    ap length c.out_are ∙ size-copied a s k n c.low in
    let rest : k + (i + 1) + (n - (i + 1)) ≡ k + n = omega (arith, within) in
    let up : slice_index a.heads.starts (k + (i + 1)) ≤ slice_index a.heads.starts (k + n) =
    rw rest at (rises-far a.heads.starts a.count (k + (i + 1)) (n - (i + 1)) s.rising (omega (arith, low, within))) in
    omega (arith, next, size, up)

-- the edges of the copy have the rows of those that were copied
rows-same : (a : Inside) (s : IsStored a) (k n first : ℕ) (starts : List ℕ) (out : List OutEdge) (dsts kinds : List ℕ)
    → IsCopy a k n first starts out dsts kinds → (v : ℕ) → first ≤ v → v < first + n
    → row (edges_of_rows first starts out n) v ≡ row (graph_of a).edges v
rows-same a s k n first starts out dsts kinds c v from to =
    ap (λ es. row es v) (edges-are a s k n first starts out dsts kinds c) ∙ row-rows_in (graph_of a).edges first n v from to

-- what is copied is stored well
pub copy-stored : (a : Inside) → IsStored a → (k n first end : ℕ) (heads : HeadLists) (out : Vec OutEdge Global) (dsts kinds : Vec ℕ Global)
    → IsCopy a k n first heads.starts out.items dsts.items kinds.items → length heads.marks ≡ n + 1 → first + n ≡ end
    → IsStored (record { vertices = a.vertices; first = first; end = end; count = n; heads = heads; out = out; dsts = dsts; kinds = kinds })
copy-stored a s k n first end heads out dsts kinds c marks ends_at =
    let low = c.low in
    let first_is = c.first_is in
    let long = s.starts in
    let bound = s.bound in
    let end_is = s.end_is in
    let few = s.few in
    let rest = length-drop k a.heads.starts in
    let size : length out.items ≡ slice_index a.heads.starts (k + n) - slice_index a.heads.starts k =
    ap length c.out_are ∙ size-copied a s k n c.low in
    let top = start-within a s (k + n) c.low in
    let zeroth : slice_index heads.starts 0 ≡ slice_index a.heads.starts (k + 0) - slice_index a.heads.starts k =
    start-is a s k n first heads.starts out.items dsts.items kinds.items c 0 (omega arith) in
    let last = start-is a s k n first heads.starts out.items dsts.items kinds.items c n (omega arith) in
    let here : slice_index a.heads.starts (k + 0) ≡ slice_index a.heads.starts k = ap (slice_index a.heads.starts) (omega arith) in
    let begins : slice_index heads.starts 0 ≡ 0 = omega (arith, zeroth, here) in
    let rising : (i : ℕ) → i < n → slice_index heads.starts i ≤ slice_index heads.starts (i + 1) =
    starts-rise a s k n first heads.starts out.items dsts.items kinds.items c in
    let within : (i : ℕ) → i < n → slice_index heads.starts (i + 1) ≤ length out.items =
    starts-within a s k n first heads.starts out.items dsts.items kinds.items c in
    let whole = length-edges_of_rows first heads.starts out.items n rising within in
    record {
      end_is = sym ends_at;
      bound = omega (arith, low, first_is, bound, end_is, ends_at);
      starts = ap length c.starts_are ∙ length-map (take (n + 1) (drop k a.heads.starts)) (λ p. p - slice_index a.heads.starts k)
          ∙ length-take-le (n + 1) (drop k a.heads.starts) (omega (arith, rest, long, low));
      marks = marks;
      begin = omega (arith, begins);
      rising = rising;
      within = within;
      rows = λ i h. (
          row-is a s k n first heads.starts out.items dsts.items kinds.items c i h
          ∙ ap (map out_edge) (sym (rows-same a s k n first heads.starts out.items dsts.items kinds.items c (first + i) (omega arith) (omega (arith, h)))));
      whole = omega (arith, whole, begins, last, size);
      few = omega (arith, size, top, few);
      edges = λ i h.
          All-same (IsOutEdge a.vertices) (stored_row heads.starts out.items i) (stored_row a.heads.starts a.out.items (k + i))
          (rw (c.starts_are, c.out_are) (row-copied a.heads.starts a.out.items a.count k n i s.starts s.rising c.low h))
          (s.edges (k + i) (omega (arith, low, h)));
      dsts = c.dsts_are ∙ kept-copied a.heads.starts k n (λ e. e.dst) a.out.items a.dsts.items s.dsts ∙ ap (map (λ e. e.dst)) (sym c.out_are);
      kinds = c.kinds_are ∙ kept-copied a.heads.starts k n (λ e. e.kind) a.out.items a.kinds.items s.kinds ∙ ap (map (λ e. e.kind)) (sym c.out_are);
    }

-- and has the rows of its range
pub copy-holds : (a : Inside) → IsStored a → (k n first end : ℕ) (heads : HeadLists) (out : Vec OutEdge Global) (dsts kinds : Vec ℕ Global)
    → IsCopy a k n first heads.starts out.items dsts.items kinds.items → first + n ≡ end
    → HoldsRange (graph_of a).edges (graph_of a).vertices first end
    (graph_of (record { vertices = a.vertices; first = first; end = end; count = n; heads = heads; out = out; dsts = dsts; kinds = kinds }))
copy-holds a s k n first end heads out dsts kinds c ends_at =
    let rows : (v : ℕ) → first ≤ v → v < end → row (edges_of_rows first heads.starts out.items n) v ≡ row (graph_of a).edges v =
    λ v from to. rows-same a s k n first heads.starts out.items dsts.items kinds.items c v from (omega (arith, to, ends_at)) in
    record {
      vertices = refl;
      first_is = refl;
      end_is = refl;
      rows = rows;
      has = λ t x from to.
          (has_edge-row (edges_of_rows first heads.starts out.items n) t x ∙ ap (list_any (λ e. e.dst == x)) (rows t from to)
          ∙ sym (has_edge-row (graph_of a).edges t x));
      only = sources-in first heads.starts out.items n end (omega (arith, ends_at));
    }

-- the places between which the edges of a lesser range lie
pub bounds-copied : (a : Inside) → IsStored a → (k n from to : ℕ) → k + n ≤ a.count → from ≡ slice_index a.heads.starts k
    → to ≡ slice_index a.heads.starts (k + n) → (from ≤ to) × (to ≤ length a.out.items)
bounds-copied a s k n from to low first last =
    let up = rises-far a.heads.starts a.count k n s.rising low in
    let top = start-within a s (k + n) low in
    (omega (arith, first, last, up), omega (arith, last, top))
