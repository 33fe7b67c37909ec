-- Rows put one after another are a graph with the same rows.
use Rattle.std.proofs.Common.{◌≡◌, ℕ, zero, suc, ◌+◌, ◌<◌, ◌≤◌, Bool, true, false, cond, List, [], ◌∷◌, ◌++◌, ◌-◌, ◌⊎◌, inl, inr, length, map, take, drop, refl, arith, ap, sym, ◌∙◌, ◌||◌, ◌&&◌, not, append-nil}
use Rattle.std.specs.Prelude.{filter, insert, count_by, ◌==◌, nat_lt, if◌then◌else◌, slice_index, All}
use Rattle.std.specs.List.{list_any}
use Rattle.std.proofs.lemmas.Bool.{cases_lt}
use Rattle.std.proofs.lemmas.Bool.Decides.{nat_tests}
use Rattle.std.proofs.lemmas.List.{length-append, length-map, length-drop, length-take-le}
use Rattle.std.proofs.lemmas.List.Edits.{length-insert}
use Rattle.std.proofs.lemmas.List.Elements.{All-nil, All-cons, All-head, All-tail, All-append, All-take, All-drop, filter-append}
use Rattle.std.proofs.lemmas.List.Sums.{count_by-le-length}
use Rattle.walk_model.specs.declared.graph.Edge.{Edge}
use Rattle.walk_model.specs.Graph.{comes_before, with_edge, row, has_edge}
use Rattle.walk_model.proofs.RowLemmas.{row_is, row-sorted}
use Rattle.csr_store.specs.declared.out_edge.OutEdge.{OutEdge}
use Rattle.csr_store.specs.OutEdges.{out_edge, edge_from}
use Rattle.csr_store.specs.Shelves.{edges_below, edges_of_rows, stored_row}
use Rattle.csr_store.proofs.ListLemmas.{count_by-cons, list_any-insert}

-- all edges leave one vertex
abbrev pub AllLeave : ℕ → List Edge → Type 0
AllLeave v [] = Unit {0}
AllLeave v (e ∷ es) = ((e.src == v) ≡ true) × AllLeave v es

AllLeave-insert : (v : ℕ) (xs : List Edge) (i : ℕ) (e : Edge) → (e.src == v) ≡ true → AllLeave v xs → AllLeave v (insert xs i e)
AllLeave-insert v xs zero e h all = (h, all)
AllLeave-insert v [] (suc i) e h all = (h, tt)
AllLeave-insert v (x ∷ xs) (suc i) e h all = (all.0, AllLeave-insert v xs i e h all.1)

-- the edges of a row leave its vertex
pub AllLeave-row : (es : List Edge) (v : ℕ) → AllLeave v (row es v)
unfolding row with_edge
AllLeave-row [] v = tt
AllLeave-row (e ∷ es) v =
    let cases : (b : Bool) → (e.src == v) ≡ b → AllLeave v (if b then with_edge e (row es v) else row es v) = λ b.
    elim b as (λ b. (e.src == v) ≡ b → AllLeave v (if b then with_edge e (row es v) else row es v)) [
      | true ↦ λ h. AllLeave-insert v (row es v) (count_by (λ d. comes_before d e) (row es v)) e h (AllLeave-row es v)
      | false ↦ λ h. AllLeave-row es v
    ] in
    cases (e.src == v) refl

-- of edges that leave a vertex, all do
filter-all : (v : ℕ) (xs : List Edge) → AllLeave v xs → filter (λ e. e.src == v) xs ≡ xs
filter-all v [] all = refl
filter-all v (x ∷ xs) all = rw (all.0) (ap (λ l. x ∷ l) (filter-all v xs all.1))

-- and none leaves another one
filter-none : (v w : ℕ) (xs : List Edge) → (w == v) ≡ false → AllLeave w xs → filter (λ e. e.src == v) xs ≡ []
filter-none v w [] other all = refl
filter-none v w (x ∷ xs) other all =
    let head : (x.src == w) ≡ true = all.0 in
    let e : (x.src == v) ≡ false = grind (arith, nat_tests) in
    rw e (filter-none v w xs other all.1)

-- the row is that of the edges that leave the vertex
row-filter : (es : List Edge) (v : ℕ) → row (filter (λ e. e.src == v) es) v ≡ row es v
unfolding row with_edge
row-filter [] v = refl
row-filter (e ∷ es) v =
    let cases : (b : Bool) → (e.src == v) ≡ b
    → row (cond b (e ∷ filter (λ e. e.src == v) es) (filter (λ e. e.src == v) es)) v
    ≡ (if b then with_edge e (row es v) else row es v) = λ b.
    elim b as (λ b. (e.src == v) ≡ b
    → row (cond b (e ∷ filter (λ e. e.src == v) es) (filter (λ e. e.src == v) es)) v
    ≡ (if b then with_edge e (row es v) else row es v)) [
      | true ↦ λ h. rw (h, row-filter es v) refl
      | false ↦ λ h. row-filter es v
    ] in
    cases (e.src == v) refl

-- the row of a row is the row
row-row : (es : List Edge) (v : ℕ) → row (row es v) v ≡ row es v
row-row es v =
    sym (row_is (row es v) v (row es v) (row-sorted es v)
    (λ z. ap (filter (λ x. not (comes_before z x) && not (comes_before x z))) (sym (filter-all v (row es v) (AllLeave-row es v)))))

-- the rows of some vertices from one on, one after another
unfoldable pub rows_from : List Edge → ℕ → ℕ → List Edge
rows_from es first zero = []
rows_from es first (suc n) = rows_from es first n ++ row es (first + n)

-- of these rows no edge leaves a vertex that isn't among them
filter-rows_out : (es : List Edge) (first n v : ℕ) → (v < first) ⊎ (first + n ≤ v)
    → filter (λ e. e.src == v) (rows_from es first n) ≡ []
unfolding rows_from
filter-rows_out es first zero v out = refl
filter-rows_out es first (suc n) v out =
    let other : (first + n == v) ≡ false = elim out [
      | inl low ↦ grind (arith, nat_tests)
      | inr past ↦ grind (arith, nat_tests)
    ] in
    let before : (v < first) ⊎ (first + n ≤ v) = elim out [
      | inl low ↦ inl low
      | inr past ↦ inr (omega (arith, past))
    ] in
    filter-append (λ (e : Edge). e.src == v) (rows_from es first n) (row es (first + n))
    ∙ ap (λ l. l ++ filter (λ e. e.src == v) (row es (first + n))) (filter-rows_out es first n v before)
    ∙ filter-none v (first + n) (row es (first + n)) other (AllLeave-row es (first + n))

-- and those from one among them are its row
filter-rows_in : (es : List Edge) (first n v : ℕ) → first ≤ v → v < first + n
    → filter (λ e. e.src == v) (rows_from es first n) ≡ row es v
unfolding rows_from
filter-rows_in es first zero v low high = absurd (omega (arith, low, high))
filter-rows_in es first (suc n) v low high =
    let split = filter-append (λ (e : Edge). e.src == v) (rows_from es first n) (row es (first + n)) in
    let cases : (b : Bool) → (first + n == v) ≡ b
    → filter (λ e. e.src == v) (rows_from es first n) ++ filter (λ e. e.src == v) (row es (first + n)) ≡ row es v = λ b.
    elim b as (λ b. (first + n == v) ≡ b
    → filter (λ e. e.src == v) (rows_from es first n) ++ filter (λ e. e.src == v) (row es (first + n)) ≡ row es v) [
      | true ↦ λ h.
          let same : first + n ≡ v = grind (arith, nat_tests) in
          ap (λ l. l ++ filter (λ e. e.src == v) (row es (first + n))) (filter-rows_out es first n v (inr (omega (arith, same))))
          ∙ ap (λ w. filter (λ e. e.src == v) (row es w)) same
          ∙ filter-all v (row es v) (AllLeave-row es v)
      | false ↦ λ h.
          let below : v < first + n = grind (arith, nat_tests) in
          ap (λ l. filter (λ e. e.src == v) (rows_from es first n) ++ l) (filter-none v (first + n) (row es (first + n)) h (AllLeave-row es (first + n)))
          ∙ append-nil _ ∙ filter-rows_in es first n v low below
    ] in
    split ∙ cases (first + n == v) refl

-- a vertex from which no edge leaves has no row
row-none : (es : List Edge) (n v : ℕ) → All (λ e. e.src < n) es → n ≤ v → row es v ≡ []
unfolding row
row-none [] n v all h = refl
row-none (e ∷ es) n v all h =
    let head : e.src < n = All-head (λ e. e.src < n) e es all in
    let other : (e.src == v) ≡ false = grind (arith, nat_tests) in
    rw other (row-none es n v (All-tail (λ e. e.src < n) e es all) h)

-- no edges have no row
row-nil : (v : ℕ) → row [] v ≡ []
unfolding row
row-nil v = refl

-- rows put one after another have the rows of the graph
pub row-rows_in : (es : List Edge) (first n v : ℕ) → first ≤ v → v < first + n → row (rows_from es first n) v ≡ row es v
row-rows_in es first n v low high =
    sym (row-filter (rows_from es first n) v) ∙ ap (λ l. row l v) (filter-rows_in es first n v low high) ∙ row-row es v

pub row-rows_out : (es : List Edge) (first n v : ℕ) → (v < first) ⊎ (first + n ≤ v) → row (rows_from es first n) v ≡ []
row-rows_out es first n v out =
    sym (row-filter (rows_from es first n) v) ∙ ap (λ l. row l v) (filter-rows_out es first n v out) ∙ row-nil v

-- all rows together have the rows of the graph
pub row-rows_all : (es : List Edge) (n v : ℕ) → All (λ e. e.src < n) es → row (rows_from es 0 n) v ≡ row es v
row-rows_all es n v all =
    elim (cases_lt v n) [
      | inl low ↦ row-rows_in es 0 n v (omega arith) (omega (arith, low))
      | inr past ↦ row-rows_out es 0 n v (inr (omega (arith, past))) ∙ sym (row-none es n v all past)
    ]

-- whether an edge is there can be seen in the row of its source
pub has_edge-row : (es : List Edge) (t x : ℕ) → has_edge es t x ≡ list_any (λ e. e.dst == x) (row es t)
unfolding row with_edge
has_edge-row [] t x = refl
has_edge-row (e ∷ es) t x =
    rw (has_edge-row es t x)
    (elim (e.src == t) as (λ b. ((b && (e.dst == x)) || list_any (λ e. e.dst == x) (row es t))
    ≡ list_any (λ e. e.dst == x) (if b then with_edge e (row es t) else row es t)) [
      | true ↦ sym (list_any-insert (λ e. e.dst == x) (row es t) (count_by (λ d. comes_before d e) (row es t)) e)
      | false ↦ refl
    ])

-- an edge is there exactly where it is in another graph with the same rows
pub has_edge-same_rows : (es fs : List Edge) → ((v : ℕ) → row es v ≡ row fs v) → (t x : ℕ) → has_edge es t x ≡ has_edge fs t x
has_edge-same_rows es fs same t x =
    has_edge-row es t x ∙ ap (list_any (λ e. e.dst == x)) (same t) ∙ sym (has_edge-row fs t x)

-- a row is as long as there are edges from its vertex
pub length-row : (es : List Edge) (v : ℕ) → length (row es v) ≡ count_by (λ e. e.src == v) es
unfolding row with_edge
length-row [] v = refl
length-row (e ∷ es) v =
    rw (count_by-cons (λ e. e.src == v) e es, ← length-row es v)
    (elim (e.src == v) as (λ b. length (if b then with_edge e (row es v) else row es v) ≡ cond b 1 0 + length (row es v)) [
      | true ↦
          let within = count_by-le-length (λ d. comes_before d e) (row es v) in
          let more = length-insert (row es v) (count_by (λ d. comes_before d e) (row es v)) e within in
          omega arith
      | false ↦ omega arith
    ])

-- below the next vertex there are the edges below a vertex and its own
pub edges_below-more : (es : List Edge) (v : ℕ) → edges_below es (v + 1) ≡ edges_below es v + count_by (λ e. e.src == v) es
edges_below-more [] v = refl
edges_below-more (e ∷ es) v =
    rw (count_by-cons (λ e. nat_lt e.src (v + 1)) e es, count_by-cons (λ e. nat_lt e.src v) e es, count_by-cons (λ e. e.src == v) e es)
    (let later = edges_below-more es v in
    let here : cond (nat_lt e.src (v + 1)) 1 0 ≡ cond (nat_lt e.src v) 1 0 + cond (e.src == v) 1 0 = grind (arith, nat_tests) in
    omega arith)

-- below 0 there are none
pub edges_below-none : (es : List Edge) → edges_below es 0 ≡ 0
edges_below-none [] = refl
edges_below-none (e ∷ es) =
    rw (count_by-cons (λ e. nat_lt e.src 0) e es, edges_below-none es)
    (let none : nat_lt e.src 0 ≡ false = grind (arith, nat_tests) in rw none refl)

-- below a bound of all sources there are all edges
pub edges_below-all : (es : List Edge) (n : ℕ) → All (λ e. e.src < n) es → edges_below es n ≡ length es
edges_below-all [] n all = refl
edges_below-all (e ∷ es) n all =
    let head : e.src < n = All-head (λ e. e.src < n) e es all in
    let yes : nat_lt e.src n ≡ true = grind (arith, nat_tests) in
    let later = edges_below-all es n (All-tail (λ e. e.src < n) e es all) in
    rw (count_by-cons (λ e. nat_lt e.src n) e es, yes) (omega arith)

-- the first rows are as long as there are edges below
length-rows_from : (es : List Edge) (n : ℕ) → length (rows_from es 0 n) ≡ edges_below es n
unfolding rows_from
length-rows_from es zero = sym (edges_below-none es)
length-rows_from es (suc n) =
    let e : suc n ≡ n + 1 = omega arith in
    let z : 0 + n ≡ n = omega arith in
    rw (length-append, length-rows_from es n, z, length-row es n, e) (sym (edges_below-more es n))

-- the edges of a row have its vertex as source
map-row : (v : ℕ) (xs : List Edge) → AllLeave v xs → map (edge_from v) (map out_edge xs) ≡ xs
map-row v [] all = refl
map-row v (x ∷ xs) all =
    let h : x.src ≡ v = grind (arith, nat_tests, all.0) in
    ap (λ s. edge_from s (out_edge x) ∷ map (edge_from v) (map out_edge xs)) (sym h) ∙ ap (λ l. x ∷ l) (map-row v xs all.1)

-- stored rows that are the rows of a graph are these rows, one after another
pub edges_of_rows_is : (es : List Edge) (first : ℕ) (starts : List ℕ) (out : List OutEdge) (n m : ℕ) → n ≤ m
    → ((k : ℕ) → k < m → stored_row starts out k ≡ map out_edge (row es (first + k)))
    → edges_of_rows first starts out n ≡ rows_from es first n
unfolding edges_of_rows rows_from
edges_of_rows_is es first starts out zero m le rows = refl
edges_of_rows_is es first starts out (suc n) m le rows =
    rw (edges_of_rows_is es first starts out n m (omega arith) rows, rows n (omega arith))
    (ap (λ l. rows_from es first n ++ l) (map-row (first + n) (row es (first + n)) (AllLeave-row es (first + n))))

-- together they are as many as the edges of the graph
pub length-all_rows : (es : List Edge) (n : ℕ) → All (λ e. e.src < n) es → length (rows_from es 0 n) ≡ length es
length-all_rows es n all = length-rows_from es n ∙ edges_below-all es n all

-- stored rows that follow each other have as many edges as lie between their ends
pub length-edges_of_rows : (first : ℕ) (starts : List ℕ) (out : List OutEdge) (n : ℕ)
    → ((k : ℕ) → k < n → slice_index starts k ≤ slice_index starts (k + 1))
    → ((k : ℕ) → k < n → slice_index starts (k + 1) ≤ length out)
    → length (edges_of_rows first starts out n) + slice_index starts 0 ≡ slice_index starts n
unfolding edges_of_rows
length-edges_of_rows first starts out zero rising within =
    let none : length (edges_of_rows first starts out 0) ≡ 0 = refl in
    omega (arith, none)
length-edges_of_rows first starts out (suc n) rising within =
    let up : slice_index starts n ≤ slice_index starts (n + 1) = rising n (omega arith) in
    let low : slice_index starts (n + 1) ≤ length out = within n (omega arith) in
    let before = length-edges_of_rows first starts out n (λ k h. rising k (omega (arith, h))) (λ k h. within k (omega (arith, h))) in
    let row_long : length (map (edge_from (first + n)) (stored_row starts out n)) ≡ slice_index starts (n + 1) - slice_index starts n =
    length-map (stored_row starts out n) (edge_from (first + n))
    ∙ length-take-le (slice_index starts (n + 1) - slice_index starts n) (drop (slice_index starts n) out)
    (let e = length-drop (slice_index starts n) out in omega (arith, e, low, up)) in
    let more = length-append (edges_of_rows first starts out n) (map (edge_from (first + n)) (stored_row starts out n)) in
    let next : suc n ≡ n + 1 = omega arith in
    rw next (omega (arith, more, before, row_long, up))

-- the edges of a row leave its vertex
leaves-row : (P : ℕ → Type 0) (v : ℕ) (xs : List OutEdge) → P v → All (λ e. P e.src) (map (edge_from v) xs)
leaves-row P v [] p = All-nil (λ e. P e.src)
leaves-row P v (x ∷ xs) p = All-cons (λ e. P e.src) (edge_from v x) (map (edge_from v) xs) p (leaves-row P v xs p)

-- the edges of stored rows leave the vertices of these rows
pub sources-in : (first : ℕ) (starts : List ℕ) (out : List OutEdge) (n end : ℕ) → first + n ≤ end
    → All (λ e. (first ≤ e.src) × (e.src < end)) (edges_of_rows first starts out n)
unfolding edges_of_rows
sources-in first starts out zero end h = All-nil (λ e. (first ≤ e.src) × (e.src < end))
sources-in first starts out (suc n) end h =
    All-append (λ e. (first ≤ e.src) × (e.src < end)) (edges_of_rows first starts out n) _
    (sources-in first starts out n end (omega (arith, h)))
    (leaves-row (λ v. (first ≤ v) × (v < end)) (first + n) (stored_row starts out n) (omega arith, omega (arith, h)))

-- what is true of all edges is true of those of a row
pub All-row : (P : Edge → Type 0) (es : List Edge) (v : ℕ) → All P es → All P (row es v)
unfolding row with_edge
All-row P [] v all = All-nil P
All-row P (e ∷ es) v all =
    let head = All-head P e es all in
    let later = All-row P es v (All-tail P e es all) in
    elim (e.src == v) as (λ b. All P (if b then with_edge e (row es v) else row es v)) [
      | true ↦ All-append P (take n (row es v)) (e ∷ drop n (row es v)) (All-take P n (row es v) later)
          (All-cons P e (drop n (row es v)) head (All-drop P n (row es v) later))
      | false ↦ later
    ]
  where
    n : ℕ
    n = count_by (λ d. comes_before d e) (row es v)
