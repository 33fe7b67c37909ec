-- Walks in ranks and in names.
use Rattle.std.proofs.Common.{◌≡◌, ◌<◌, ◌≤◌, ◌+◌, ℕ, zero, suc, Bool, true, false, List, [], ◌∷◌, ◌++◌, length, map, get_or, refl, ap, sym, subst, ◌∙◌, arith, Option, Some, None}
use Rattle.std.specs.Prelude.{nat_lt, ◌==◌, slice_index, All, IsTrue, IfSome}
use Rattle.std.proofs.Math.Nat.{mod-lt}
use Rattle.vertex_names.proofs.NameLaws.{ranked-ends, name-at_rank}
use Rattle.std.specs.List.Sorted.{IsStrictlyIncreasing}
use Rattle.std.proofs.lemmas.Bool.Decides.{nat_tests}
use Rattle.std.proofs.lemmas.List.{map-append, length-append}
use Rattle.std.proofs.lemmas.List.Elements.{All-head, All-tail, All-map}
use Rattle.walk_model.specs.declared.graph.Edge.{Edge}
use Rattle.walk_model.specs.declared.programme.StartRule.{StartRule}
use Rattle.walk_model.specs.declared.programme.StartRule.TheVariants.{Each, Spread, From}
use Rattle.walk_model.specs.Words.{word}
use Rattle.walk_model.specs.Course.{Course, course, run_on}
use Rattle.walk_model.specs.Walk.{walk, walk_of, walker_count, start_of, first_state, next_state, entry_and, entries_after}
use Rattle.walk_model.specs.declared.states.State.{State}
use Rattle.walk_model.specs.Graph.{vertices_of}
use Rattle.walk_model.proofs.RenameLemmas.{Keeps, EndsIn, StandsIn, renamed, walk-renamed, next_state-in}
use Rattle.vertex_names.specs.Ranks.{is_name, ranked, AreNamed}
use Rattle.vertex_names.proofs.IndexLemmas.{later}
use Rattle.walk_model.specs.Numbers.{below}
use Rattle.traveller.specs.declared.runs.Run.{Run}
use Rattle.traveller.specs.PartedRuns.{PartedRun, walk_in}
use Rattle.traveller.specs.Runs.{start_fits, start_rank}
use Rattle.traveller.specs.Standing.{parted}
use Rattle.shard_core.specs.Walks.{walks_in}
use Rattle.walk_top.specs.Readiness.{ranked_graph}
use Rattle.walk_top.specs.Starts.{IsRankOf}

-- an earlier or equal place of rising names holds no greater one
at_most : (names : List ℕ) → IsStrictlyIncreasing names → (x y : ℕ) → x < length names → y ≤ x
    → slice_index names y ≤ slice_index names x
at_most names up x y hx le =
    let cases : (b : Bool) → (y == x) ≡ b → slice_index names y ≤ slice_index names x = λ b.
    elim b as (λ v. (y == x) ≡ v → slice_index names y ≤ slice_index names x) [
      | true ↦ λ e. let same : y ≡ x = grind (arith, nat_tests) in rw same (omega arith)
      | false ↦ λ e.
          let low : y < x = grind (arith, nat_tests) in
          let more = later names up y x low hx in
          omega (arith, more)
    ] in
    cases (y == x) refl

names-below : (names : List ℕ) → IsStrictlyIncreasing names → (x y : ℕ) → x < length names → y < length names
    → nat_lt (slice_index names x) (slice_index names y) ≡ nat_lt x y
names-below names up x y hx hy =
    let cases : (b : Bool) → nat_lt x y ≡ b → nat_lt (slice_index names x) (slice_index names y) ≡ b = λ b.
    elim b as (λ v. nat_lt x y ≡ v → nat_lt (slice_index names x) (slice_index names y) ≡ v) [
      | true ↦ λ e.
          let low : x < y = grind (arith, nat_tests) in
          let more = later names up x y low hy in
          grind (arith, nat_tests)
      | false ↦ λ e.
          let high : y ≤ x = grind (arith, nat_tests) in
          let most = at_most names up x y hx high in
          grind (arith, nat_tests)
    ] in
    cases (nat_lt x y) refl

by_orders : (a b x y : ℕ) → nat_lt a b ≡ nat_lt x y → nat_lt b a ≡ nat_lt y x → (a == b) ≡ (x == y)
by_orders a b x y one two = grind (arith, nat_tests)

-- names keep the order of ranks
pub names-keep : (names : List ℕ) → IsStrictlyIncreasing names → Keeps (slice_index names) (λ r. r < length names)
names-keep names up = record {
  below = λ x y hx hy. names-below names up x y hx hy;
  same = λ x y hx hy.
      by_orders (slice_index names x) (slice_index names y) x y (names-below names up x y hx hy) (names-below names up y x hy hx);
}

-- ranks put for names, and names for ranks
pub edges-back : (names : List ℕ) (edges : List Edge) → IsStrictlyIncreasing names → AreNamed names edges
    → map (renamed (slice_index names)) (map (ranked names) edges) ≡ edges
edges-back names [] up named = refl
edges-back names (e ∷ es) up named =
    let head = All-head (λ (d : Edge). IsTrue (is_name names d.src) × IsTrue (is_name names d.dst)) e es named in
    rw (
      name-at_rank names e.src up head.0,
      name-at_rank names e.dst up head.1,
      edges-back names es up (All-tail (λ (d : Edge). IsTrue (is_name names d.src) × IsTrue (is_name names d.dst)) e es named),
    ) refl

-- ranked edges have both ends among the ranks
pub ranks-in : (n : ℕ) (edges : List Edge) → All (λ e. (e.src < n) × (e.dst < n)) edges → EndsIn (λ r. r < n) edges
ranks-in n [] h = tt
ranks-in n (e ∷ es) h =
    let head = All-head (λ (d : Edge). (d.src < n) × (d.dst < n)) e es h in
    (head.0, head.1, ranks-in n es (All-tail (λ (d : Edge). (d.src < n) × (d.dst < n)) e es h))

pub start-named : (rule : StartRule) (names : List ℕ) (start : Option ℕ) (walker : ℕ) → IsRankOf rule names start
    → slice_index names (start_rank rule (length names) start walker) ≡ start_of rule names walker
unfolding start_of
start-named Each names start walker is = refl
start-named (Spread walkers) names start walker is = refl
start-named (From walkers id) names start walker is = is

start-in : (rule : StartRule) (n : ℕ) (start : Option ℕ) (walker : ℕ) → IsTrue (start_fits rule n start)
    → (0 < walker_count rule n → 0 < n) → walker < walker_count rule n → start_rank rule n start walker < n
unfolding walker_count
start-in Each n start walker fits some low = low
start-in (Spread walkers) n start walker fits some low = mod-lt walker (some (omega (arith, low)))
start-in (From walkers id) n None walker fits some low = absurd (cc)
start-in (From walkers id) n (Some start) walker fits some low = let test : nat_lt start n ≡ true = fits in grind (arith, nat_tests)

-- a run over the vertices of a graph, whose walkers can start
pub record StartsOn (names : List ℕ) (run : Run) : Type 0 where
  pub vertices : run.vertices ≡ length names
  pub rank : IsRankOf run.plan.start names run.start
  pub some : 0 < walker_count run.plan.start run.vertices → 0 < run.vertices

pub start-stands : (names : List ℕ) (run : Run) (walker : ℕ) → StartsOn names run → walker < walker_count run.plan.start run.vertices
    → start_rank run.plan.start run.vertices run.start walker < length names
start-stands names run walker on low =
    let inside = start-in run.plan.start run.vertices run.start walker run.starts on.some low in
    let count = on.vertices in
    omega (arith, inside, count)

-- the walk of a walker in ranks, in names
pub walk-named : (edges : List Edge) (run : Run) (cuts : List ℕ) (walker : ℕ)
    → IsStrictlyIncreasing (vertices_of edges) → AreNamed (vertices_of edges) edges → StartsOn (vertices_of edges) run
    → walker < walker_count run.plan.start run.vertices
    → walk_of (run_on edges run.plan run.seed) walker
    ≡ map (slice_index (vertices_of edges)) (walk_in (parted (ranked_graph (vertices_of edges) edges) run cuts) walker)
walk-named edges run cuts walker up named on low =
    let names : List ℕ = vertices_of edges in
    let f : ℕ → ℕ = slice_index names in
    let start : ℕ = start_rank run.plan.start run.vertices run.start walker in
    let stands : start < length names = start-stands names run walker on low in
    let ranks : List Edge = map (ranked names) edges in
    let ends : EndsIn (λ r. r < length names) ranks = ranks-in (length names) ranks (ranked-ends names edges named) in
    let first : f start ≡ start_of run.plan.start names walker =
    rw on.vertices (start-named run.plan.start names run.start walker on.rank) in
    ap (λ s. walk (course edges run.plan (word run.seed walker) s) run.plan.length) (sym first)
    ∙ ap (λ es. walk (course es run.plan (word run.seed walker) (f start)) run.plan.length) (sym (edges-back names edges up named))
    ∙ walk-renamed f (λ r. r < length names) (names-keep names up) (course ranks run.plan (word run.seed walker) start) run.plan.length ends stands

map-below : (n : ℕ) (f h : ℕ → List ℕ) → ((i : ℕ) → i < n → f i ≡ h i) → map f (below n) ≡ map h (below n)
unfolding below
map-below zero f h same = refl
map-below (suc n) f h same =
    map-append f (below n) (n ∷ []) ∙ ap (λ l. l ++ f n ∷ []) (map-below n f h (λ i low. same i (omega (arith, low))))
    ∙ ap (λ w. map h (below n) ++ w ∷ []) (same n (omega arith)) ∙ sym (map-append h (below n) (n ∷ []))

map-twice : (f : List ℕ → List ℕ) (h : ℕ → List ℕ) (xs : List ℕ) → map f (map h xs) ≡ map (λ i. f (h i)) xs
map-twice f h [] = refl
map-twice f h (x ∷ xs) = ap (λ l. f (h x) ∷ l) (map-twice f h xs)

-- all walks in ranks, in names
pub walks-named : (edges : List Edge) (run : Run) (cuts : List ℕ)
    → IsStrictlyIncreasing (vertices_of edges) → AreNamed (vertices_of edges) edges → StartsOn (vertices_of edges) run
    → map (walk_of (run_on edges run.plan run.seed)) (below (walker_count run.plan.start (length (vertices_of edges))))
    ≡ map (map (slice_index (vertices_of edges))) (walks_in (parted (ranked_graph (vertices_of edges) edges) run cuts))
unfolding walks_in
walks-named edges run cuts up named on =
    let g : PartedRun = parted (ranked_graph (vertices_of edges) edges) run cuts in
    ap (λ n. map (walk_of (run_on edges run.plan run.seed)) (below (walker_count run.plan.start n))) (sym on.vertices)
    ∙ map-below (walker_count run.plan.start run.vertices) (walk_of (run_on edges run.plan run.seed))
    (λ i. map (slice_index (vertices_of edges)) (walk_in g i))
    (λ i low. walk-named edges run cuts i up named on low)
    ∙ sym (map-twice (map (slice_index (vertices_of edges))) (walk_in g) (below (walker_count run.plan.start run.vertices)))

-- entries that are all among some numbers
abbrev AllIn : (ℕ → Type 0) → List ℕ → Type 0
AllIn In [] = Unit {0}
AllIn In (x ∷ xs) = In x × AllIn In xs

all-AllIn : (In : ℕ → Type 0) (xs : List ℕ) → AllIn In xs → All In xs
all-AllIn In [] all = λ k d low. absurd (omega arith)
all-AllIn In (x ∷ xs) all = λ k.
    elim k as (λ k. (d : ℕ) → k < suc (length xs) → In (get_or (x ∷ xs) k d)) [
      | zero ↦ λ d low. all.0
      | suc j ↦ λ d low. all-AllIn In xs all.1 j d (omega (arith, low))
    ]

entry_and-in : (In : ℕ → Type 0) (o : Option State) (later : State → List ℕ) → IfSome o (StandsIn In)
    → ((t : State) → StandsIn In t → AllIn In (later t)) → AllIn In (entry_and o later)
entry_and-in In None later h all = tt
entry_and-in In (Some t) later h all = (h.at, all t h)

entries_after-in : (In : ℕ → Type 0) (n : ℕ) (c : Course) (s : State) → EndsIn In c.edges → In c.start → StandsIn In s
    → AllIn In (entries_after n c s)
unfolding entries_after
entries_after-in In zero c s h hb hs = tt
entries_after-in In (suc n) c s h hb hs =
    entry_and-in In (next_state c s) (entries_after n c) (next_state-in In c s h hb hs)
    (λ t ht. entries_after-in In n c t h hb ht)

-- the entries of a walk in ranks are ranks
walk-within : (edges : List Edge) (run : Run) (cuts : List ℕ) (walker : ℕ) → AreNamed (vertices_of edges) edges
    → StartsOn (vertices_of edges) run → walker < walker_count run.plan.start run.vertices
    → All (λ r. r < length (vertices_of edges)) (walk_in (parted (ranked_graph (vertices_of edges) edges) run cuts) walker)
walk-within edges run cuts walker all on low =
    let names : List ℕ = vertices_of edges in
    let start : ℕ = start_rank run.plan.start run.vertices run.start walker in
    let stands : start < length names = start-stands names run walker on low in
    let ranks : List Edge = map (ranked names) edges in
    let ends : EndsIn (λ r. r < length names) ranks = ranks-in (length names) ranks (ranked-ends names edges all) in
    all-AllIn (λ r. r < length names) (walk (course ranks run.plan (word run.seed walker) start) run.plan.length) (
      stands,
      entries_after-in (λ r. r < length names) run.plan.length (course ranks run.plan (word run.seed walker) start) (first_state start) ends stands
          (record { at = stands; before = tt }),
    )

length-below : (n : ℕ) → length (below n) ≡ n
unfolding below
length-below zero = refl
length-below (suc n) = length-append (below n) (n ∷ []) ∙ rw (length-below n) (omega arith)

-- one more element of a list whose elements are known by their places
append-each : {X : Type 0} (f : ℕ → X) (xs : List X) (x : X) → ((k : ℕ) (d : X) → k < length xs → get_or xs k d ≡ f k)
    → x ≡ f (length xs) → (k : ℕ) (d : X) → k < length xs + 1 → get_or (xs ++ x ∷ []) k d ≡ f k
append-each f [] x each last zero d low = last
append-each f [] x each last (suc k) d low = absurd (omega arith)
append-each f (y ∷ ys) x each last zero d low = each 0 d (omega arith)
append-each f (y ∷ ys) x each last (suc k) d low =
    append-each (λ n. f (suc n)) ys x (λ j e there. each (suc j) e (omega arith)) last k d (omega arith)

below-at : (n k d : ℕ) → k < n → get_or (below n) k d ≡ k
unfolding below
below-at zero k d low = absurd (omega arith)
below-at (suc n) k d low =
    append-each (λ i. i) (below n) n (λ i e there. below-at n i e (rw (length-below n) at there)) (sym (length-below n)) k d
    (let count = length-below n in omega (arith, low, count))

-- and so are those of all walks
pub walks-within : (edges : List Edge) (run : Run) (cuts : List ℕ) → AreNamed (vertices_of edges) edges → StartsOn (vertices_of edges) run
    → All (λ walk. All (λ r. r < length (vertices_of edges)) walk) (walks_in (parted (ranked_graph (vertices_of edges) edges) run cuts))
unfolding walks_in
walks-within edges run cuts all on =
    let count : ℕ = walker_count run.plan.start run.vertices in
    All-map (λ walk. All (λ r. r < length (vertices_of edges)) walk) (walk_in (parted (ranked_graph (vertices_of edges) edges) run cuts)) (below count)
    (λ k d low.
    (let size = length-below count in
    let spot : k < count = omega (arith, low, size) in
    subst (λ i. All (λ r. r < length (vertices_of edges)) (walk_in (parted (ranked_graph (vertices_of edges) edges) run cuts) i))
    (sym (below-at count k d spot)) (walk-within edges run cuts k all on spot)))
