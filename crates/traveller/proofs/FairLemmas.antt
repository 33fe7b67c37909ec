-- Each edge of a row is hit by as many words as its weight and its factor say, on the board of any state.
use Rattle.std.proofs.Common.{◌≡◌, ℕ, ◌+◌, ◌-◌, ◌*◌, ◌/◌, ◌^◌, ◌<◌, ◌≤◌, Bool, true, false, Some, None, List, [], ◌∷◌, length, get_or, map, max, sum, refl, arith, ap, sym, ◌∙◌}
use Rattle.std.specs.Prelude.{Option, ◌==◌, if◌then◌else◌, All}
use Rattle.std.proofs.Math.Nat.{one-le-mul}
use Rattle.std.proofs.lemmas.List.{length-map, get_or-map}
use Rattle.std.proofs.lemmas.List.Sums.{sum_by-cons}
use Rattle.walk_model.specs.declared.graph.Edge.{Edge}
use Rattle.walk_model.specs.declared.programme.Fraction.{Fraction}
use Rattle.walk_model.specs.declared.programme.Rule.{Rule}
use Rattle.walk_model.specs.declared.programme.Rule.TheVariants.{Plain, Scheme, Node2vec}
use Rattle.walk_model.specs.declared.states.State.{State}
use Rattle.walk_model.specs.Settings.{Settings}
use Rattle.walk_model.specs.Counts.{count_below}
use Rattle.walk_model.specs.Graph.{row, weights_of, ends_of, static_weight, has_edge}
use Rattle.walk_model.specs.Factor.{factor, node_factor, return_factor, common_factor, far_factor, wanted_kind}
use Rattle.walk_model.specs.Dart.{Board, area, edge_at, height_of, lift_of, ends_below, ends_at, board_of}
use Rattle.walk_model.proofs.BoardLemmas.{length-weights_of, length-ends_of, run-le}
use Rattle.alias_table.proofs.ShareLemmas.{piece-shares}
use Rattle.csr_store.specs.declared.out_edge.OutEdge.{OutEdge}
use Rattle.csr_store.specs.OutEdges.{out_edge}
use Rattle.csr_store.specs.Shelves.{IsOutEdge}
use Rattle.dart_envelope.specs.Hits.{is_edge}
use Rattle.dart_envelope.proofs.HitLaws.{count-hits, count-places, run-hits, run-misses, low-part, strip-none, high-part}
use Rattle.node2vec_walk.specs.Nearness.{known_to, known_class}
use Rattle.node2vec_walk.proofs.RunLaws.{known-in_run}
use Rattle.traveller.specs.declared.ruling.TypedFactors.{TypedFactors}
use Rattle.traveller.specs.declared.ruling.TypedFactors.TheVariants as typed
use Rattle.traveller.specs.FairDarts.{HasFairDarts}
use Rattle.traveller.specs.RuleFactors.{AreTyped}

-- as many places of a board take an edge as its weight and its factor say
abbrev pub HasFairPlaces : Board → ℕ → Type 0
HasFairPlaces b edge = count_below (area b) (λ x. is_edge edge (edge_at b x))
    ≡ length b.weights * get_or b.weights edge 0 * get_or b.factors edge 0

-- so it is where nothing rises above the main part
places-flat : (b : Board) (edge : ℕ) → 0 < b.height → 0 < sum b.weights → edge < length b.weights → b.lift ≡ 0 → get_or b.factors edge 0 ≤ b.height
    → HasFairPlaces b edge
places-flat b edge high heavy inside level under =
    count-places b edge _ high (omega (arith, inside)) (piece-shares b.weights edge heavy inside) refl
    ∙ low-part b.height b.lift (get_or b.factors edge 0) (length b.weights) (get_or b.weights edge 0) _ under level

-- and with a strip for the edges of a run: outside the run an edge lies within the main part
places-beside : (b : Board) (edge : ℕ) → 0 < b.height → 0 < sum b.weights → edge < length b.weights → b.back_from + b.back_count ≤ length b.weights
    → (b.back_from ≤ edge → edge < b.back_from + b.back_count → ⊥) → get_or b.factors edge 0 ≤ b.height
    → HasFairPlaces b edge
places-beside b edge high heavy inside run out under =
    count-places b edge 0 high (omega (arith, inside)) (piece-shares b.weights edge heavy inside) (run-misses b.weights b.back_from b.back_count edge out run)
    ∙ strip-none b.height b.lift (get_or b.factors edge 0) (length b.weights) (get_or b.weights edge 0) 0 under refl

-- and an edge of the run rises as high as its factor
places-within : (b : Board) (edge : ℕ) → 0 < b.height → 0 < sum b.weights → edge < length b.weights → b.back_from + b.back_count ≤ length b.weights
    → b.back_from ≤ edge → edge < b.back_from + b.back_count → b.lift ≡ get_or b.factors edge 0 - b.height
    → HasFairPlaces b edge
places-within b edge high heavy inside run low top is =
    count-places b edge (get_or b.weights edge 0) high (omega (arith, inside)) (piece-shares b.weights edge heavy inside) (run-hits b.weights b.back_from b.back_count edge low top run)
    ∙ high-part b.height b.lift (get_or b.factors edge 0) (length b.weights) (get_or b.weights edge 0) (get_or b.weights edge 0) is refl

-- the numbers of a board of a rule, in a row of these weights
abbrev pub rule_board : List Edge → Rule → Option ℕ → ℕ → List ℕ → List Edge → Board
rule_board edges rule previous phase ws out = record {
  weights = ws;
  factors = map (factor edges rule previous phase) out;
  height = height_of rule previous;
  lift = lift_of rule previous;
  back_from = ends_below previous (ends_of out);
  back_count = ends_at previous (ends_of out);
}

-- an edge of some row
pub some_edge : Edge
some_edge = record { src = 0; dst = 0; weight = 0; kind = 0 }

-- the factor of an edge of the row
factor-at : (edges : List Edge) (rule : Rule) (previous : Option ℕ) (phase : ℕ) (out : List Edge) (k : ℕ) → k < length out
    → get_or (map (factor edges rule previous phase) out) k 0 ≡ factor edges rule previous phase (get_or out k some_edge)
factor-at edges rule previous phase out k low = get_or-map (factor edges rule previous phase) out k some_edge 0 low

-- a return edge has the return factor, and any other one no more than the height
node-back : (edges : List Edge) (p q : Fraction) (t x : ℕ) → (x == t) ≡ true → node_factor edges p q t x ≡ return_factor p q
unfolding node_factor
node-back edges p q t x is = rw is refl

node-other : (edges : List Edge) (p q : Fraction) (t x : ℕ) → (x == t) ≡ false → node_factor edges p q t x ≤ max (common_factor p q) (far_factor p q)
unfolding node_factor
node-other edges p q t x is = rw is (by_test (has_edge edges t x))
  where
    by_test : (near : Bool) → (if near then common_factor p q else far_factor p q) ≤ max (common_factor p q) (far_factor p q)
    by_test true = omega arith
    by_test false = omega arith

-- the place of an edge of the row tells whether it goes back
abbrev pub is_back : List Edge → ℕ → ℕ → Bool
is_back out t k = (get_or out k some_edge).dst == t

known-at : (out : List Edge) (t k : ℕ) → k < length out
    → get_or (map (known_class t) (map out_edge out)) k None ≡ known_to (get_or out k some_edge).dst t
known-at out t k low =
    let blank : OutEdge = out_edge some_edge in
    get_or-map (known_class t) (map out_edge out) k blank None (let long = length-map out out_edge in omega (arith, low, long))
    ∙ ap (known_class t) (get_or-map out_edge out k some_edge blank low)

-- node2vec after a step from a vertex
places-near : (edges : List Edge) (p q : Fraction) (t phase v edge : ℕ) (ws : List ℕ) → 1 ≤ p.top → 1 ≤ q.top → length ws ≡ length (row edges v)
    → 0 < sum ws → edge < length ws → HasFairPlaces (rule_board edges (Node2vec p q) (Some t) phase ws (row edges v)) edge
unfolding height_of lift_of factor
places-near edges p q t phase v edge ws hp hq long heavy inside = by_test (is_back (row edges v) t edge) refl
  where
    out : List Edge
    out = row edges v

    b : Board
    b = rule_board edges (Node2vec p q) (Some t) phase ws (row edges v)

    high : 0 < b.height
    high = let some : 1 ≤ common_factor p q = one-le-mul hp hq in omega (arith, some)

    low : edge < length (row edges v)
    low = omega (arith, inside, long)

    run : b.back_from + b.back_count ≤ length b.weights
    run = let within = run-le (Some t) (ends_of (row edges v)) in let ends = length-ends_of (row edges v) in omega (arith, within, ends, long)

    is : get_or b.factors edge 0 ≡ node_factor edges p q t (get_or (row edges v) edge some_edge).dst
    is = factor-at edges (Node2vec p q) (Some t) phase (row edges v) edge low

    told : get_or (map (known_class t) (map out_edge (row edges v))) edge None ≡ known_to (get_or (row edges v) edge some_edge).dst t
    told = known-at (row edges v) t edge low

    there : edge < length (map out_edge (row edges v))
    there = let same = length-map (row edges v) out_edge in omega (arith, low, same)

    none-some : ◌≡◌ {A = Option ℕ} None (Some 0) → ⊥
    none-some h = cc

    by_test : (back : Bool) → is_back (row edges v) t edge ≡ back → HasFairPlaces b edge
    by_test true e =
        let known : get_or (map (known_class t) (map out_edge (row edges v))) edge None ≡ Some 0 = told ∙ rw e refl in
        let within = (known-in_run edges v t edge there).0 known in
        let factor_is : get_or b.factors edge 0 ≡ return_factor p q = is ∙ node-back edges p q t _ e in
        places-within b edge high heavy inside run within.0 within.1 (rw factor_is refl)
    by_test false e =
        let unknown : get_or (map (known_class t) (map out_edge (row edges v))) edge None ≡ None = told ∙ rw e refl in
        let under : get_or b.factors edge 0 ≤ b.height = rw is (node-other edges p q t _ e) in
        places-beside b edge high heavy inside run
        (λ from to. let known = (known-in_run edges v t edge there).1 (from, to) in none-some (sym unknown ∙ known))
        under

-- a scheme's factor is 1 or 0
scheme-under : (edges : List Edge) (kinds : List ℕ) (previous : Option ℕ) (phase : ℕ) (e : Edge) → factor edges (Scheme kinds) previous phase e ≤ 1
unfolding factor
scheme-under edges kinds previous phase e = by_test (e.kind == wanted_kind kinds phase)
  where
    by_test : (b : Bool) → (if b then 1 else 0) ≤ 1
    by_test true = omega arith
    by_test false = omega arith

-- every rule, after a vertex or none
places-by : (edges : List Edge) (rule : Rule) (typed : TypedFactors) (previous : Option ℕ) (phase v edge : ℕ) (ws : List ℕ) → AreTyped rule typed
    → length ws ≡ length (row edges v) → 0 < sum ws → edge < length ws → HasFairPlaces (rule_board edges rule previous phase ws (row edges v)) edge
unfolding height_of lift_of factor
places-by edges Plain typed previous phase v edge ws is long heavy inside =
    let low : edge < length (row edges v) = omega (arith, inside, long) in
    places-flat (rule_board edges Plain previous phase ws (row edges v)) edge (omega arith) heavy inside refl
    (rw (factor-at edges Plain previous phase (row edges v) edge low) (omega arith))
places-by edges (Scheme kinds) typed previous phase v edge ws is long heavy inside =
    let low : edge < length (row edges v) = omega (arith, inside, long) in
    places-flat (rule_board edges (Scheme kinds) previous phase ws (row edges v)) edge (omega arith) heavy inside refl
    (rw (factor-at edges (Scheme kinds) previous phase (row edges v) edge low) (scheme-under edges kinds previous phase (get_or (row edges v) edge some_edge)))
places-by edges (Node2vec p q) typed None phase v edge ws is long heavy inside =
    let low : edge < length (row edges v) = omega (arith, inside, long) in
    places-flat (rule_board edges (Node2vec p q) None phase ws (row edges v)) edge (omega arith) heavy inside refl
    (rw (factor-at edges (Node2vec p q) None phase (row edges v) edge low) (omega arith))
places-by edges (Node2vec p q) (typed.Node2vec fs) (Some t) phase v edge ws is long heavy inside =
    places-near edges p q t phase v edge ws is.1 is.2 long heavy inside
places-by edges (Node2vec p q) typed.Plain (Some t) phase v edge ws is long heavy inside = absurd is
places-by edges (Node2vec p q) (typed.Scheme kinds fs) (Some t) phase v edge ws is long heavy inside = absurd is

-- a board of some height and weight has places
area-some : (b : Board) → 0 < b.height → 0 < sum b.weights → 0 < length b.weights → 0 < area b
area-some b high heavy some =
    let columns : 1 ≤ length b.weights * sum b.weights = one-le-mul some heavy in
    let main : 1 ≤ length b.weights * sum b.weights * b.height = one-le-mul columns high in
    omega (arith, main)

-- the board of a rule has some height
height-some : (rule : Rule) (typed : TypedFactors) (previous : Option ℕ) → AreTyped rule typed → 0 < height_of rule previous
unfolding height_of
height-some Plain typed previous is = omega arith
height-some (Scheme kinds) typed previous is = omega arith
height-some (Node2vec p q) typed None is = omega arith
height-some (Node2vec p q) (typed.Node2vec fs) (Some t) is = let some : 1 ≤ common_factor p q = one-le-mul is.1 is.2 in omega (arith, some)
height-some (Node2vec p q) typed.Plain (Some t) is = absurd is
height-some (Node2vec p q) (typed.Scheme kinds fs) (Some t) is = absurd is

-- a row's edges weigh something
static-some : (weighted : Bool) (e : Edge) → 1 ≤ e.weight → 1 ≤ static_weight weighted e
static-some true e some = some
static-some false e some = omega arith

heavy-row : (weighted : Bool) (vertices : ℕ) (out : List Edge) → 0 < length out → All (IsOutEdge vertices) (map out_edge out) → 0 < sum (weights_of weighted out)
unfolding weights_of
heavy-row weighted vertices [] some each = absurd (omega arith)
heavy-row weighted vertices (e ∷ es) some each =
    let first : 1 ≤ e.weight = (each 0 (out_edge e) (omega arith)).0 in
    let more = static-some weighted e first in
    let whole = sum_by-cons (λ x. x) (static_weight weighted e) (map (static_weight weighted) es) in
    omega (arith, more, whole)

-- the darts of a step from a row that isn't empty are fair, whatever the state
pub fair-darts : (edges : List Edge) (plan : Settings) (typed : TypedFactors) (s : State) (v vertices : ℕ) → AreTyped plan.rule typed
    → All (IsOutEdge vertices) (map out_edge (row edges v)) → 0 < length (row edges v)
    → HasFairDarts (board_of edges plan s (row edges v))
unfolding board_of
fair-darts edges plan typed s v vertices is each some edge inside =
    let out : List Edge = row edges v in
    let ws : List ℕ = weights_of plan.weighted out in
    let b : Board = rule_board edges plan.rule s.previous s.phase ws out in
    let heavy : 0 < sum ws = heavy-row plan.weighted vertices out some each in
    let high : 0 < b.height = height-some plan.rule typed s.previous is in
    count-hits b edge (area-some b high heavy (omega (arith, inside)))
    ∙ ap (λ k. 2 ^ 64 / area b * k)
    (places-by edges plan.rule typed s.previous s.phase v edge ws is (length-weights_of plan.weighted out) heavy inside)
