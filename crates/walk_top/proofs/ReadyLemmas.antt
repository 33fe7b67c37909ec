-- A graph made ready.
use Rattle.std.proofs.Common.{◌≡◌, ◌<◌, ◌+◌, ◌^◌, ℕ, zero, suc, Bool, true, false, List, [], ◌∷◌, length, map, get_or, Option, Some, None, ap, sym, subst, ◌∙◌, arith}
use Rattle.std.specs.Prelude.{if◌then◌else◌, nat_lt, slice_index, find, option_map, unwrap_or}
use Rattle.std.specs.Option.{option_or}
use Rattle.std.proofs.lemmas.List.Folds.{find-append}
use Rattle.std.specs.List.Sorted.{IsStrictlyIncreasing}
use Rattle.walk_model.specs.declared.graph.Edge.{Edge}
use Rattle.walk_model.specs.declared.faults.WalkFault.TheVariants as fault
use Rattle.walk_model.specs.Settings.{Settings}
use Rattle.walk_model.specs.Graph.{row, vertices_of}
use Rattle.walk_model.specs.Factor.{greatest_factor}
use Rattle.vertex_names.proofs.NameLaws.{vertices-name}
use Rattle.vertex_names.proofs.RisingLemmas.{Rises-vertices, increasing-from_Rises}
use Rattle.csr_store.specs.RowGraph.{RowGraph}
use Rattle.walk_top.specs.declared.readying.Ready.{Ready}
use Rattle.walk_top.specs.Limits.{count_fault, overflowing, task_fault}
use Rattle.walk_model.specs.Numbers.{below}
use Rattle.walk_model.specs.Cuts.{costs_of, cuts_of}
use Rattle.walk_model.specs.Walk.{walker_count}
use Rattle.vertex_partition.specs.PartViews.{PartView, IsPart, IsPartOf}
use Rattle.vertex_partition.specs.Reaches.{row_reach}
use Rattle.vertex_names.specs.Ranks.{ranked}
use Rattle.shard_core.proofs.SuitLemmas.{suits-part}
use Rattle.shard_core.specs.SoundWorlds.{ArePartsOf}
use Rattle.walk_top.specs.Ranked.{IsRankedBy}
use Rattle.walk_top.specs.Readiness.{IsReadyFor, cuts_in, ranked_graph}
use Rattle.walk_top.specs.Starts.{IsRankOf}
use Rattle.walk_top.proofs.ReachLemmas.{overflow-named}

some_none : (x : ℕ) → Some x ≡ None → ⊥
some_none x e = let P : Option ℕ → Type 0 = λ o. elim o as (λ _. Type 0) [ None ↦ ⊥ | Some y ↦ Unit {0} ] in subst P e tt

-- what is found first in a list, or else the one element after it
found-split : (n r : ℕ) (b : Bool) (o : Option ℕ) → (Some r ≡ o → r < n) → Some r ≡ option_or o (if b then Some n else None) → r < suc n
found-split n r true None low is = let same : r ≡ n = ap (λ o. unwrap_or o 0) is in omega (arith, same)
found-split n r false None low is = absurd (some_none r is)
found-split n r b (Some x) low is = let less = low is in omega (arith, less)

-- what is found among the numbers below a bound is one of them
pub found-low : (p : ℕ → Bool) (n r : ℕ) → Some r ≡ find p (below n) → r < n
unfolding below
found-low p zero r is = absurd (some_none r is)
found-low p (suc n) r is =
    found-split n r (p n) (find p (below n)) (λ e. found-low p n r e) (is ∙ find-append p (below n) (n ∷ []))

-- what the least rank that overflows says of a plan on a graph, whose counts and start are fine
pub task-by_rank : (plan : Settings) (edges : List Edge) (names : List ℕ) (g : RowGraph) (weighted : Bool) (factor : ℕ) (o : Option ℕ)
    → names ≡ vertices_of edges → count_fault plan names ≡ None → IsRankedBy names edges g
    → weighted ≡ plan.weighted → factor ≡ greatest_factor plan.rule
    → o ≡ find (λ v. nat_lt (2 ^ 62) (row_reach g weighted factor v)) (below g.vertices)
    → task_fault plan edges ≡ option_map fault.Overflow (option_map (slice_index names) o)
task-by_rank plan edges names g weighted factor o called fine by weighs greatest is =
    let all : List ℕ = vertices_of edges in
    let up : IsStrictlyIncreasing all = increasing-from_Rises 0 all (Rises-vertices edges) in
    let ranked : IsRankedBy all edges g = subst (λ (ns : List ℕ). IsRankedBy ns edges g) called by in
    let found : o ≡ find (λ v. nat_lt (2 ^ 62) (row_reach g plan.weighted (greatest_factor plan.rule) v)) (below g.vertices) =
    is ∙ ap (λ b. find (λ v. nat_lt (2 ^ 62) (row_reach g b factor v)) (below g.vertices)) weighs
    ∙ ap (λ f. find (λ v. nat_lt (2 ^ 62) (row_reach g plan.weighted f v)) (below g.vertices)) greatest in
    ap (λ q. option_or q (option_map fault.Overflow (overflowing edges plan all))) (ap (count_fault plan) (sym called) ∙ fine)
    ∙ ap (option_map fault.Overflow) (overflow-named edges plan g up (vertices-name edges) ranked ∙ ap (option_map (slice_index all)) (sym found))
    ∙ ap (λ (ns : List ℕ). option_map fault.Overflow (option_map (slice_index ns) o)) (sym called)

-- what a part keeps of a graph in ranks: the rows of the stored graph are those of the edges in ranks
ranked-part : (edges : List Edge) (g : RowGraph) (p : PartView) → IsRankedBy (vertices_of edges) edges g → IsPartOf g p
    → IsPartOf (ranked_graph (vertices_of edges) edges) p
ranked-part edges g p by of = record {
  vertices = of.vertices ∙ by.vertices;
  rows = λ v owns. of.rows v owns ∙ by.rows v;
  has = λ t x owns. of.has t x owns ∙ by.has t x;
}

-- all parts of the stored graph are, in order, all parts of the graph in ranks
ranked-parts : (edges : List Edge) (g : RowGraph) (weighted : Bool) (cuts : List ℕ) (ps : List PartView) → IsRankedBy (vertices_of edges) edges g
    → length ps ≡ length cuts + 1 → ((k : ℕ) (d : PartView) → k < length ps → IsPart g weighted cuts k (get_or ps k d))
    → ArePartsOf (ranked_graph (vertices_of edges) edges) weighted cuts ps
ranked-parts edges g weighted cuts ps by count parts = record {
  count = count;
  each = λ k d low.
      let p = parts k d low in
      record {
        part = p.part;
        cuts_are = p.cuts_are;
        weights = p.weights;
        of_graph = ranked-part edges g (get_or ps k d) by p.of_graph;
        only = p.only;
      };
}

-- vertices cost the same in the stored graph and in ranks
costs-ranked : (edges : List Edge) (g : RowGraph) → IsRankedBy (vertices_of edges) edges g
    → costs_of g.edges (below g.vertices)
    ≡ (let r = ranked_graph (vertices_of edges) edges in costs_of r.edges (below r.vertices))
unfolding costs_of
costs-ranked edges g by =
    ap (λ (f : ℕ → ℕ). map f (below g.vertices)) (λ i v. 1 + length (by.rows v i))
    ∙ ap (λ n. map (λ v. 1 + length (row (map (ranked (vertices_of edges)) edges) v)) (below n)) by.vertices

-- a graph is ready
pub ready-for : (plan : Settings) (edges : List Edge) (seed parts : ℕ) {r : Ready} (g : RowGraph) (names : List ℕ) (weighted : Bool) (factor : ℕ) (cuts : List ℕ)
    → r.names ≡ names → names ≡ vertices_of edges → r.run.plan ≡ plan → r.run.seed ≡ seed → r.run.vertices ≡ length names
    → IsRankedBy names edges g → length r.parts.items ≡ length cuts + 1
    → ((k : ℕ) (d : PartView) → k < length r.parts.items → IsPart g weighted cuts k (get_or r.parts.items k d))
    → cuts ≡ cuts_of (costs_of g.edges (below g.vertices)) parts → r.cuts.cuts ≡ cuts
    → IsRankOf plan.start names r.run.start → (0 < walker_count plan.start (length names) → 0 < length names)
    → weighted ≡ plan.weighted → factor ≡ greatest_factor plan.rule
    → None ≡ find (λ v. nat_lt (2 ^ 62) (row_reach g weighted factor v)) (below g.vertices)
    → IsReadyFor edges plan seed parts r
ready-for plan edges seed parts {r} g names weighted factor cuts kept called by_plan by_seed many by count each cut held rank some weighs greatest none =
    let here : IsRankedBy (vertices_of edges) edges g = subst (λ (ns : List ℕ). IsRankedBy ns edges g) called by in
    let long : length names ≡ length (vertices_of edges) = ap (λ (ns : List ℕ). length ns) called in
    let by_run : weighted ≡ r.run.plan.weighted = weighs ∙ ap (λ p. p.weighted) (sym by_plan) in
    let by_rule : factor ≡ greatest_factor r.run.plan.rule = greatest ∙ ap (λ p. greatest_factor p.rule) (sym by_plan) in
    let between : cuts ≡ cuts_in (ranked_graph (vertices_of edges) edges) parts =
    cut ∙ ap (λ costs. cuts_of costs parts) (costs-ranked edges g here) in
    let all : ArePartsOf (ranked_graph (vertices_of edges) edges) r.run.plan.weighted cuts r.parts.items =
    subst (λ w. ArePartsOf (ranked_graph (vertices_of edges) edges) w cuts r.parts.items) by_run
    (ranked-parts edges g weighted cuts r.parts.items here count each) in
    record {
      names = kept ∙ called;
      plan_is = by_plan;
      seed_is = by_seed;
      vertices = many ∙ long;
      rank = subst (λ (ns : List ℕ). IsRankOf plan.start ns r.run.start) called rank;
      cuts_are = held ∙ between;
      parts_are = subst (λ (cs : List ℕ). ArePartsOf (ranked_graph (vertices_of edges) edges) r.run.plan.weighted cs r.parts.items) between all;
      walkable = record {
        suits = λ k d low.
            suits-part r.run g weighted factor cuts k (get_or r.parts.items k d) (each k d low) (many ∙ long ∙ sym here.vertices) by_run by_rule none;
        graph = ranked_graph (vertices_of edges) edges;
        cuts = cuts;
        of_graph = all;
        some = subst (λ (p : Settings). 0 < walker_count p.start r.run.vertices → 0 < r.run.vertices) (sym by_plan)
            (subst (λ n. 0 < walker_count plan.start n → 0 < n) (sym many) some);
      };
    }
