-- The walks that requests ask for, on a graph that is ready and on the graph of its file.
use Rattle.std.proofs.Common.{◌≡◌, ◌<◌, ◌≤◌, ℕ, zero, suc, Bool, true, false, List, ◌∷◌, length, map, Some, None, Option, refl, ap, sym, subst, ◌∙◌, arith}
use Rattle.std.specs.Prelude.{slice_index, IsTrue, option_map, if◌then◌else◌}
use Rattle.std.specs.List.Sorted.{IsStrictlyIncreasing}
use Rattle.walk_model.specs.declared.graph.Edge.{Edge}
use Rattle.walk_model.specs.declared.states.State.{State}
use Rattle.walk_model.specs.Course.{Course, GraphRun, course, run_on}
use Rattle.walk_model.specs.Dart.{board_of}
use Rattle.walk_model.specs.Graph.{row, vertices_of}
use Rattle.walk_model.specs.Settings.{Settings}
use Rattle.walk_model.specs.Walk.{chosen, next_state, entry_and, entries_after, first_state, walk}
use Rattle.walk_model.specs.Words.{word}
use Rattle.walk_model.proofs.RenameLemmas.{EndsIn, walk-renamed}
use Rattle.vertex_names.specs.Ranks.{is_name, rank_in, rank_of, ranked, AreNamed}
use Rattle.vertex_names.proofs.NameLaws.{ranked-ends, vertices-name, rank-within, name-at_rank}
use Rattle.vertex_names.proofs.RisingLemmas.{Rises-vertices, increasing-from_Rises}
use Rattle.csr_store.specs.RowGraph.{RowGraph}
use Rattle.vertex_partition.specs.PartViews.{PartView, IsPartOf, Owns}
use Rattle.traveller.specs.Heres.{Here}
use Rattle.shard_core.specs.Abreast.{OwnsAll}
use Rattle.request_reader.specs.declared.requests.Request.{Request}
use Rattle.request_replies.specs.PartWalks.{part_walk, rank_walk}
use Rattle.request_replies.specs.Replies.{asked_walk, all_replies}
use Rattle.request_replies.proofs.PartLaws.{SameIn, walk-same}
use Rattle.walk_top.specs.declared.undivided.Undivided.{Undivided}
use Rattle.walk_top.specs.Readiness.{ranked_graph}
use Rattle.walk_top.specs.UndividedReadiness.{IsUndividedFor}
use Rattle.walk_top.specs.ServeVerdicts.{for_requests}
use Rattle.walk_top.proofs.RankLemmas.{names-keep, edges-back, ranks-in}

-- a walk takes neither its start nor its length from the plan
next-for_requests : (es : List Edge) (plan : Settings) (words : ℕ → ℕ) (start : ℕ) (s : State)
    → next_state (course es (for_requests plan) words start) s ≡ next_state (course es plan words start) s
unfolding next_state chosen board_of
next-for_requests es plan words start s = refl

entries-for_requests : (n : ℕ) (es : List Edge) (plan : Settings) (words : ℕ → ℕ) (start : ℕ) (s : State)
    → entries_after n (course es (for_requests plan) words start) s ≡ entries_after n (course es plan words start) s
unfolding entries_after
entries-for_requests zero es plan words start s = refl
entries-for_requests (suc n) es plan words start s =
    ap (λ o. entry_and o (entries_after n (course es (for_requests plan) words start))) (next-for_requests es plan words start s)
    ∙ ap (entry_and (next_state (course es plan words start) s)) (λ i t. entries-for_requests n es plan words start t i)

walk-for_requests : (es : List Edge) (plan : Settings) (words : ℕ → ℕ) (start most : ℕ)
    → walk (course es (for_requests plan) words start) most ≡ walk (course es plan words start) most
walk-for_requests es plan words start most =
    ap (λ l. start ∷ l) (entries-for_requests most es plan words start (first_state start))

-- a name is the one at its rank, which is below the number of names
pub record IsAt (names : List ℕ) (id rank : ℕ) : Type 0 where
  pub low : rank < length names
  pub named : slice_index names rank ≡ id

-- the walk of a stream from a rank on a part with all vertices, in ids
walk-part : (edges : List Edge) (plan : Settings) (part : PartView) (words : ℕ → ℕ) (id rank most : ℕ)
    → IsPartOf (ranked_graph (vertices_of edges) edges) part → OwnsAll part → IsAt (vertices_of edges) id rank
    → map (slice_index (vertices_of edges)) (walk (course part.edges plan words rank) most) ≡ walk (course edges plan words id) most
walk-part edges plan part words id rank most of all at =
    let names : List ℕ = vertices_of edges in
    let f : ℕ → ℕ = slice_index names in
    let up : IsStrictlyIncreasing names = increasing-from_Rises 0 names (Rises-vertices edges) in
    let named : AreNamed names edges = vertices-name edges in
    let ranks : List Edge = map (ranked names) edges in
    let ends : EndsIn (λ r. r < length names) ranks = ranks-in (length names) ranks (ranked-ends names edges named) in
    let owns : (v : ℕ) → v < length names → Owns part v =
    λ v low. (let below : v < part.vertices = (let same = of.vertices in omega (arith, low, same)) in record { below = below; owner_is = all v below }) in
    let same : SameIn (λ r. r < length names) part.edges ranks =
    record { rows = λ v low. of.rows v (owns v low); has = λ t x low. of.has t x (owns t low) } in
    ap (map f) (walk-same (λ r. r < length names) part.edges ranks same ends plan words rank most at.low)
    ∙ sym (walk-renamed f (λ r. r < length names) (names-keep names up) (course ranks plan words rank) most ends at.low)
    ∙ ap (λ es. walk (course es plan words (f rank)) most) (edges-back names edges up named)
    ∙ ap (λ s. walk (course edges plan words s) most) at.named

-- the walk of a request on a graph that is ready is the one that it asks for
pub ready-asked : (edges : List Edge) (plan : Settings) (seed : ℕ) (r : Undivided) → IsUndividedFor edges (for_requests plan) seed r → (q : Request)
    → part_walk r.names (record { run = r.run; part = r.part }) q ≡ asked_walk (run_on edges plan seed) q
unfolding part_walk asked_walk
ready-asked edges plan seed r ready q = by (is_name names q.start) refl
  where
    names : List ℕ
    names = vertices_of edges

    here : Here
    here = record { run = r.run; part = r.part }

    walks : List ℕ → ℕ → List ℕ
    walks ns rank = map (slice_index ns) (rank_walk here q.stream rank q.length)

    -- by the plan and the seed that the run has
    run_is : (rank : ℕ) → walks names rank ≡ map (slice_index names) (walk (course r.part.edges plan (word seed q.stream) rank) q.length)
    run_is rank =
        ap (λ p. map (slice_index names) (walk (course r.part.edges p (word r.run.seed q.stream) rank) q.length)) ready.plan_is
        ∙ ap (λ n. map (slice_index names) (walk (course r.part.edges (for_requests plan) (word n q.stream) rank) q.length)) ready.seed_is
        ∙ ap (map (slice_index names)) (walk-for_requests r.part.edges plan (word seed q.stream) rank q.length)

    known : is_name names q.start ≡ true → walks names (rank_in names q.start) ≡ walk (course edges plan (word seed q.stream) q.start) q.length
    known is =
        let up : IsStrictlyIncreasing names = increasing-from_Rises 0 names (Rises-vertices edges) in
        run_is (rank_in names q.start)
        ∙ walk-part edges plan r.part (word seed q.stream) q.start (rank_in names q.start) q.length ready.part ready.all
        (record { low = rank-within names q.start is; named = name-at_rank names q.start up is })

    by : (b : Bool) → is_name names q.start ≡ b
        → option_map (walks r.names) (rank_of r.names q.start)
        ≡ (if is_name names q.start then Some (walk (course edges plan (word seed q.stream) q.start) q.length) else None)
    by true e =
        ap (λ (ns : List ℕ). option_map (walks ns) (rank_of ns q.start)) ready.names
        ∙ rw e (ap (λ w. Some w) (known e))
    by false e =
        ap (λ (ns : List ℕ). option_map (walks ns) (rank_of ns q.start)) ready.names
        ∙ rw e refl

-- and so are all replies
pub ready-replies : (edges : List Edge) (plan : Settings) (s seed : ℕ) (r : Undivided) (files : List (List (Option Request)))
    → IsUndividedFor edges (for_requests plan) s r → s ≡ seed
    → all_replies (part_walk r.names (record { run = r.run; part = r.part })) files ≡ all_replies (asked_walk (run_on edges plan seed)) files
ready-replies edges plan s seed r files ready same =
    ap (λ (walks : Request → Option (List ℕ)). all_replies walks files) (λ i q. ready-asked edges plan s r ready q i)
    ∙ ap (λ n. all_replies (asked_walk (run_on edges plan n)) files) same
