-- The report of a graph that is ready is that of its task, and its numbers are small.
use Rattle.std.proofs.Common.{◌≡◌, ◌≤◌, ◌<◌, ◌+◌, ◌-◌, ◌*◌, ◌^◌, ℕ, Bool, true, false, List, length, map, Option, Some, None, refl, ap, sym, subst, ◌∙◌, arith}
use Rattle.std.specs.Prelude.{if◌then◌else◌, nat_lt, option_map, Result, Ok, Err}
use Rattle.std.specs.Option.{option_or}
use Rattle.std.proofs.lemmas.Bool.Decides.{nat_tests}
use Rattle.walk_model.specs.declared.graph.Edge.{Edge}
use Rattle.walk_model.specs.declared.faults.Limit.TheVariants.{Vertices, PathEntries}
use Rattle.walk_model.specs.declared.faults.WalkFault.{WalkFault}
use Rattle.walk_model.specs.declared.faults.WalkFault.TheVariants as fault
use Rattle.walk_model.specs.declared.limits.TheConstants.{MAX_PATH_ENTRIES, MAX_VERTICES}
use Rattle.walk_model.specs.Counts.{sum_below}
use Rattle.walk_model.specs.Course.{course, run_on}
use Rattle.walk_model.specs.Graph.{vertices_of}
use Rattle.walk_model.specs.Settings.{Settings}
use Rattle.walk_model.specs.Text.{text}
use Rattle.walk_model.specs.Walk.{walk, walker_count}
use Rattle.walk_model.specs.Words.{word}
use Rattle.vertex_names.specs.Ranks.{ranked}
use Rattle.csr_store.specs.RowGraph.{RowGraph}
use Rattle.traveller.specs.PartedRuns.{PartedRun, letters_in, walk_in}
use Rattle.traveller.specs.Standing.{parted}
use Rattle.shard_core.specs.SoundWorlds.{ArePartsOf}
use Rattle.walk_top.specs.declared.readying.Ready.{Ready}
use Rattle.walk_top.specs.declared.walking.WriteFault.{WriteFault}
use Rattle.walk_top.specs.declared.walking.WriteFault.TheVariants as write
use Rattle.walk_top.specs.Jobs.{Job, asks_report, parts_of, seed_of}
use Rattle.walk_top.specs.Limits.{count_fault, overflowing, passed_limit, start_fault, task_fault}
use Rattle.walk_top.specs.Outputs.{all_walks, output}
use Rattle.walk_top.specs.PartedTasks.{parted_run}
use Rattle.walk_top.specs.Readiness.{IsReadyFor, cuts_in}
use Rattle.walk_top.specs.Reports.{all_saying, all_steps, count_saying, is_ask, is_move, report, report_on}
use Rattle.walk_top.specs.Verdicts.{Task}
use Rattle.walk_top.specs.WriteFaults.{OnceWalked}
use Rattle.walk_top.proofs.CarriageLemmas.{by-names, letters-named, ready-walkers}
use Rattle.walk_top.proofs.RankLemmas.{StartsOn}
use Rattle.walk_top.proofs.ReportLemmas.{sum-same}
use Rattle.walk_top.proofs.WalkingLemmas.{graph_of, starts-on}

-- two runs have as many walkers, which take the same walks and send the same letters
record IsAlike (a b : PartedRun) : Type 0 where
  pub walkers : a.walkers ≡ b.walkers
  pub walks : (i : ℕ) → i < a.walkers → walk_in a i ≡ walk_in b i
  pub letters : (i : ℕ) → i < a.walkers → letters_in a i ≡ letters_in b i

report-same : (a b : PartedRun) → IsAlike a b → report_on a ≡ report_on b
report-same a b alike =
    let steps : all_steps a ≡ all_steps b =
    sum-same a.walkers (λ i. length (walk_in a i) - 1) (λ i. length (walk_in b i) - 1) (λ i low. ap (λ (w : List ℕ). length w - 1) (alike.walks i low))
    ∙ ap (λ n. sum_below n (λ i. length (walk_in b i) - 1)) alike.walkers in
    let moves : all_saying is_move a ≡ all_saying is_move b =
    sum-same a.walkers (λ i. count_saying is_move (letters_in a i)) (λ i. count_saying is_move (letters_in b i))
    (λ i low. ap (count_saying is_move) (alike.letters i low))
    ∙ ap (λ n. sum_below n (λ i. count_saying is_move (letters_in b i))) alike.walkers in
    let asks : all_saying is_ask a ≡ all_saying is_ask b =
    sum-same a.walkers (λ i. count_saying is_ask (letters_in a i)) (λ i. count_saying is_ask (letters_in b i))
    (λ i low. ap (count_saying is_ask) (alike.letters i low))
    ∙ ap (λ n. sum_below n (λ i. count_saying is_ask (letters_in b i))) alike.walkers in
    ap (λ n. report n (all_steps a) (all_saying is_move a) (all_saying is_ask a)) alike.walkers
    ∙ ap (λ n. report b.walkers n (all_saying is_move a) (all_saying is_ask a)) steps
    ∙ ap (λ n. report b.walkers (all_steps b) n (all_saying is_ask a)) moves
    ∙ ap (λ n. report b.walkers (all_steps b) (all_saying is_move b) n) asks

-- the report on a run that is ready is that of its task
pub ready-report : (edges : List Edge) (plan : Settings) (s n : ℕ) (r : Ready) (j : Job) → IsReadyFor edges plan s n r → s ≡ seed_of j → n ≡ parts_of j
    → report_on (parted (graph_of edges) r.run r.cuts.cuts) ≡ report_on (parted_run (record { job = j; plan = plan; graph = edges }))
ready-report edges plan s n r j ready seed many =
    report-same (parted g r.run r.cuts.cuts) (parted_run task) (record {
      walkers = ready-walkers edges plan s n r ready;
      walks = λ i low. by-names (W i) edges r.run plan (seed_of j) i on ready.plan_is (ready.seed_is ∙ seed) low;
      letters = λ i low.
          ap (λ cs. letters_in (parted g r.run cs) i) (ready.cuts_are ∙ ap (cuts_in g) many)
          ∙ letters-named edges r.run (cuts_in g (parts_of j)) plan (seed_of j) (walker_count plan.start (length (vertices_of edges))) i
          on ready.plan_is (ready.seed_is ∙ seed) low;
    })
  where
    g : RowGraph
    g = graph_of edges

    task : Task
    task = record { job = j; plan = plan; graph = edges }

    on : StartsOn (vertices_of edges) r.run
    on = starts-on edges plan s n r ready

    W : ℕ → Settings → ℕ → ℕ → List ℕ
    W i p k start = walk (course (map (ranked (vertices_of edges)) edges) p (word k i) start) p.length

-- what a task writes, by what its job asks for
pub output-report : (t : Task) → asks_report t.job ≡ true → output t ≡ report_on (parted_run t)
output-report t asks = ap (λ b. if b then report_on (parted_run t) else text (all_walks (run_on t.graph t.plan (seed_of t.job)))) asks

pub output-text : (t : Task) → asks_report t.job ≡ false → output t ≡ text (all_walks (run_on t.graph t.plan (seed_of t.job)))
output-text t asks = ap (λ b. if b then report_on (parted_run t) else text (all_walks (run_on t.graph t.plan (seed_of t.job)))) asks

-- the parts of a graph that is ready lie between its cuts
pub ready-parts : (edges : List Edge) (plan : Settings) (s n : ℕ) (r : Ready) → IsReadyFor edges plan s n r
    → ArePartsOf (graph_of edges) r.run.plan.weighted r.cuts.cuts r.parts.items
ready-parts edges plan s n r ready =
    subst (λ (cs : List ℕ). ArePartsOf (graph_of edges) r.run.plan.weighted cs r.parts.items) (sym ready.cuts_are) ready.parts_are

-- a fact once walks are taken, from another one
pub once-more : {X : Type 0} (r : Result X WriteFault) (P Q : Type 0) → (P → Q) → OnceWalked r P → OnceWalked r Q
once-more (Ok x) P Q more p = more p
once-more (Err write.Failed) P Q more p = more p
once-more (Err write.Memory) P Q more p = tt

-- no fault
abbrev IsNothing : Option WalkFault → Type 0
IsNothing None = Unit {0}
IsNothing (Some f) = ⊥

first-nothing : (a b : Option WalkFault) → IsNothing (option_or a b) → IsNothing a
first-nothing None b none = tt
first-nothing (Some f) b none = none

few-by : (a b : Bool) (n : ℕ) → nat_lt MAX_PATH_ENTRIES n ≡ b
    → IsNothing (option_map fault.Limit (if a then Some Vertices else (if b then Some PathEntries else None))) → n ≤ MAX_PATH_ENTRIES
few-by true b n is none = absurd none
few-by false true n is none = absurd none
few-by false false n is none = grind (arith, nat_tests, is)

-- where nothing is refused, all walks together are within the limit of entries
task-few : (plan : Settings) (edges : List Edge) → task_fault plan edges ≡ None
    → walker_count plan.start (length (vertices_of edges)) * (plan.length + 1) ≤ MAX_PATH_ENTRIES
task-few plan edges none =
    let vertices : List ℕ = vertices_of edges in
    let walkers : ℕ = walker_count plan.start (length vertices) in
    few-by (nat_lt MAX_VERTICES (length vertices)) (nat_lt MAX_PATH_ENTRIES (walkers * (plan.length + 1))) (walkers * (plan.length + 1)) refl
    (first-nothing (option_map fault.Limit (passed_limit (length vertices) walkers plan.length)) (start_fault plan.start vertices)
    (first-nothing (count_fault plan vertices) (option_map fault.Overflow (overflowing edges plan vertices)) (subst IsNothing (sym none) tt)))

-- and the steps of all walks are few
pub ready-few : (edges : List Edge) (plan : Settings) (s n : ℕ) (r : Ready) → IsReadyFor edges plan s n r → task_fault plan edges ≡ None
    → walker_count r.run.plan.start r.run.vertices * r.run.plan.length < 2 ^ 64
ready-few edges plan s n r ready none =
    let walkers : ℕ = walker_count plan.start (length (vertices_of edges)) in
    let few = task-few plan edges none in
    let product : walkers * (plan.length + 1) ≡ walkers * plan.length + walkers = grind arith in
    let most : walkers * plan.length < 2 ^ 64 = omega (arith, few, product) in
    subst (λ k. k * r.run.plan.length < 2 ^ 64) (sym (ready-walkers edges plan s n r ready))
    (subst (λ (p : Settings). walkers * p.length < 2 ^ 64) (sym ready.plan_is) most)
