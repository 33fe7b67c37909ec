-- What walks send between parts: nothing where there is one, and the same by whatever names the parts go.
use Rattle.std.proofs.Common.{◌≡◌, ◌≤◌, ◌<◌, ◌+◌, ◌⊎◌, ◌∷◌, [], ◌++◌, ℕ, zero, suc, inl, inr, Bool, true, false, List, length, map, get_or, Option, Some, None, refl, ap, sym, subst, ◌∙◌, arith}
use Rattle.std.specs.Prelude.{OnOk, Result, Ok, Err, ◌==◌, if◌then◌else◌, ◌||◌}
use Rattle.std.proofs.lemmas.List.{append-nil}
use Rattle.walk_io.specs.Files.{Told}
use Rattle.walk_model.specs.declared.faults.WalkFault.{WalkFault}
use Rattle.walk_model.specs.declared.faults.WalkFault.TheVariants as fault
use Rattle.walk_model.specs.declared.graph.Edge.{Edge}
use Rattle.walk_model.specs.declared.messages.Letter.{Letter}
use Rattle.walk_model.specs.declared.programme.Rule.{Rule}
use Rattle.walk_model.specs.declared.programme.Rule.TheVariants.{Plain, Scheme, Node2vec}
use Rattle.walk_model.specs.declared.states.State.{State}
use Rattle.walk_model.specs.Counts.{sum_below}
use Rattle.walk_model.specs.Course.{course}
use Rattle.walk_model.specs.Cuts.{cuts_of, owner, up_to}
use Rattle.walk_model.specs.Graph.{vertices_of}
use Rattle.walk_model.specs.Letters.{Journey, ask_letters, choice_letters, letters_after, letters_then, move_letters}
use Rattle.walk_model.specs.Settings.{Settings}
use Rattle.walk_model.specs.Walk.{first_state, next_state, start_of, walker_count}
use Rattle.walk_model.specs.Words.{coin, word}
use Rattle.csr_store.specs.RowGraph.{RowGraph}
use Rattle.vertex_names.specs.Ranks.{rank_in, ranked}
use Rattle.vertex_names.proofs.IndexLemmas.{rank-at}
use Rattle.vertex_names.proofs.RisingLemmas.{Rises-vertices, increasing-from_Rises}
use Rattle.vertex_partition.specs.PartViews.{PartView, IsPartOf}
use Rattle.traveller.specs.declared.runs.Run.{Run}
use Rattle.traveller.specs.PartedRuns.{PartedRun, journey_in, letters_in}
use Rattle.traveller.specs.Runs.{start_rank}
use Rattle.traveller.specs.Standing.{parted}
use Rattle.shard_core.specs.Abreast.{OwnsAll}
use Rattle.shard_core.specs.SoundWorlds.{AreInOrder, ArePartsOf}
use Rattle.shard_core.specs.Walks.{walks_in}
use Rattle.superstep.specs.Carried.{IsLogged}
use Rattle.walk_top.specs.declared.readying.Ready.{Ready}
use Rattle.walk_top.specs.Carriage.{CarriesTask, HasCarried, LeavesCarrier}
use Rattle.walk_top.specs.Jobs.{Job, parts_of, seed_of}
use Rattle.walk_top.specs.Limits.{task_fault}
use Rattle.walk_top.specs.Outcomes.{Cause, OfWords, OfFiles, OfReading, OfWriting, OfMemory, cause_of}
use Rattle.walk_top.specs.PartedTasks.{parted_run}
use Rattle.walk_top.specs.Readiness.{IsReadyFor, cuts_in, ranked_graph}
use Rattle.walk_top.specs.Stages.{ComesIn, Stage}
use Rattle.walk_top.specs.Verdicts.{Finding, Task}
use Rattle.walk_top.proofs.CauseLemmas.{IsStatusOf}
use Rattle.walk_top.proofs.RankLemmas.{StartsOn, start-named, start-stands}
use Rattle.walk_top.proofs.TaskLemmas.{fault-of_files}
use Rattle.walk_top.proofs.WalkingLemmas.{graph_of, starts-on}

-- all vertices have one owner
abbrev pub IsOne : (ℕ → ℕ) → Type 0
IsOne owner = (a b : ℕ) → (owner a == owner b) ≡ true

choice-none : (j : Journey) (s : State) (place : ℕ) (rule : Rule) (previous : Option ℕ) → IsOne j.owner → choice_letters j s place rule previous ≡ []
unfolding choice_letters
choice-none j s place Plain previous one = refl
choice-none j s place (Scheme kinds) previous one = refl
choice-none j s place (Node2vec p q) None one = refl
choice-none j s place (Node2vec p q) (Some t) one = rw (one t s.at) refl

if-none : (b : Bool) (ls : List Letter) → ls ≡ [] → (if b then [] else ls) ≡ []
if-none true ls none = refl
if-none false ls none = none

ask-none : (j : Journey) (s : State) → IsOne j.owner → ask_letters j s ≡ []
unfolding ask_letters
ask-none j s one =
    let c = j.course in
    let stop = coin c.plan.stop c.words s.place in
    let restart = coin c.plan.restart c.words stop.1 in
    if-none (stop.0 || restart.0) (choice_letters j s restart.1 c.plan.rule s.previous) (choice-none j s restart.1 c.plan.rule s.previous one)

move-none : (j : Journey) (s t : State) → IsOne j.owner → move_letters j s t ≡ []
unfolding move_letters
move-none j s t one = rw (one s.at t.at) refl

then-none : (j : Journey) (s : State) (o : Option State) (later : State → List Letter) → IsOne j.owner → ((t : State) → later t ≡ [])
    → letters_then j s o later ≡ []
then-none j s None later one none = refl
then-none j s (Some t) later one none = ap (λ l. l ++ later t) (move-none j s t one) ∙ none t

after-none : (n : ℕ) (j : Journey) (s : State) → IsOne j.owner → letters_after n j s ≡ []
unfolding letters_after
after-none zero j s one = refl
after-none (suc n) j s one =
    ap (λ l. l ++ letters_then j s (next_state j.course s) (letters_after n j)) (ask-none j s one)
    ∙ then-none j s (next_state j.course s) (letters_after n j) one (λ t. after-none n j t one)

-- where one part owns all, nothing is sent
pub letters-none : (g : PartedRun) (i : ℕ) → IsOne g.owner → letters_in g i ≡ []
letters-none g i one = after-none g.plan.length (journey_in g i) _ one

count-none : (n : ℕ) (letters : ℕ → List Letter) → ((i : ℕ) → letters i ≡ []) → sum_below n (λ i. length (letters i)) ≡ 0
unfolding sum_below
count-none zero letters none = refl
count-none (suc n) letters none =
    let here : length (letters n) ≡ 0 = ap length (none n) in
    let rest = count-none n letters none in
    omega (arith, here, rest)

logged-none : (n : ℕ) (letters : ℕ → List Letter) (log : Option (List Letter)) → ((i : ℕ) → letters i ≡ []) → IsLogged n letters log log
logged-none n letters None none = refl
logged-none n letters (Some before) none = record {
  more = [];
  grew = sym (append-nil before);
  each = λ i low. sym (none i);
  alone = λ k d low. absurd (omega (arith, low));
}

-- and a carrier that is left alone has carried all
pub carried-none : (n : ℕ) (letters : ℕ → List Letter) (count : ℕ) (log : Option (List Letter)) → ((i : ℕ) → letters i ≡ [])
    → HasCarried n letters count count log log
carried-none n letters count log none = record {
  carried = (let all = count-none n letters none in omega (arith, all));
  logged = logged-none n letters log none;
}

count-same : (n : ℕ) (a b : ℕ → List Letter) → ((i : ℕ) → i < n → a i ≡ b i) → sum_below n (λ i. length (a i)) ≡ sum_below n (λ i. length (b i))
unfolding sum_below
count-same zero a b same = refl
count-same (suc n) a b same =
    let here : length (a n) ≡ length (b n) = ap length (same n (omega arith)) in
    let rest = count-same n a b (λ i low. same i (omega (arith, low))) in
    omega (arith, here, rest)

logged-same : (n : ℕ) (a b : ℕ → List Letter) (log log_after : Option (List Letter)) → ((i : ℕ) → i < n → a i ≡ b i)
    → IsLogged n a log log_after → IsLogged n b log log_after
logged-same n a b None after same h = h
logged-same n a b (Some before) None same h = h
logged-same n a b (Some before) (Some after) same h = record {
  more = h.more;
  grew = h.grew;
  each = λ i low. h.each i low ∙ same i low;
  alone = h.alone;
}

-- the letters of walkers count, by whatever name
pub carried-same : (n : ℕ) (a b : ℕ → List Letter) (count count_after : ℕ) (log log_after : Option (List Letter))
    → ((i : ℕ) → i < n → a i ≡ b i) → HasCarried n a count count_after log log_after → HasCarried n b count count_after log log_after
carried-same n a b count count_after log log_after same h = record {
  carried = h.carried ∙ ap (λ k. count + k) (count-same n a b same);
  logged = logged-same n a b log log_after same h.logged;
}

pub on-both : {X E : Type 0} (r : Result X E) (P Q R : Type 0) → (P → Q → R) → OnOk r P → OnOk r Q → OnOk r R
on-both (Ok x) P Q R both p q = both p q
on-both (Err e) P Q R both p q = tt

pub on-one : {X E : Type 0} (r : Result X E) (P Q : Type 0) → (P → Q) → OnOk r P → OnOk r Q
on-one (Ok x) P Q more p = more p
on-one (Err e) P Q more p = tt

pub on-all : {X E : Type 0} (r : Result X E) (P : Type 0) → P → OnOk r P
on-all (Ok x) P p = p
on-all (Err e) P p = tt

-- all parts of a graph stand in order
pub in-order : (g : RowGraph) (weighted : Bool) (cuts : List ℕ) (ps : List PartView) → ArePartsOf g weighted cuts ps → AreInOrder ps
in-order g weighted cuts ps of = record {
  cuts = cuts;
  count = of.count;
  each = λ k d low. let p = of.each k d low in (p.part, p.cuts_are);
}

-- where there is one, there is no cut
no-cut : (g : RowGraph) (weighted : Bool) (cuts : List ℕ) (ps : List PartView) → ArePartsOf g weighted cuts ps → length ps ≡ 1 → cuts ≡ []
no-cut g weighted [] ps of one = refl
no-cut g weighted (c ∷ cs) ps of one = (let count = of.count in absurd (omega (arith, one, count)))

-- it owns all vertices
pub owns-all : (g : RowGraph) (weighted : Bool) (cuts : List ℕ) (ps : List PartView) (p : PartView) → ArePartsOf g weighted cuts ps → length ps ≡ 1
    → p ≡ get_or ps 0 p → OwnsAll p
owns-all g weighted cuts ps p of one at v low =
    let here = of.each 0 p (omega (arith, one)) in
    ap (λ cs. owner cs v) (ap (λ q. q.cuts) at ∙ here.cuts_are ∙ no-cut g weighted cuts ps of one) ∙ sym (ap (λ q. q.part) at ∙ here.part)

-- its walks are those of the graph
pub walks-alone : (g : RowGraph) (run : Run) (cuts : List ℕ) (ps : List PartView) (p : PartView) (f : List (List ℕ))
    → ArePartsOf g run.plan.weighted cuts ps → length ps ≡ 1 → p ≡ get_or ps 0 p
    → ((g : RowGraph) → IsPartOf g p → f ≡ walks_in (parted g run p.cuts)) → f ≡ walks_in (parted g run cuts)
walks-alone g run cuts ps p f of one at is =
    let here = of.each 0 p (omega (arith, one)) in
    is g (subst (IsPartOf g) (sym at) here.of_graph) ∙ ap (λ cs. walks_in (parted g run cs)) (ap (λ q. q.cuts) at ∙ here.cuts_are)

-- and nothing is carried
pub carried-alone : (g : RowGraph) (run : Run) (cuts : List ℕ) (ps : List PartView) (n count : ℕ) (log : Option (List Letter))
    → ArePartsOf g run.plan.weighted cuts ps → length ps ≡ 1 → HasCarried n (letters_in (parted g run cuts)) count count log log
carried-alone g run cuts ps n count log of one =
    let all : IsOne (owner cuts) = subst (λ cs. IsOne (owner cs)) (sym (no-cut g run.plan.weighted cuts ps of one)) (λ a b. refl) in
    carried-none n (letters_in (parted g run cuts)) count log (λ i. letters-none (parted g run cuts) i all)

pub one-part : (g : RowGraph) (n : ℕ) → n ≡ 1 → length (cuts_in g n) ≡ 0
unfolding cuts_of up_to
one-part g n one = ap (λ k. length (cuts_in g k)) one

-- what follows from the plan, the seed and the rank of a start
pub by-names : {X : Type 0} (L : Settings → ℕ → ℕ → X) (edges : List Edge) (run : Run) (plan : Settings) (seed i : ℕ) → StartsOn (vertices_of edges) run
    → run.plan ≡ plan → run.seed ≡ seed → i < walker_count run.plan.start run.vertices
    → L run.plan run.seed (start_rank run.plan.start run.vertices run.start i)
    ≡ L plan seed (rank_in (vertices_of edges) (start_of plan.start (vertices_of edges) i))
by-names L edges run plan seed i on by_plan by_seed low =
    ap (L run.plan run.seed) start ∙ ap (λ p. L p run.seed (rank_in names (start_of p.start names i))) by_plan
    ∙ ap (λ n. L plan n (rank_in names (start_of plan.start names i))) by_seed
  where
    names : List ℕ
    names = vertices_of edges

    rank : ℕ
    rank = start_rank run.plan.start run.vertices run.start i

    start : rank ≡ rank_in names (start_of run.plan.start names i)
    start =
        sym (rank-at names rank (start_of run.plan.start names i) (increasing-from_Rises 0 names (Rises-vertices edges)) (start-stands names run i on low)
        (rw on.vertices (start-named run.plan.start names run.start i on.rank)))

-- the letters of walkers that start by ranks
pub letters-named : (edges : List Edge) (run : Run) (cuts : List ℕ) (plan : Settings) (seed walkers i : ℕ) → StartsOn (vertices_of edges) run
    → run.plan ≡ plan → run.seed ≡ seed → i < walker_count run.plan.start run.vertices
    → letters_in (parted (ranked_graph (vertices_of edges) edges) run cuts) i
    ≡ letters_in (record {
      edges = map (ranked (vertices_of edges)) edges;
      plan = plan;
      seed = seed;
      owner = owner cuts;
      walkers = walkers;
      start = λ walker. rank_in (vertices_of edges) (start_of plan.start (vertices_of edges) walker);
    }) i
letters-named edges run cuts plan seed walkers i on by_plan by_seed low = by-names L edges run plan seed i on by_plan by_seed low
  where
    L : Settings → ℕ → ℕ → List Letter
    L p n s =
        letters_after p.length (record { course = course (map (ranked (vertices_of edges)) edges) p (word n i) s; owner = owner cuts; walker = i })
        (first_state s)

-- a run that is ready has as many walkers as its task
pub ready-walkers : (edges : List Edge) (plan : Settings) (s n : ℕ) (r : Ready) → IsReadyFor edges plan s n r
    → walker_count r.run.plan.start r.run.vertices ≡ walker_count plan.start (length (vertices_of edges))
ready-walkers edges plan s n r ready =
    ap (λ p. walker_count p.start r.run.vertices) ready.plan_is ∙ ap (walker_count plan.start) ready.vertices

-- what a run that is ready carries is what its task carries
pub ready-carries : (edges : List Edge) (plan : Settings) (s n : ℕ) (r : Ready) (j : Job) (count count_after : ℕ) (log log_after : Option (List Letter))
    → IsReadyFor edges plan s n r → s ≡ seed_of j → n ≡ parts_of j
    → HasCarried (walker_count r.run.plan.start r.run.vertices) (letters_in (parted (graph_of edges) r.run (cuts_in (graph_of edges) n))) count count_after log log_after
    → CarriesTask (record { job = j; plan = plan; graph = edges }) count count_after log log_after
ready-carries edges plan s n r j count count_after log log_after ready seed many carried =
    subst (λ w. HasCarried w (letters_in (parted_run task)) count count_after log log_after) (ready-walkers edges plan s n r ready)
    (carried-same (walker_count r.run.plan.start r.run.vertices) (letters_in (parted (graph_of edges) r.run (cuts_in (graph_of edges) n))) (letters_in (parted_run task))
    count count_after log log_after same carried)
  where
    task : Task
    task = record { job = j; plan = plan; graph = edges }

    same : (i : ℕ) → i < walker_count r.run.plan.start r.run.vertices
        → letters_in (parted (graph_of edges) r.run (cuts_in (graph_of edges) n)) i ≡ letters_in (parted_run task) i
    same i low =
        ap (λ k. letters_in (parted (graph_of edges) r.run (cuts_in (graph_of edges) k)) i) many
        ∙ letters-named edges r.run (cuts_in (graph_of edges) (parts_of j)) plan (seed_of j) (walker_count plan.start (length (vertices_of edges))) i
        (starts-on edges plan s n r ready) ready.plan_is (ready.seed_is ∙ seed) low

-- a fault of a stage that only finds leaves a carrier as it was
pub stage-leaves : {A S : Type 0} (find : (List ℕ → Told) → Finding A) (s : Stage) (f : WalkFault) (k : Cause) (all : Type 0) (old : S)
    → ComesIn find s f k → LeavesCarrier all old old k
stage-leaves find s f OfWords all old h = refl
stage-leaves find s f OfFiles all old h = refl
stage-leaves find s f (OfReading name) all old h = refl
stage-leaves find s f OfWriting all old h = absurd h
stage-leaves find s f OfMemory all old h = tt

-- what plan and graph are refused for together does too
pub task-leaves : {S : Type 0} (plan : Settings) (edges : List Edge) (f : WalkFault) (all : Type 0) (old : S)
    → (task_fault plan edges ≡ Some f) ⊎ (f ≡ fault.Memory) → LeavesCarrier all old old (cause_of f)
task-leaves plan edges f all old way =
    elim way as (λ _. LeavesCarrier all old old (cause_of f)) [
      | inl refused ↦ subst (λ k. LeavesCarrier all old old k) (sym (fault-of_files plan edges f refused)) refl
      | inr short ↦ subst (λ x. LeavesCarrier all old old (cause_of x)) (sym short) tt
    ]

-- by its status a fault leaves a carrier as it was, or after all was carried
pub status-uncarried : {S : Type 0} (all : Type 0) (old new : S) (k : Cause) (status : ℕ) → IsStatusOf k status → LeavesCarrier all old new k
    → status ≤ 6 → new ≡ old
status-uncarried all old new OfWords status is leaves low = leaves
status-uncarried all old new OfFiles status is leaves low = leaves
status-uncarried all old new (OfReading name) status is leaves low = leaves
status-uncarried all old new OfWriting status is leaves low = absurd (omega (arith, is, low))
status-uncarried all old new OfMemory status is leaves low = absurd (omega (arith, is, low))

pub status-carried : {S : Type 0} (all : Type 0) (old new : S) (k : Cause) (status : ℕ) → IsStatusOf k status → LeavesCarrier all old new k
    → status ≡ 7 → all
status-carried all old new OfWords status is leaves seven = absurd (omega (arith, is, seven))
status-carried all old new OfFiles status is leaves seven = (let most = is.1 in absurd (omega (arith, most, seven)))
status-carried all old new (OfReading name) status is leaves seven = absurd (omega (arith, is, seven))
status-carried all old new OfWriting status is leaves seven = leaves
status-carried all old new OfMemory status is leaves seven = absurd (omega (arith, is, seven))

-- words that ask for one part have a job that does
pub ready-alone : (edges : List Edge) (plan : Settings) (s n : ℕ) (r : Ready) → IsReadyFor edges plan s n r → n ≡ 1 → length r.parts.items ≡ 1
ready-alone edges plan s n r ready one =
    let count = ready.parts_are.count in
    let none = one-part (graph_of edges) n one in
    omega (arith, count, none)

pub status-some : (k : Cause) (status : ℕ) → IsStatusOf k status → 2 ≤ status
status-some OfWords status is = omega (arith, is)
status-some OfFiles status is = (let least = is.0 in omega (arith, least))
status-some (OfReading name) status is = omega (arith, is)
status-some OfWriting status is = omega (arith, is)
status-some OfMemory status is = omega (arith, is)
