-- What the stages of a call say of its verdict.
use Rattle.std.proofs.Common.{◌≡◌, ◌⊎◌, ℕ, zero, suc, Bool, true, false, List, [], ◌∷◌, Option, Some, None, refl, ap, sym, subst, ◌∙◌, inl, inr, arith}
use Rattle.std.specs.Prelude.{if◌then◌else◌, Contains, option_map, IfSome, nat_lt, ◌&&◌, ◌==◌, length}
use Rattle.std.specs.Option.{option_or}
use Rattle.std.specs.Str.{bytes_eq}
use Rattle.std.proofs.lemmas.Slice.Eq.{bytes_eq-Decides}
use Rattle.walk_io.specs.Files.{Told, Unknown}
use Rattle.walk_model.specs.declared.graph.Edge.{Edge}
use Rattle.walk_model.specs.declared.programme.StartRule.{StartRule}
use Rattle.walk_model.specs.declared.programme.StartRule.TheVariants.{Each, Spread, From}
use Rattle.walk_model.specs.declared.faults.WalkFault.{WalkFault}
use Rattle.walk_model.specs.declared.faults.WalkFault.TheVariants as fault
use Rattle.walk_model.specs.Settings.{Settings}
use Rattle.walk_model.specs.Graph.{vertices_of}
use Rattle.walk_model.specs.Walk.{walker_count}
use Rattle.walk_programme.specs.Programme.{plan_of}
use Rattle.vertex_names.specs.Ranks.{is_name}
use Rattle.walk_top.specs.declared.readying.Ready.{Ready}
use Rattle.walk_top.specs.declared.words.Words.{Words}
use Rattle.walk_top.specs.Jobs.{Job, Quick, Walk, Make, job, files_of, parts_of, seed_of}
use Rattle.walk_top.specs.JobViews.{job_of}
use Rattle.walk_top.specs.Limits.{passed_limit, start_fault, count_fault, overflowing, task_fault}
use Rattle.walk_top.specs.Verdicts.{Finding, Untold, Task, and_then, unless, job_found, contents_found, short_enough, plan_found, job_plan, job_graph, task_of, verdict, MayBe}
use Rattle.walk_top.specs.Outcomes.{Call, Cause, OfWords, OfFiles, OfReading, OfWriting, OfMemory, cause_of, CameAbout, IsCaused, without, IsFileOf}
use Rattle.walk_top.specs.Readiness.{IsReadyFor}
use Rattle.walk_top.specs.ReadyTasks.{IsReadyTask}
use Rattle.walk_top.specs.Stages.{Stage, ComesIn, IsFaultIn}
use Rattle.walk_top.proofs.FindingLemmas.{and_then-maybe, and_then-refused, unless-none, unless-some, job-found}
use Rattle.walk_top.proofs.StageLemmas.{in-first, in-later, HidesOrKeeps}

-- what is found of a task once the plan and the graph are there
abbrev task_on : Job → Settings → List Edge → Finding Task
task_on j plan edges = unless (task_fault plan edges) (record { job = j; plan = plan; graph = edges })

-- and once the plan is there
abbrev pub task_by : (List ℕ → Told) → Job → Settings → Finding Task
task_by told j plan = and_then (job_graph plan.undirected told j) (task_on j plan)

pub same-name : (name : List ℕ) → bytes_eq name name ≡ true
same-name name = grind (arith, bytes_eq-Decides)

-- without a file a name's contents are unknown, or what they are with it
pub contents-hidden : {A : Type 0} (told : List ℕ → Told) (name hidden : List ℕ) (later : List ℕ → Finding A)
    → HidesOrKeeps (λ t. and_then (contents_found name (t name)) later) told hidden
contents-hidden told name hidden later =
    elim (bytes_eq name hidden) as (λ b. (and_then (contents_found name (if b then Unknown else told name)) later ≡ Untold)
    ⊎ (and_then (contents_found name (if b then Unknown else told name)) later ≡ and_then (contents_found name (told name)) later)) [
      | true ↦ inl refl
      | false ↦ inr refl
    ]

-- nothing is found in a file without it
pub contents-open : {A : Type 0} (told : List ℕ → Told) (name : List ℕ) (later : List ℕ → Finding A)
    → and_then (contents_found name (without name told name)) later ≡ Untold
contents-open told name later =
    ap (λ b. and_then (contents_found name (if b then Unknown else told name)) later) (same-name name)

plan-hidden : (told : List ℕ → Told) (j : Job) (hidden : List ℕ) → HidesOrKeeps (λ t. job_plan t j) told hidden
plan-hidden told (Quick graph seed length) hidden = inr refl
plan-hidden told (Make vertices degree seed) hidden = inr refl
plan-hidden told (Walk graph programme seed parts workers) hidden =
    contents-hidden told programme hidden (λ bytes. and_then (short_enough bytes) (λ text. plan_found (plan_of text)))

-- the faults of plan and graph together lie in the files
abbrev IsOfFiles : WalkFault → Type 0
IsOfFiles f = cause_of f ≡ OfFiles

or-both : (o p : Option WalkFault) (P : WalkFault → Type 0) → IfSome o P → IfSome p P → IfSome (option_or o p) P
or-both None p P h1 h2 = h2
or-both (Some f) p P h1 h2 = h1

map-all : {A : Type 0} (o : Option A) (make : A → WalkFault) (P : WalkFault → Type 0) → ((x : A) → P (make x)) → IfSome (option_map make o) P
map-all None make P all = tt
map-all (Some x) make P all = all x

start-of_files : (rule : StartRule) (vertices : List ℕ) → IfSome (start_fault rule vertices) IsOfFiles
start-of_files Each vertices = tt
start-of_files (Spread walkers) vertices =
    elim (nat_lt 0 walkers && length vertices == 0) as (λ b. IfSome (if b then Some (fault.NoStart None) else None) IsOfFiles) [
      | true ↦ refl
      | false ↦ tt
    ]
start-of_files (From walkers id) vertices =
    elim (is_name vertices id) as (λ b. IfSome (if b then None else Some (fault.NoStart (Some id))) IsOfFiles) [
      | true ↦ tt
      | false ↦ refl
    ]

task-of_files : (plan : Settings) (edges : List Edge) → IfSome (task_fault plan edges) IsOfFiles
task-of_files plan edges =
    let vertices : List ℕ = vertices_of edges in
    or-both (count_fault plan vertices) (option_map fault.Overflow (overflowing edges plan vertices)) IsOfFiles
    (or-both (option_map fault.Limit (passed_limit (length vertices) (walker_count plan.start (length vertices)) plan.length)) (start_fault plan.start vertices) IsOfFiles
    (map-all (passed_limit (length vertices) (walker_count plan.start (length vertices)) plan.length) fault.Limit IsOfFiles (λ what. refl))
    (start-of_files plan.start vertices))
    (map-all (overflowing edges plan vertices) fault.Overflow IsOfFiles (λ id. refl))

pub fault-of_files : (plan : Settings) (edges : List Edge) (f : WalkFault) → task_fault plan edges ≡ Some f → cause_of f ≡ OfFiles
fault-of_files plan edges f is = subst (λ o. IfSome o IsOfFiles) is (task-of_files plan edges)

-- the cause of a fault that a stage finds
caused-by : (c : Call) (j : Job) (f : WalkFault) (k : Cause) → job c.words ≡ Some j
    → ComesIn (λ told. task_of told j) (record { names = files_of j; told = c.told; reads = c.reads; reads_after = c.reads_after }) f k
    → CameAbout c f k
unfolding verdict
caused-by c j f OfWords is h = absurd h
caused-by c j f OfFiles is h =
    and_then-refused (job_found (job c.words)) (task_of c.told) j f (job-found (job c.words) j is) h
caused-by c j f (OfReading name) is h = record {
  named = subst (λ o. IsFileOf o name) (sym is) h.named;
  rose = h.rose;
  not_before = ap (λ o. and_then (job_found o) (task_of (without name c.told))) is ∙ h.not_before;
}
caused-by c j f OfWriting is h = absurd h
caused-by c j f OfMemory is h = tt

-- a fault of the plan
pub plan-caused : (c : Call) (j : Job) (f : WalkFault) → job c.words ≡ Some j
    → IsFaultIn (λ told. job_plan told j) (record { names = files_of j; told = c.told; reads = c.reads; reads_after = c.reads_after }) f
    → IsCaused c f
plan-caused c j f is h =
    let s : Stage = record { names = files_of j; told = c.told; reads = c.reads; reads_after = c.reads_after } in
    caused-by c j f (cause_of f) is (in-first (λ told. job_plan told j) (λ told plan. task_by told j plan) s f h)

-- a fault of the graph, once the plan is there
pub graph-caused : (c : Call) (j : Job) (plan : Settings) (f : WalkFault) → job c.words ≡ Some j → MayBe (job_plan c.told j) plan
    → IsFaultIn (λ told. job_graph plan.undirected told j) (record { names = files_of j; told = c.told; reads = c.reads; reads_after = c.reads_after }) f
    → IsCaused c f
graph-caused c j plan f is planned h =
    let s : Stage = record { names = files_of j; told = c.told; reads = c.reads; reads_after = c.reads_after } in
    caused-by c j f (cause_of f) is
    (in-later (λ told. job_plan told j) (λ told p. task_by told j p) s f plan planned (plan-hidden c.told j)
    (in-first (λ told. job_graph plan.undirected told j) (λ told edges. task_on j plan edges) s f h))

-- what both together are refused for
pub task-caused : (c : Call) (j : Job) (plan : Settings) (edges : List Edge) (f : WalkFault) → job c.words ≡ Some j
    → MayBe (job_plan c.told j) plan → MayBe (job_graph plan.undirected c.told j) edges
    → (task_fault plan edges ≡ Some f) ⊎ (f ≡ fault.Memory) → IsCaused c f
task-caused c j plan edges f is planned drawn way =
    elim way as (λ _. IsCaused c f) [
      | inl refused ↦ subst (λ k. CameAbout c f k) (sym (fault-of_files plan edges f refused))
          (caused-by c j f OfFiles is
          (and_then-refused (job_plan c.told j) (task_by c.told j) plan f planned
          (and_then-refused (job_graph plan.undirected c.told j) (task_on j plan) edges f drawn
          (unless-some (task_fault plan edges) (record { job = j; plan = plan; graph = edges }) f refused))))
      | inr short ↦ subst (λ x. IsCaused c x) (sym short) tt
    ]

-- the task that may be accepted
pub task-may_be : (words : List (List ℕ)) (told : List ℕ → Told) (j : Job) (plan : Settings) (edges : List Edge) → job words ≡ Some j
    → MayBe (job_plan told j) plan → MayBe (job_graph plan.undirected told j) edges → task_fault plan edges ≡ None
    → MayBe (verdict words told) (record { job = j; plan = plan; graph = edges })
unfolding verdict
task-may_be words told j plan edges is planned drawn none =
    let task : Task = record { job = j; plan = plan; graph = edges } in
    and_then-maybe (job_found (job words)) (task_of told) j task (job-found (job words) j is)
    (and_then-maybe (job_plan told j) (task_by told j) plan task planned
    (and_then-maybe (job_graph plan.undirected told j) (task_on j plan) edges task drawn
    (unless-none (task_fault plan edges) task none)))

-- a graph that is drawn by what is told, under other names
pub drawn-kept : (j : Job) (u v : Bool) (told_first told : List ℕ → Told) (edges : List Edge) → u ≡ v → told_first ≡ told
    → MayBe (job_graph u told_first j) edges → MayBe (job_graph v told j) edges
drawn-kept j u v told_first told edges wants kept drawn =
    subst (λ b. MayBe (job_graph b told j) edges) wants (subst (λ (t : List ℕ → Told). MayBe (job_graph u t j) edges) kept drawn)

-- a graph that is ready for the numbers of a job is ready for the words
pub ready-task : (words : Words) (plan : Settings) (edges : List Edge) (r : Ready) (seed parts : ℕ) → IsReadyFor edges plan seed parts r
    → seed ≡ seed_of (job_of words) → parts ≡ parts_of (job_of words) → task_fault plan edges ≡ None → IsReadyTask words plan edges r
ready-task words plan edges r seed parts ready by_seed by_parts none = record {
  is = subst (λ n. IsReadyFor edges plan n (parts_of (job_of words)) r) by_seed (subst (λ n. IsReadyFor edges plan seed n r) by_parts ready);
  none = none;
}

-- a walk's graph is one of its files
pub graph-among : (programme graph n : List ℕ) → Contains (graph ∷ []) n → Contains (programme ∷ graph ∷ []) n
graph-among programme graph n (zero, low, is) = (1, omega arith, is)
graph-among programme graph n (suc k, low, is) = absurd (omega arith)
