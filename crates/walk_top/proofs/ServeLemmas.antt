-- What the stages of `serve` say of its verdict.
use Rattle.std.proofs.Common.{◌≡◌, ◌≤◌, ◌⊎◌, ◌+◌, ◌*◌, ◌<◌, ℕ, zero, suc, Bool, true, false, List, [], ◌∷◌, ◌++◌, length, map, take, drop, get_or, Option, Vec, Some, None, refl, ap, sym, subst, ◌∙◌, inl, inr, arith}
use Rattle.std.specs.Prelude.{if◌then◌else◌, nat_lt, Contains, IfSome, option_map, sum_by}
use Rattle.std.specs.declared.alloc.Global.{Global}
use Rattle.std.proofs.lemmas.List.{take_more, take-append-drop}
use Rattle.std.proofs.lemmas.List.Sums.{sum_by-append, sum_by-cons}
use Rattle.std.specs.Option.{option_or}
use Rattle.std.proofs.lemmas.Bool.Decides.{nat_tests}
use Rattle.walk_io.specs.Files.{Told, Unknown, Missing, Holds, IfRead}
use Rattle.walk_model.specs.declared.limits.TheConstants.{MAX_PATH_ENTRIES, MAX_VERTICES}
use Rattle.walk_model.specs.declared.graph.Edge.{Edge}
use Rattle.walk_model.specs.declared.faults.Limit.TheVariants.{Vertices, PathEntries, RequestBytes}
use Rattle.walk_model.specs.declared.faults.WalkFault.{WalkFault}
use Rattle.walk_model.specs.declared.faults.WalkFault.TheVariants as fault
use Rattle.walk_model.specs.Graph.{vertices_of}
use Rattle.walk_model.specs.Settings.{Settings}
use Rattle.walk_programme.specs.Programme.{plan_of}
use Rattle.edge_reader.specs.GraphFile.{graph_of}
use Rattle.request_reader.specs.declared.requests.Request.{Request}
use Rattle.request_reader.specs.Requests.{requests_of}
use Rattle.request_replies.specs.Answered.{AreAllShort, AreShort, lists_of}
use Rattle.walk_model.specs.declared.programme.StartRule.TheVariants.{Each}
use Rattle.walk_model.specs.Walk.{walker_count}
use Rattle.walk_top.specs.Limits.{overflowing, passed_limit, task_fault}
use Rattle.walk_top.specs.Verdicts.{Finding, Found, Refused, Lacks, Untold, and_then, unless, contents_found, short_enough, plan_found, graph_found, most_limits, named_plan, named_graph, MayBe, MayRefuse}
use Rattle.walk_top.specs.Outcomes.{Call, Cause, OfWords, OfFiles, OfReading, OfWriting, OfMemory, cause_of, without}
use Rattle.walk_top.specs.Stages.{Stage, ComesIn, IsFaultIn}
use Rattle.walk_top.specs.ServeJobs.{ServeJob, serve_job, serve_files}
use Rattle.walk_top.specs.ServeVerdicts.{ServeTask, serve_found, short_file, named_requests, requests_after, all_requests, graph_fault, entries_of, all_entries, entries_fault, served_on, serve_task, serve_verdict, for_requests}
use Rattle.walk_top.specs.ServeOutcomes.{ServeCameAbout, IsServeCaused, IsServeFile}
use Rattle.walk_top.proofs.FindingLemmas.{and_then-maybe, and_then-refused, unless-none, unless-some, read-may_be, read-refused, read-fact}
use Rattle.walk_top.proofs.StageLemmas.{in-first, in-later, HidesOrKeeps}
use Rattle.walk_top.proofs.TaskLemmas.{contents-hidden}

-- ---- the requests of a name

-- the requests of a file that was read, and isn't too long
pub requests-may_be : (name : List ℕ) (t : Told) (text : List ℕ) (rs : List (Option Request)) → IfRead t (λ all. all ≡ text) → length text ≤ 16777216
    → rs ≡ requests_of text → MayBe (and_then (contents_found name t) (λ bytes. and_then (short_file bytes) (λ b. Found (requests_of b)))) rs
requests-may_be name t text rs read low is =
    read-may_be name t (λ bytes. and_then (short_file bytes) (λ b. Found (requests_of b))) rs
    (read-fact t (λ all. all ≡ text) (λ all. MayBe (and_then (short_file all) (λ b. Found (requests_of b))) rs)
    (λ all same. subst (λ (l : List ℕ). MayBe (and_then (short_file l) (λ b. Found (requests_of b))) rs) (sym same)
    (let not : nat_lt 16777216 (length text) ≡ false = grind (arith, nat_tests) in rw not (sym is))) read)

-- one that is too long
pub requests-refused : (name : List ℕ) (t : Told) → IfRead t (λ all. 16777216 < length all)
    → MayRefuse (and_then (contents_found name t) (λ bytes. and_then (short_file bytes) (λ b. Found (requests_of b)))) (fault.Limit RequestBytes)
requests-refused name t read =
    read-refused name t (λ bytes. and_then (short_file bytes) (λ b. Found (requests_of b))) (fault.Limit RequestBytes)
    (read-fact t (λ all. 16777216 < length all) (λ all. MayRefuse (and_then (short_file all) (λ b. Found (requests_of b))) (fault.Limit RequestBytes))
    (λ all long. (let over : nat_lt 16777216 (length all) ≡ true = grind (arith, nat_tests) in rw over refl)) read)

-- without a file a name's requests are unknown, or what they are with it
pub requests-hidden : (told : List ℕ → Told) (name hidden : List ℕ) → HidesOrKeeps (λ t. named_requests t name) told hidden
requests-hidden told name hidden = contents-hidden told name hidden (λ bytes. and_then (short_file bytes) (λ text. Found (requests_of text)))

-- ---- the limit of entries

pub entries-fine : (vertices : List ℕ) (files : List (List (Option Request))) → all_entries vertices files ≤ MAX_PATH_ENTRIES → entries_fault vertices files ≡ None
entries-fine vertices files low = let not : nat_lt MAX_PATH_ENTRIES (all_entries vertices files) ≡ false = grind (arith, nat_tests) in rw not refl

pub entries-passed : (vertices : List ℕ) (files : List (List (Option Request))) → MAX_PATH_ENTRIES < all_entries vertices files
    → entries_fault vertices files ≡ Some (fault.Limit PathEntries)
entries-passed vertices files high = let over : nat_lt MAX_PATH_ENTRIES (all_entries vertices files) ≡ true = grind (arith, nat_tests) in rw over refl

-- ---- the stages of a call

-- the task of a job once its plan is there
abbrev pub served_by : (List ℕ → Told) → ServeJob → Settings → Finding ServeTask
served_by told j plan =
    and_then (named_graph plan.undirected told j.graph) (λ edges. and_then (unless (graph_fault plan edges) edges) (served_on told j plan))

-- and once its requests are there
abbrev pub served_with : ServeJob → Settings → List Edge → List (List (Option Request)) → Finding ServeTask
served_with j plan edges files =
    unless (entries_fault (vertices_of edges) files) (record { job = j; plan = plan; graph = edges; requests = files })

plan-hidden : (told : List ℕ → Told) (name hidden : List ℕ) → HidesOrKeeps (λ t. named_plan t name) told hidden
plan-hidden told name hidden =
    contents-hidden told name hidden (λ bytes. and_then (short_enough bytes) (λ text. plan_found (plan_of text)))

graph-hidden : (u : Bool) (told : List ℕ → Told) (name hidden : List ℕ) → HidesOrKeeps (λ t. named_graph u t name) told hidden
graph-hidden u told name hidden = contents-hidden told name hidden (λ bytes. graph_found (graph_of u most_limits bytes))

serve-found : (o : Option ServeJob) (j : ServeJob) → o ≡ Some j → MayBe (serve_found o) j
serve-found o j is = subst (λ w. MayBe (serve_found w) j) (sym is) refl

-- all that a call reads
abbrev pub stage_of : Call → ServeJob → Stage
stage_of c j = record { names = serve_files j; told = c.told; reads = c.reads; reads_after = c.reads_after }

-- the cause of a fault that a stage finds
caused-by : (c : Call) (j : ServeJob) (f : WalkFault) (k : Cause) → serve_job c.words ≡ Some j
    → ComesIn (λ told. serve_task told j) (stage_of c j) f k → ServeCameAbout c f k
unfolding serve_verdict
caused-by c j f OfWords is h = absurd h
caused-by c j f OfFiles is h = and_then-refused (serve_found (serve_job c.words)) (serve_task c.told) j f (serve-found (serve_job c.words) j is) h
caused-by c j f (OfReading name) is h = record {
  named = subst (λ o. IsServeFile o name) (sym is) h.named;
  rose = h.rose;
  not_before = ap (λ o. and_then (serve_found o) (serve_task (without name c.told))) is ∙ h.not_before;
}
caused-by c j f OfWriting is h = absurd h
caused-by c j f OfMemory is h = tt

-- a fault of the plan
pub plan-served : (c : Call) (j : ServeJob) (f : WalkFault) → serve_job c.words ≡ Some j
    → IsFaultIn (λ told. named_plan told j.programme) (stage_of c j) f → IsServeCaused c f
plan-served c j f is h =
    caused-by c j f (cause_of f) is (in-first (λ told. named_plan told j.programme) (λ told plan. served_by told j plan) (stage_of c j) f h)

-- a fault of the graph, once the plan is there
pub graph-served : (c : Call) (j : ServeJob) (plan : Settings) (f : WalkFault) → serve_job c.words ≡ Some j → MayBe (named_plan c.told j.programme) plan
    → IsFaultIn (λ told. named_graph plan.undirected told j.graph) (stage_of c j) f → IsServeCaused c f
graph-served c j plan f is planned h =
    caused-by c j f (cause_of f) is
    (in-later (λ told. named_plan told j.programme) (λ told p. served_by told j p) (stage_of c j) f plan planned (plan-hidden c.told j.programme)
    (in-first (λ told. named_graph plan.undirected told j.graph) (λ told edges. and_then (unless (graph_fault plan edges) edges) (served_on told j plan)) (stage_of c j) f h))

-- the faults of files
abbrev IsOfFiles : WalkFault → Type 0
IsOfFiles f = cause_of f ≡ OfFiles

graph-of_files : (plan : Settings) (edges : List Edge) (f : WalkFault) → graph_fault plan edges ≡ Some f → IsOfFiles f
graph-of_files plan edges f is =
    subst (λ o. IfSome o IsOfFiles) is
    (by (nat_lt MAX_VERTICES (length (vertices_of edges))) (overflowing edges plan (vertices_of edges)))
  where
    by : (b : Bool) (o : Option ℕ) → IfSome (option_or (if b then Some (fault.Limit Vertices) else None) (option_map fault.Overflow o)) IsOfFiles
    by true o = refl
    by false None = tt
    by false (Some id) = refl

-- what plan and graph are refused for together
pub both-served : (c : Call) (j : ServeJob) (plan : Settings) (edges : List Edge) (f : WalkFault) → serve_job c.words ≡ Some j
    → MayBe (named_plan c.told j.programme) plan → MayBe (named_graph plan.undirected c.told j.graph) edges
    → (graph_fault plan edges ≡ Some f) ⊎ (f ≡ fault.Memory) → IsServeCaused c f
both-served c j plan edges f is planned drawn way =
    elim way as (λ _. IsServeCaused c f) [
      | inl refused ↦ subst (λ k. ServeCameAbout c f k) (sym (graph-of_files plan edges f refused))
          (caused-by c j f OfFiles is
          (and_then-refused (named_plan c.told j.programme) (served_by c.told j) plan f planned
          (and_then-refused (named_graph plan.undirected c.told j.graph) (λ es. and_then (unless (graph_fault plan es) es) (served_on c.told j plan)) edges f drawn
          (refused-first (graph_fault plan edges) edges (served_on c.told j plan) f refused))))
      | inr short ↦ subst (λ x. IsServeCaused c x) (sym short) tt
    ]
  where
    refused-first : {A B : Type 0} (o : Option WalkFault) (x : A) (later : A → Finding B) (f : WalkFault) → o ≡ Some f → MayRefuse (and_then (unless o x) later) f
    refused-first o x later f some = subst (λ p. MayRefuse (and_then (unless p x) later) f) (sym some) refl

-- a fault of the request files, once plan and graph are fine
pub requests-served : (c : Call) (j : ServeJob) (plan : Settings) (edges : List Edge) (f : WalkFault) → serve_job c.words ≡ Some j
    → MayBe (named_plan c.told j.programme) plan → MayBe (named_graph plan.undirected c.told j.graph) edges → graph_fault plan edges ≡ None
    → IsFaultIn (λ told. all_requests told j.requests) (stage_of c j) f → IsServeCaused c f
requests-served c j plan edges f is planned drawn fine h =
    caused-by c j f (cause_of f) is
    (in-later (λ told. named_plan told j.programme) (λ told p. served_by told j p) (stage_of c j) f plan planned (plan-hidden c.told j.programme)
    (in-later (λ told. named_graph plan.undirected told j.graph) (λ told es. and_then (unless (graph_fault plan es) es) (served_on told j plan)) (stage_of c j) f edges drawn (graph-hidden plan.undirected c.told j.graph)
    (in-later (λ told. unless (graph_fault plan edges) edges) (λ told es. served_on told j plan es) (stage_of c j) f edges (unless-none (graph_fault plan edges) edges fine) (λ name. inr refl)
    (in-first (λ told. all_requests told j.requests) (λ told files. served_with j plan edges files) (stage_of c j) f h))))

-- what the requests are refused for
pub entries-served : (c : Call) (j : ServeJob) (plan : Settings) (edges : List Edge) (files : List (List (Option Request))) → serve_job c.words ≡ Some j
    → MayBe (named_plan c.told j.programme) plan → MayBe (named_graph plan.undirected c.told j.graph) edges → graph_fault plan edges ≡ None
    → MayBe (all_requests c.told j.requests) files → entries_fault (vertices_of edges) files ≡ Some (fault.Limit PathEntries)
    → IsServeCaused c (fault.Limit PathEntries)
entries-served c j plan edges files is planned drawn fine asked passed =
    caused-by c j (fault.Limit PathEntries) OfFiles is
    (and_then-refused (named_plan c.told j.programme) (served_by c.told j) plan (fault.Limit PathEntries) planned
    (and_then-refused (named_graph plan.undirected c.told j.graph) (λ es. and_then (unless (graph_fault plan es) es) (served_on c.told j plan)) edges (fault.Limit PathEntries) drawn
    (and_then-refused (unless (graph_fault plan edges) edges) (served_on c.told j plan) edges (fault.Limit PathEntries) (unless-none (graph_fault plan edges) edges fine)
    (and_then-refused (all_requests c.told j.requests) (served_with j plan edges) files (fault.Limit PathEntries) asked
    (unless-some (entries_fault (vertices_of edges) files) (record { job = j; plan = plan; graph = edges; requests = files }) (fault.Limit PathEntries) passed)))))

-- the task that may be accepted
pub served-may_be : (words : List (List ℕ)) (told : List ℕ → Told) (j : ServeJob) (plan : Settings) (edges : List Edge) (files : List (List (Option Request)))
    → serve_job words ≡ Some j → MayBe (named_plan told j.programme) plan → MayBe (named_graph plan.undirected told j.graph) edges
    → graph_fault plan edges ≡ None → MayBe (all_requests told j.requests) files → entries_fault (vertices_of edges) files ≡ None
    → MayBe (serve_verdict words told) (record { job = j; plan = plan; graph = edges; requests = files })
unfolding serve_verdict
served-may_be words told j plan edges files is planned drawn fine asked few =
    let task : ServeTask = record { job = j; plan = plan; graph = edges; requests = files } in
    and_then-maybe (serve_found (serve_job words)) (serve_task told) j task (serve-found (serve_job words) j is)
    (and_then-maybe (named_plan told j.programme) (served_by told j) plan task planned
    (and_then-maybe (named_graph plan.undirected told j.graph) (λ es. and_then (unless (graph_fault plan es) es) (served_on told j plan)) edges task drawn
    (and_then-maybe (unless (graph_fault plan edges) edges) (served_on told j plan) edges task (unless-none (graph_fault plan edges) edges fine)
    (and_then-maybe (all_requests told j.requests) (served_with j plan edges) files task asked
    (unless-none (entries_fault (vertices_of edges) files) task few)))))

-- ---- the names of a job's files

pub programme-among : (j : ServeJob) (n : List ℕ) → Contains (j.programme ∷ []) n → Contains (serve_files j) n
programme-among j n (zero, low, is) = (0, omega arith, is)
programme-among j n (suc k, low, is) = absurd (omega arith)

pub graph-among : (j : ServeJob) (n : List ℕ) → Contains (j.graph ∷ []) n → Contains (serve_files j) n
graph-among j n (zero, low, is) = (1, omega arith, is)
graph-among j n (suc k, low, is) = absurd (omega arith)

pub requests-among : (j : ServeJob) (n : List ℕ) → Contains j.requests n → Contains (serve_files j) n
requests-among j n (k, low, is) = (suc (suc k), omega arith, is)

-- ---- a plan as requests go by it

overflow-for_requests : (plan : Settings) (edges : List Edge) (vs : List ℕ) → overflowing edges (for_requests plan) vs ≡ overflowing edges plan vs
unfolding overflowing
overflow-for_requests plan edges vs = refl

walkers-for_requests : (n : ℕ) → walker_count Each n ≡ n
unfolding walker_count
walkers-for_requests n = refl

limit-for_requests : (n : ℕ) → passed_limit n n 0 ≡ (if nat_lt MAX_VERTICES n then Some Vertices else None)
limit-for_requests n = by (nat_lt MAX_VERTICES n) refl
  where
    by : (b : Bool) → nat_lt MAX_VERTICES n ≡ b → passed_limit n n 0 ≡ (if nat_lt MAX_VERTICES n then Some Vertices else None)
    by true e = rw e refl
    by false e =
        let few : n ≤ MAX_VERTICES = grind (arith, nat_tests) in
        let low : nat_lt MAX_PATH_ENTRIES (n * 1) ≡ false = grind (arith, nat_tests) in
        rw (e, low) refl

-- it is refused with a graph for the same
pub fault-for_requests : (plan : Settings) (edges : List Edge) → task_fault (for_requests plan) edges ≡ graph_fault plan edges
fault-for_requests plan edges =
    let vs : List ℕ = vertices_of edges in
    ap (λ n. option_or (option_or (option_map fault.Limit (passed_limit (length vs) n 0)) None) (option_map fault.Overflow (overflowing edges (for_requests plan) vs))) (walkers-for_requests (length vs))
    ∙ ap (λ o. option_or (option_or (option_map fault.Limit o) None) (option_map fault.Overflow (overflowing edges (for_requests plan) vs))) (limit-for_requests (length vs))
    ∙ ap (λ o. option_or (option_or (option_map fault.Limit (if nat_lt MAX_VERTICES (length vs) then Some Vertices else None)) None) (option_map fault.Overflow o)) (overflow-for_requests plan edges vs)
    ∙ both (nat_lt MAX_VERTICES (length vs)) (option_map fault.Overflow (overflowing edges plan vs))
  where
    both : (b : Bool) (o : Option WalkFault) → option_or (option_or (option_map fault.Limit (if b then Some Vertices else None)) None) o ≡ option_or (if b then Some (fault.Limit Vertices) else None) o
    both true o = refl
    both false o = refl

-- ---- the requests of several names

-- with the requests of the first names, what the rest come to is what all come to: what is found, and what fails
pub record GoOn (told : List ℕ → Told) (names : List (List ℕ)) (k : ℕ) (before : List (List (Option Request))) : Type 0 where
  pub finds : (files : List (List (Option Request))) → MayBe (requests_after told before (drop k names)) files → MayBe (all_requests told names) files
  pub fails : (s : Stage) (f : WalkFault) → s.told ≡ told → IsFaultIn (λ t. requests_after t before (drop k names)) s f → IsFaultIn (λ t. all_requests t names) s f

pub goes-none : (told : List ℕ → Told) (names : List (List ℕ)) (before : List (List (Option Request))) → before ≡ [] → GoOn told names 0 before
goes-none told names before none = record {
  finds = λ files found. subst (λ b. MayBe (requests_after told b names) files) none found;
  fails = λ s f same fault. subst (λ b. IsFaultIn (λ t. requests_after t b names) s f) none fault;
}

-- one name more
pub goes-next : (told : List ℕ → Told) (names : List (List ℕ)) (k : ℕ) (name : List ℕ) (before next : List (List (Option Request))) (more : List (Option Request))
    → drop k names ≡ name ∷ drop (k + 1) names → MayBe (named_requests told name) more → next ≡ before ++ more ∷ [] → GoOn told names k before → GoOn told names (k + 1) next
goes-next told names k name before next more cut found is on = record {
  finds = λ files rest. on.finds files (subst (λ (l : List (List ℕ)). MayBe (requests_after told before l) files) (sym cut)
      (and_then-maybe (named_requests told name) (λ requests. requests_after told (before ++ requests ∷ []) (drop (k + 1) names)) more files found
      (subst (λ b. MayBe (requests_after told b (drop (k + 1) names)) files) is rest)));
  fails = λ s f same fault. on.fails s f same (subst (λ (l : List (List ℕ)). IsFaultIn (λ t. requests_after t before l) s f) (sym cut)
      (in-later (λ t. named_requests t name) (λ t requests. requests_after t (before ++ requests ∷ []) (drop (k + 1) names)) s f more
      (subst (λ (t : List ℕ → Told). MayBe (named_requests t name) more) (sym same) found)
      (λ hidden. requests-hidden s.told name hidden)
      (subst (λ b. IsFaultIn (λ t. requests_after t b (drop (k + 1) names)) s f) is fault)));
}

-- a fault of the next name
pub goes-fault : (told : List ℕ → Told) (names : List (List ℕ)) (k : ℕ) (name : List ℕ) (before : List (List (Option Request))) (s : Stage) (f : WalkFault)
    → drop k names ≡ name ∷ drop (k + 1) names → s.told ≡ told → GoOn told names k before → IsFaultIn (λ t. named_requests t name) s f
    → IsFaultIn (λ t. all_requests t names) s f
goes-fault told names k name before s f cut same on fault =
    on.fails s f same (subst (λ (l : List (List ℕ)). IsFaultIn (λ t. requests_after t before l) s f) (sym cut)
    (in-first (λ t. named_requests t name) (λ t requests. requests_after t (before ++ requests ∷ []) (drop (k + 1) names)) s f fault))

-- all names
pub goes-all : (told : List ℕ → Told) (names : List (List ℕ)) (k : ℕ) (before : List (List (Option Request))) → length names ≤ k
    → GoOn told names k before → MayBe (all_requests told names) before
goes-all told names k before over on =
    on.finds before (subst (λ (l : List (List ℕ)). MayBe (requests_after told before l) before) (sym (none names k over)) refl)
  where
    none : (xs : List (List ℕ)) (n : ℕ) → length xs ≤ n → drop n xs ≡ []
    none [] zero low = refl
    none [] (suc n) low = refl
    none (x ∷ xs) zero low = absurd (omega arith)
    none (x ∷ xs) (suc n) low = none xs n (omega arith)

-- ---- sums so far

-- one more
pub sum-more : {X : Type 0} (f : X → ℕ) (xs : List X) (k : ℕ) (d : X) → k < length xs → sum_by f (take (k + 1) xs) ≡ sum_by f (take k xs) + f (get_or xs k d)
sum-more f xs k d low =
    let more = ap (sum_by f) (take_more xs k d low) ∙ sum_by-append f (take k xs) (get_or xs k d ∷ []) in
    let one = sum_by-cons f (get_or xs k d) [] in
    omega (arith, more, one)

-- some are no more than all
pub sum-front : {X : Type 0} (f : X → ℕ) (xs : List X) (k : ℕ) → sum_by f (take k xs) ≤ sum_by f xs
sum-front f xs k =
    let all = ap (sum_by f) (take-append-drop k xs) in
    let both = sum_by-append f (take k xs) (drop k xs) in
    omega (arith, all, both)

-- the entries of a file's requests
abbrev pub file_entries : List ℕ → Vec (Option Request) Global → ℕ
file_entries vertices f = sum_by (entries_of vertices) f.items

pub entries-is : (vertices : List ℕ) (files : List (Vec (Option Request) Global)) → all_entries vertices (lists_of files) ≡ sum_by (file_entries vertices) files
entries-is vertices [] = refl
entries-is vertices (f ∷ fs) =
    sum_by-cons (λ (rs : List (Option Request)). sum_by (entries_of vertices) rs) f.items (lists_of fs)
    ∙ ap (λ n. sum_by (entries_of vertices) f.items + n) (entries-is vertices fs)
    ∙ sym (sum_by-cons (file_entries vertices) f fs)

-- ---- a name among others

pub map-cut : {X : Type 0} (f : X → List ℕ) (xs : List X) (k : ℕ) (d : X) → k < length xs → drop k (map f xs) ≡ f (get_or xs k d) ∷ drop (k + 1) (map f xs)
map-cut f [] k d low = absurd (omega arith)
map-cut f (x ∷ xs) zero d low = refl
map-cut f (x ∷ xs) (suc k) d low = let next : suc k + 1 ≡ suc (k + 1) = omega arith in rw next (map-cut f xs k d (omega arith))

in-drop : (xs : List (List ℕ)) (k : ℕ) (name : List ℕ) (rest : List (List ℕ)) → drop k xs ≡ name ∷ rest → (d : List ℕ) → (k < length xs) × (get_or xs k d ≡ name)
in-drop [] zero name rest cut d = absurd (cc)
in-drop [] (suc k) name rest cut d = absurd (cc)
in-drop (x ∷ xs) zero name rest cut d = (omega arith, ap (λ l. get_or l 0 d) cut)
in-drop (x ∷ xs) (suc k) name rest cut d = let there = in-drop xs k name rest cut d in (omega (arith, there.0), there.1)

pub name-among : (xs : List (List ℕ)) (k : ℕ) (name : List ℕ) (rest : List (List ℕ)) → drop k xs ≡ name ∷ rest → (n : List ℕ) → Contains (name ∷ []) n → Contains xs n
name-among xs k name rest cut n (zero, low, is) = let there = in-drop xs k name rest cut n in (k, there.0, there.1 ∙ is)
name-among xs k name rest cut n (suc j, low, is) = absurd (omega arith)

-- one file more whose requests are few and short
pub short-one : (f : Vec (Option Request) Global) → length f.items ≤ 16777216 → AreShort f.items → AreAllShort (f ∷ [])
short-one f few short zero d low = (omega (arith, few), short)
short-one f few short (suc k) d low = absurd (omega arith)
