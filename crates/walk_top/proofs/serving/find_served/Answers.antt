use Rattle.std.proofs.Common.{◌≡◌, ◌<◌, ◌≤◌, ◌∷◌, [], ℕ, List, Option, Vec, Some, None, refl, ap, sym, subst, ◌∙◌, arith}
use Rattle.std.specs.Prelude.{option_map, map, length}
use Rattle.std.specs.declared.alloc.Global.{Global}
use Rattle.walk_model.specs.declared.limits.TheConstants.{MAX_PATH_ENTRIES}
use Rattle.walk_io.specs.Files.{Told}
use Rattle.walk_model.specs.Graph.{vertices_of}
use Rattle.walk_model.specs.declared.faults.Limit.TheVariants.{PathEntries}
use Rattle.request_reader.specs.declared.requests.Request.{Request}
use Rattle.request_replies.specs.Answered.{lists_of}
use Rattle.walk_top.specs.Jobs.{texts}
use Rattle.walk_top.specs.Verdicts.{MayBe, named_plan, named_graph}
use Rattle.walk_top.specs.Outcomes.{Call}
use Rattle.walk_top.specs.Stages.{Stage, IsFaultIn}
use Rattle.walk_top.specs.ServeJobs.{ServeJob, serve_job, serve_files}
use Rattle.walk_top.specs.ServeViews.{serve_of}
use Rattle.walk_top.specs.ServeVerdicts.{ServeTask, all_requests, all_entries}
use Rattle.walk_top.proofs.StageLemmas.{in-wider}
use Rattle.walk_top.proofs.ServeLemmas.{plan-served, graph-served, both-served, requests-served, entries-served, served-may_be, entries-fine, entries-passed, programme-among, graph-among, requests-among}
use Rattle.walk_top.proofs.serving.find_served.Goals as goal

pub returns-in-Err-read_programme-clause-cause : goal.returns-in-Err-read_programme-clause-cause
returns-in-Err-read_programme-clause-cause g c = λ writes after.
    let j : ServeJob = serve_of c.in-Ok-Some.command in
    let is : serve_job (texts c.args.words.now) ≡ Some j = sym c.in-Ok-Some.ensures.job ∙ ap (option_map serve_of) c.in-Ok-Some.field-0-is in
    let told : List ℕ → Told = g.F.Files.told c.args.files.now in
    let s : Stage = record {
      names = j.programme ∷ [];
      told = told;
      reads = g.F.Files.faults c.args.files.now;
      reads_after = g.F.Files.faults c.read_programme.new.files;
    } in
    plan-served (record {
      words = texts c.args.words.now;
      told = told;
      reads = g.F.Files.faults c.args.files.now;
      reads_after = g.F.Files.faults c.read_programme.new.files;
      writes = writes;
      writes_after = after;
    }) j c.in-Err-read_programme.fault is
    (in-wider (λ t. named_plan t j.programme) s (record s { names = serve_files j }) c.in-Err-read_programme.fault
    (record { told = refl; names = programme-among j; before = λ n. omega arith; after = λ n. omega arith }) c.in-Err-read_programme.ensures.fault)

pub returns-in-Err-find_graph-clause-cause : goal.returns-in-Err-find_graph-clause-cause
returns-in-Err-find_graph-clause-cause g c = λ writes after.
    let j : ServeJob = serve_of c.in-Ok-Some.command in
    let is : serve_job (texts c.args.words.now) ≡ Some j = sym c.in-Ok-Some.ensures.job ∙ ap (option_map serve_of) c.in-Ok-Some.field-0-is in
    let told : List ℕ → Told = g.F.Files.told c.args.files.now in
    let kept : g.F.Files.told c.read_programme.new.files ≡ told = λ i n. c.read_programme.ensures.kept n i in
    let wants : c.plan.inside.undirected ≡ c.in-Ok.plan.undirected = ap (λ p. p.undirected) c.plan.view_is in
    let s : Stage = record {
      names = j.graph ∷ [];
      told = g.F.Files.told c.read_programme.new.files;
      reads = g.F.Files.faults c.read_programme.new.files;
      reads_after = g.F.Files.faults c.find_graph.new.files;
    } in
    let t : Stage = record {
      names = serve_files j;
      told = told;
      reads = g.F.Files.faults c.args.files.now;
      reads_after = g.F.Files.faults c.find_graph.new.files;
    } in
    let here : IsFaultIn (λ t. named_graph c.in-Ok.plan.undirected t j.graph) s c.in-Err-find_graph.fault =
    subst (λ b. IsFaultIn (λ t. named_graph b t j.graph) s c.in-Err-find_graph.fault) wants c.in-Err-find_graph.ensures.fault in
    graph-served (record {
      words = texts c.args.words.now;
      told = told;
      reads = g.F.Files.faults c.args.files.now;
      reads_after = g.F.Files.faults c.find_graph.new.files;
      writes = writes;
      writes_after = after;
    }) j c.in-Ok.plan c.in-Err-find_graph.fault is c.in-Ok.ensures.plan
    (in-wider (λ t. named_graph c.in-Ok.plan.undirected t j.graph) s t c.in-Err-find_graph.fault (record {
      told = kept;
      names = graph-among j;
      before = c.read_programme.ensures.later;
      after = λ n. omega arith;
    }) here)

pub returns-in-Err-ready_for_requests-clause-cause : goal.returns-in-Err-ready_for_requests-clause-cause
returns-in-Err-ready_for_requests-clause-cause g c = λ writes after.
    let j : ServeJob = serve_of c.in-Ok-Some.command in
    let is : serve_job (texts c.args.words.now) ≡ Some j = sym c.in-Ok-Some.ensures.job ∙ ap (option_map serve_of) c.in-Ok-Some.field-0-is in
    let told : List ℕ → Told = g.F.Files.told c.args.files.now in
    let kept : g.F.Files.told c.read_programme.new.files ≡ told = λ i n. c.read_programme.ensures.kept n i in
    let wants : c.plan.inside.undirected ≡ c.in-Ok.plan.undirected = ap (λ p. p.undirected) c.plan.view_is in
    let drawn : MayBe (named_graph c.in-Ok.plan.undirected told j.graph) c.in-Ok-find_graph.edges.items =
    subst (λ b. MayBe (named_graph b told j.graph) c.in-Ok-find_graph.edges.items) wants
    (subst (λ (t : List ℕ → Told). MayBe (named_graph c.plan.inside.undirected t j.graph) c.in-Ok-find_graph.edges.items) kept
    c.in-Ok-find_graph.ensures.edges) in
    both-served (record {
      words = texts c.args.words.now;
      told = told;
      reads = g.F.Files.faults c.args.files.now;
      reads_after = g.F.Files.faults c.find_graph.new.files;
      writes = writes;
      writes_after = after;
    }) j c.in-Ok.plan c.in-Ok-find_graph.edges.items c.in-Err-ready_for_requests.fault is c.in-Ok.ensures.plan drawn c.in-Err-ready_for_requests.ensures.fault

pub returns-in-Err-find_requests-clause-cause : goal.returns-in-Err-find_requests-clause-cause
returns-in-Err-find_requests-clause-cause g c = λ writes after.
    let j : ServeJob = serve_of c.in-Ok-Some.command in
    let is : serve_job (texts c.args.words.now) ≡ Some j = sym c.in-Ok-Some.ensures.job ∙ ap (option_map serve_of) c.in-Ok-Some.field-0-is in
    let told : List ℕ → Told = g.F.Files.told c.args.files.now in
    let kept : g.F.Files.told c.read_programme.new.files ≡ told = λ i n. c.read_programme.ensures.kept n i in
    let wants : c.plan.inside.undirected ≡ c.in-Ok.plan.undirected = ap (λ p. p.undirected) c.plan.view_is in
    let drawn : MayBe (named_graph c.in-Ok.plan.undirected told j.graph) c.in-Ok-find_graph.edges.items =
    subst (λ b. MayBe (named_graph b told j.graph) c.in-Ok-find_graph.edges.items) wants
    (subst (λ (t : List ℕ → Told). MayBe (named_graph c.plan.inside.undirected t j.graph) c.in-Ok-find_graph.edges.items) kept
    c.in-Ok-find_graph.ensures.edges) in
    let kept_on : g.F.Files.told c.find_graph.new.files ≡ told = λ i n. (c.find_graph.ensures.kept n ∙ c.read_programme.ensures.kept n) i in
    let s : Stage = record {
      names = j.requests;
      told = g.F.Files.told c.find_graph.new.files;
      reads = g.F.Files.faults c.find_graph.new.files;
      reads_after = g.F.Files.faults c.find_requests.new.files;
    } in
    let t : Stage = record {
      names = serve_files j;
      told = told;
      reads = g.F.Files.faults c.args.files.now;
      reads_after = g.F.Files.faults c.find_requests.new.files;
    } in
    let here : IsFaultIn (λ t. all_requests t j.requests) s c.in-Err-find_requests.fault =
    subst (λ (ns : List (List ℕ)). IsFaultIn (λ t. all_requests t ns) (record s { names = ns }) c.in-Err-find_requests.fault) (ap (map (λ n. n.now)) c.as_slice.ensures.value)
    c.in-Err-find_requests.ensures.fault in
    requests-served (record {
      words = texts c.args.words.now;
      told = told;
      reads = g.F.Files.faults c.args.files.now;
      reads_after = g.F.Files.faults c.find_requests.new.files;
      writes = writes;
      writes_after = after;
    }) j c.in-Ok.plan c.in-Ok-find_graph.edges.items c.in-Err-find_requests.fault is c.in-Ok.ensures.plan drawn c.in-Ok-ready_for_requests.ensures.none
    (in-wider (λ t. all_requests t j.requests) s t c.in-Err-find_requests.fault (record {
      told = kept_on;
      names = requests-among j;
      before = λ n. (let a = c.read_programme.ensures.later n in let b = c.find_graph.ensures.later n in omega arith);
      after = λ n. omega arith;
    }) here)

pub returns-then-not-are_within-clause-cause : goal.returns-then-not-are_within-clause-cause
returns-then-not-are_within-clause-cause g c = λ writes after.
    let j : ServeJob = serve_of c.in-Ok-Some.command in
    let is : serve_job (texts c.args.words.now) ≡ Some j = sym c.in-Ok-Some.ensures.job ∙ ap (option_map serve_of) c.in-Ok-Some.field-0-is in
    let told : List ℕ → Told = g.F.Files.told c.args.files.now in
    let kept : g.F.Files.told c.read_programme.new.files ≡ told = λ i n. c.read_programme.ensures.kept n i in
    let wants : c.plan.inside.undirected ≡ c.in-Ok.plan.undirected = ap (λ p. p.undirected) c.plan.view_is in
    let drawn : MayBe (named_graph c.in-Ok.plan.undirected told j.graph) c.in-Ok-find_graph.edges.items =
    subst (λ b. MayBe (named_graph b told j.graph) c.in-Ok-find_graph.edges.items) wants
    (subst (λ (t : List ℕ → Told). MayBe (named_graph c.plan.inside.undirected t j.graph) c.in-Ok-find_graph.edges.items) kept
    c.in-Ok-find_graph.ensures.edges) in
    let kept_on : g.F.Files.told c.find_graph.new.files ≡ told = λ i n. (c.find_graph.ensures.kept n ∙ c.read_programme.ensures.kept n) i in
    let asked : MayBe (all_requests told j.requests) (lists_of c.in-Ok-find_requests.requests.items) =
    subst (λ (ns : List (List ℕ)). MayBe (all_requests told ns) (lists_of c.in-Ok-find_requests.requests.items)) (ap (map (λ n. n.now)) c.as_slice.ensures.value)
    (subst (λ (t : List ℕ → Told). MayBe (all_requests t (map (λ n. n.now) c.as_slice.result.now)) (lists_of c.in-Ok-find_requests.requests.items)) kept_on
    c.in-Ok-find_requests.ensures.requests) in
    let names : c.in-Ok-ready_for_requests.ready.names ≡ vertices_of c.in-Ok-find_graph.edges.items = c.in-Ok-ready_for_requests.ensures.ready.names in
    entries-served (record {
      words = texts c.args.words.now;
      told = told;
      reads = g.F.Files.faults c.args.files.now;
      reads_after = g.F.Files.faults c.find_requests.new.files;
      writes = writes;
      writes_after = after;
    }) j c.in-Ok.plan c.in-Ok-find_graph.edges.items (lists_of c.in-Ok-find_requests.requests.items) is c.in-Ok.ensures.plan drawn
    c.in-Ok-ready_for_requests.ensures.none asked
    (entries-passed (vertices_of c.in-Ok-find_graph.edges.items) (lists_of c.in-Ok-find_requests.requests.items)
    (subst (λ (ns : List ℕ). MAX_PATH_ENTRIES < all_entries ns (lists_of c.in-Ok-find_requests.requests.items)) names
    (subst (λ (fs : List (Vec (Option Request) Global)). MAX_PATH_ENTRIES < all_entries c.in-Ok-ready_for_requests.ready.names (lists_of fs)) c.as_slice-2.ensures.value
    (c.are_within.ensures.no c.if-not-are_within.true))))

pub returns-clause-served : goal.returns-clause-served
returns-clause-served g c =
    let j : ServeJob = serve_of c.in-Ok-Some.command in
    let is : serve_job (texts c.args.words.now) ≡ Some j = sym c.in-Ok-Some.ensures.job ∙ ap (option_map serve_of) c.in-Ok-Some.field-0-is in
    let told : List ℕ → Told = g.F.Files.told c.args.files.now in
    let kept : g.F.Files.told c.read_programme.new.files ≡ told = λ i n. c.read_programme.ensures.kept n i in
    let wants : c.plan.inside.undirected ≡ c.in-Ok.plan.undirected = ap (λ p. p.undirected) c.plan.view_is in
    let drawn : MayBe (named_graph c.in-Ok.plan.undirected told j.graph) c.in-Ok-find_graph.edges.items =
    subst (λ b. MayBe (named_graph b told j.graph) c.in-Ok-find_graph.edges.items) wants
    (subst (λ (t : List ℕ → Told). MayBe (named_graph c.plan.inside.undirected t j.graph) c.in-Ok-find_graph.edges.items) kept
    c.in-Ok-find_graph.ensures.edges) in
    let kept_on : g.F.Files.told c.find_graph.new.files ≡ told = λ i n. (c.find_graph.ensures.kept n ∙ c.read_programme.ensures.kept n) i in
    let asked : MayBe (all_requests told j.requests) (lists_of c.in-Ok-find_requests.requests.items) =
    subst (λ (ns : List (List ℕ)). MayBe (all_requests told ns) (lists_of c.in-Ok-find_requests.requests.items)) (ap (map (λ n. n.now)) c.as_slice.ensures.value)
    (subst (λ (t : List ℕ → Told). MayBe (all_requests t (map (λ n. n.now) c.as_slice.result.now)) (lists_of c.in-Ok-find_requests.requests.items)) kept_on
    c.in-Ok-find_requests.ensures.requests) in
    let names : c.in-Ok-ready_for_requests.ready.names ≡ vertices_of c.in-Ok-find_graph.edges.items = c.in-Ok-ready_for_requests.ensures.ready.names in
    record {
      task = record { job = j; plan = c.in-Ok.plan; graph = c.in-Ok-find_graph.edges.items; requests = lists_of c.in-Ok-find_requests.requests.items };
      may = served-may_be (texts c.args.words.now) told j c.in-Ok.plan c.in-Ok-find_graph.edges.items (lists_of c.in-Ok-find_requests.requests.items) is c.in-Ok.ensures.plan drawn
          c.in-Ok-ready_for_requests.ensures.none asked
          (entries-fine (vertices_of c.in-Ok-find_graph.edges.items) (lists_of c.in-Ok-find_requests.requests.items)
          (subst (λ (ns : List ℕ). all_entries ns (lists_of c.in-Ok-find_requests.requests.items) ≤ MAX_PATH_ENTRIES) names
          (subst (λ (fs : List (Vec (Option Request) Global)). all_entries c.in-Ok-ready_for_requests.ready.names (lists_of fs) ≤ MAX_PATH_ENTRIES) c.as_slice-2.ensures.value
          (c.are_within.ensures.yes c.if-not-are_within.false))));
      ready = c.in-Ok-ready_for_requests.ensures.ready;
      requests = refl;
      short = c.in-Ok-find_requests.ensures.short;
      some = (let few = rw c.in-Ok-Some.field-0-is at c.in-Ok-Some.ensures.few in
          let count = c.in-Ok-find_requests.ensures.count in
          let long = c.as_slice.ensures.len in
          omega (arith, few.0, count, long));
      few = (let few = rw c.in-Ok-Some.field-0-is at c.in-Ok-Some.ensures.few in
          let count = c.in-Ok-find_requests.ensures.count in
          let long = c.as_slice.ensures.len in
          omega (arith, few.1, count, long));
    }
