-- What the words and the files of `serve` decide, before anything is written.
use Rattle.std.specs.Prelude.{ℕ, ◌+◌, nat_lt, if◌then◌else◌, List, [], ◌∷◌, ◌++◌, length, sum_by, Option, Some, None, option_map}
use Rattle.std.specs.Option.{option_or}
use Rattle.walk_model.specs.declared.limits.TheConstants.{MAX_PATH_ENTRIES, MAX_VERTICES}
use Rattle.walk_model.specs.declared.graph.Edge.{Edge}
use Rattle.walk_model.specs.declared.programme.StartRule.TheVariants.{Each}
use Rattle.walk_model.specs.declared.faults.Limit.TheVariants.{Vertices, PathEntries, RequestBytes}
use Rattle.walk_model.specs.declared.faults.WalkFault.{WalkFault}
use Rattle.walk_model.specs.declared.faults.WalkFault.TheVariants as fault
use Rattle.walk_model.specs.Course.{run_on}
use Rattle.walk_model.specs.Graph.{vertices_of}
use Rattle.walk_model.specs.Settings.{Settings}
use Rattle.vertex_names.specs.Ranks.{is_name}
use Rattle.walk_io.specs.Files.{Told}
use Rattle.request_reader.specs.declared.limits.TheConstants.{MAX_REQUEST_BYTES}
use Rattle.request_reader.specs.declared.requests.Request.{Request}
use Rattle.request_reader.specs.Requests.{requests_of}
use Rattle.request_replies.specs.Replies.{all_replies, asked_walk}
use Rattle.walk_top.specs.Limits.{overflowing}
use Rattle.walk_top.specs.ServeJobs.{ServeJob, serve_job}
use Rattle.walk_top.specs.Verdicts.{Finding, Found, Refused, and_then, unless, contents_found, named_plan, named_graph}

-- a job with what it goes by: its plan, its graph, and the requests of each of its files, good or bad
pub record ServeTask : Type 0 where
  pub job : ServeJob
  pub plan : Settings
  pub graph : List Edge
  pub requests : List (List (Option Request))

-- the job, or the words are refused
abbrev pub serve_found : Option ServeJob → Finding ServeJob
serve_found None = Refused fault.Words
serve_found (Some j) = Found j

-- a request file that isn't too long
abbrev pub short_file : List ℕ → Finding (List ℕ)
short_file text = unless (if nat_lt MAX_REQUEST_BYTES (length text) then Some (fault.Limit RequestBytes) else None) text

-- the requests of a name
abbrev pub named_requests : (List ℕ → Told) → List ℕ → Finding (List (Option Request))
named_requests told name =
    and_then (contents_found name (told name)) (λ bytes. and_then (short_file bytes) (λ text. Found (requests_of text)))

-- those of several names, one after another, behind those of the names before them
abbrev pub requests_after : (List ℕ → Told) → List (List (Option Request)) → List (List ℕ) → Finding (List (List (Option Request)))
requests_after told before [] = Found before
requests_after told before (name ∷ names) =
    and_then (named_requests told name) (λ requests. requests_after told (before ++ requests ∷ []) names)

abbrev pub all_requests : (List ℕ → Told) → List (List ℕ) → Finding (List (List (Option Request)))
all_requests told names = requests_after told [] names

-- what a plan and a graph are refused for together: too many vertices, or else the least vertex at which a step could overflow
abbrev pub graph_fault : Settings → List Edge → Option WalkFault
graph_fault plan edges =
    option_or (if nat_lt MAX_VERTICES (length (vertices_of edges)) then Some (fault.Limit Vertices) else None)
    (option_map fault.Overflow (overflowing edges plan (vertices_of edges)))

-- the entries that the walk of a request may have: none where it is bad or its start is no vertex
abbrev pub entries_of : List ℕ → Option Request → ℕ
entries_of vertices None = 0
entries_of vertices (Some q) = if is_name vertices q.start then q.length + 1 else 0

-- those of all requests of all files
abbrev pub all_entries : List ℕ → List (List (Option Request)) → ℕ
all_entries vertices files = sum_by (λ requests. sum_by (entries_of vertices) requests) files

-- what requests are refused for: too many entries
abbrev pub entries_fault : List ℕ → List (List (Option Request)) → Option WalkFault
entries_fault vertices files =
    if nat_lt MAX_PATH_ENTRIES (all_entries vertices files) then Some (fault.Limit PathEntries) else None

-- the task of a job once its plan and its graph are there
abbrev pub served_on : (List ℕ → Told) → ServeJob → Settings → List Edge → Finding ServeTask
served_on told j plan edges =
    and_then (all_requests told j.requests) (λ files.
    unless (entries_fault (vertices_of edges) files) (record { job = j; plan = plan; graph = edges; requests = files }))

-- the task of a job: its plan, then its graph, then what both are refused for together, then its request files, and then what these
-- are refused for
abbrev pub serve_task : (List ℕ → Told) → ServeJob → Finding ServeTask
serve_task told j =
    and_then (named_plan told j.programme) (λ plan.
    and_then (named_graph plan.undirected told j.graph) (λ edges.
    and_then (unless (graph_fault plan edges) edges) (served_on told j plan)))

-- the verdict on words, by what is told of each name
unfoldable pub serve_verdict : List (List ℕ) → (List ℕ → Told) → Finding ServeTask
serve_verdict words told = and_then (serve_found (serve_job words)) (serve_task told)

-- what a task writes: the replies to the requests, file by file
abbrev pub serve_output : ServeTask → List ℕ
serve_output task = all_replies (asked_walk (run_on task.graph task.plan task.job.seed)) task.requests

-- a plan as requests go by it, which bring their own starts and lengths
abbrev pub for_requests : Settings → Settings
for_requests plan = record plan { start = Each; length = 0 }
