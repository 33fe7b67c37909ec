-- What a task is refused for once its graph is read: its counts, its start, its weights.
use Rattle.std.specs.Prelude.{ℕ, ◌+◌, ◌*◌, ◌^◌, ◌&&◌, ◌==◌, nat_lt, if◌then◌else◌, List, length, find, Option, Some, None, option_map}
use Rattle.std.specs.Option.{option_or}
use Rattle.walk_model.specs.declared.limits.TheConstants.{MAX_PATH_ENTRIES, MAX_VERTICES}
use Rattle.walk_model.specs.declared.graph.Edge.{Edge}
use Rattle.walk_model.specs.declared.programme.StartRule.{StartRule}
use Rattle.walk_model.specs.declared.programme.StartRule.TheVariants.{Each, Spread, From}
use Rattle.walk_model.specs.declared.faults.Limit.{Limit}
use Rattle.walk_model.specs.declared.faults.Limit.TheVariants.{Vertices, PathEntries}
use Rattle.walk_model.specs.declared.faults.WalkFault.{WalkFault}
use Rattle.walk_model.specs.declared.faults.WalkFault.TheVariants as fault
use Rattle.walk_model.specs.Settings.{Settings}
use Rattle.walk_model.specs.Graph.{vertices_of}
use Rattle.walk_model.specs.Walk.{walker_count}
use Rattle.walk_model.specs.Fits.{reach_of}
use Rattle.vertex_names.specs.Ranks.{is_name}

-- the limit that is passed by a number of vertices, or by the entries of so many walkers' paths
abbrev pub passed_limit : ℕ → ℕ → ℕ → Option Limit
passed_limit vertices walkers length =
    if nat_lt MAX_VERTICES vertices then Some Vertices
    else (if nat_lt MAX_PATH_ENTRIES (walkers * (length + 1)) then Some PathEntries else None)

-- the fault of a start that is missing: its id is no vertex, or there is no vertex for walkers that
-- are asked for
abbrev pub start_fault : StartRule → List ℕ → Option WalkFault
start_fault Each vertices = None
start_fault (Spread walkers) vertices =
    if nat_lt 0 walkers && length vertices == 0 then Some (fault.NoStart None) else None
start_fault (From walkers id) vertices = if is_name vertices id then None else Some (fault.NoStart (Some id))

-- the first fault of a task by its counts and its start
abbrev pub count_fault : Settings → List ℕ → Option WalkFault
count_fault plan vertices =
    option_or (option_map fault.Limit (passed_limit (length vertices) (walker_count plan.start (length vertices)) plan.length))
    (start_fault plan.start vertices)

-- the least of some vertices at which a step could overflow
unfoldable pub overflowing : List Edge → Settings → List ℕ → Option ℕ
overflowing edges plan vertices = find (λ v. nat_lt (2 ^ 62) (reach_of edges plan v)) vertices

-- the first fault of a plan on a graph
abbrev pub task_fault : Settings → List Edge → Option WalkFault
task_fault plan edges =
    option_or (count_fault plan (vertices_of edges)) (option_map fault.Overflow (overflowing edges plan (vertices_of edges)))
