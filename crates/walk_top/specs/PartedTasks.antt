-- The run of a task among parts.
use Rattle.std.specs.Prelude.{length, map}
use Rattle.walk_model.specs.Cuts.{costs_of, cuts_of, owner}
use Rattle.walk_model.specs.Graph.{vertices_of}
use Rattle.walk_model.specs.Numbers.{below}
use Rattle.walk_model.specs.Walk.{start_of, walker_count}
use Rattle.vertex_names.specs.Ranks.{rank_in, ranked}
use Rattle.traveller.specs.PartedRuns.{PartedRun}
use Rattle.walk_top.specs.Jobs.{parts_of, seed_of}
use Rattle.walk_top.specs.Verdicts.{Task}

-- the run of a task in ranks, among the parts that its job asks for
abbrev pub parted_run : Task → PartedRun
parted_run task =
    let names = vertices_of task.graph in
    let edges = map (ranked names) task.graph in
    record {
      edges = edges;
      plan = task.plan;
      seed = seed_of task.job;
      owner = owner (cuts_of (costs_of edges (below (length names))) (parts_of task.job));
      walkers = walker_count task.plan.start (length names);
      start = λ walker. rank_in names (start_of task.plan.start names walker);
    }
