-- Graphs that are ready for the words of a command.
use Rattle.std.specs.Prelude.{◌≡◌, List, None}
use Rattle.walk_model.specs.declared.graph.Edge.{Edge}
use Rattle.walk_model.specs.Settings.{Settings}
use Rattle.walk_top.specs.declared.readying.Ready.{Ready}
use Rattle.walk_top.specs.declared.words.Words.{Words}
use Rattle.walk_top.specs.Jobs.{parts_of, seed_of}
use Rattle.walk_top.specs.JobViews.{job_of}
use Rattle.walk_top.specs.Limits.{task_fault}
use Rattle.walk_top.specs.Readiness.{IsReadyFor}
use Rattle.walk_top.specs.Verdicts.{Task}

-- the task of words with a plan and a graph
abbrev pub task_of_words : Words → Settings → List Edge → Task
task_of_words words plan edges = record { job = job_of words; plan = plan; graph = edges }

-- a graph is ready to be walked as the words ask for, and is refused for nothing
pub record IsReadyTask (words : Words) (plan : Settings) (edges : List Edge) (ready : Ready) : Type 0 where
  pub is : IsReadyFor edges plan (seed_of (job_of words)) (parts_of (job_of words)) ready
  pub none : task_fault plan edges ≡ None
