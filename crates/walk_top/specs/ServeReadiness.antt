-- When requests may be walked.
use Rattle.std.specs.Prelude.{ℕ, ◌≡◌, ◌≤◌, List, length}
use Rattle.walk_io.specs.Files.{Told}
use Rattle.request_replies.specs.Answered.{AreAllShort, lists_of}
use Rattle.walk_top.specs.Verdicts.{MayBe}
use Rattle.walk_top.specs.UndividedReadiness.{IsUndividedFor}
use Rattle.walk_top.specs.ServeVerdicts.{ServeTask, serve_verdict, for_requests}
use Rattle.walk_top.specs.declared.serving.Served.{Served}

-- these are the graph and the requests of the only task that may be accepted
pub record IsServed (words : List (List ℕ)) (told : List ℕ → Told) (s : Served) : Type 0 where
  pub task : ServeTask
  pub may : MayBe (serve_verdict words told) task
  pub ready : IsUndividedFor task.graph (for_requests task.plan) task.job.seed s.ready
  pub requests : lists_of s.requests.items ≡ task.requests
  pub short : AreAllShort s.requests.items
  pub some : 1 ≤ length s.requests.items
  pub few : length s.requests.items ≤ 16
