-- The job of the words of `serve` that were read.
use Rattle.std.specs.Prelude.{◌≤◌, map, vec_len}
use Rattle.walk_top.specs.ServeJobs.{ServeJob}
use Rattle.walk_top.specs.declared.serve_words.ServeWords.{ServeWords}

abbrev pub serve_of : ServeWords → ServeJob
serve_of w = record {
  graph = w.graph.now;
  programme = w.programme.now;
  requests = map (λ n. n.now) w.requests.items;
  seed = w.seed;
}

-- how many request files there are
abbrev pub AreFew : ServeWords → Type 0
AreFew w = (1 ≤ vec_len w.requests) × (vec_len w.requests ≤ 16)
