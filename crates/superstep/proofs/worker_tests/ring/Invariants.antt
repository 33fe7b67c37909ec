use Rattle.std.proofs.Common.{◌≡◌, ◌<◌, ◌≤◌, ◌^◌, length}
use Rattle.std.specs.Prelude.{All}
use Rattle.superstep.proofs.worker_tests.ring.Given as goal

abbrev pub invariant-linking : goal.invariant-linking
invariant-linking l = record {
  count : length l.edges.items ≡ l.src;
  ends : All (λ e. (e.src < l.vertices) × (e.dst < l.vertices)) l.edges.items;
  weights : All (λ e. (1 ≤ e.weight) × (e.weight < 2 ^ 62)) l.edges.items;
}
