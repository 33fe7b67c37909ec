use Rattle.std.proofs.Common.{◌≡◌, ◌+◌, ◌<◌, ◌≤◌, ◌^◌, length, All}
use Rattle.csr_store.proofs.tests.wide.Given as goal

abbrev pub invariant-loop-i : goal.invariant-loop-i
invariant-loop-i l =
    (length l.edges.items ≡ l.i + 2)
    × All (λ e. (e.src < 41) × (e.dst < 41)) l.edges.items
    × All (λ e. (1 ≤ e.weight) × (e.weight < 2 ^ 62)) l.edges.items
