-- The reach of stored rows.
use Rattle.std.specs.Prelude.{ℕ, ◌*◌, Bool, length, sum}
use Rattle.walk_model.specs.Graph.{row, weights_of}
use Rattle.csr_store.specs.RowGraph.{RowGraph}

-- the reach of a row: the number of its edges, times the sum of their weights, times a factor
abbrev pub row_reach : RowGraph → Bool → ℕ → ℕ → ℕ
row_reach g weighted factor v =
    let weights = weights_of weighted (row g.edges v) in
    length weights * sum weights * factor
