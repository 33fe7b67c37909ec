-- What a part knows of a run.
use Rattle.std.specs.Prelude.{◌≡◌, ℕ, ◌==◌, List, filter}
use Rattle.walk_model.specs.declared.graph.Edge.{Edge}
use Rattle.walk_model.specs.Graph.{row}
use Rattle.traveller.specs.PartedRuns.{PartedRun}

-- the edges from a part's vertices
abbrev pub part_edges : PartedRun → ℕ → List Edge
part_edges g k = filter (λ e. g.owner e.src == k) g.edges

-- some edges, in whatever order, give the rows of a part's vertices
abbrev pub HasRowsOf : PartedRun → ℕ → List Edge → Type 0
HasRowsOf g k edges = (v : ℕ) → g.owner v ≡ k → row edges v ≡ row g.edges v

-- the run as one knows it who knows some edges alone
abbrev pub knowing : PartedRun → List Edge → PartedRun
knowing g known = record g { edges = known }
