-- Edges without their source, as a row keeps them.
use Rattle.std.specs.Prelude.{ℕ, ◌==◌, List, map, filter}
use Rattle.walk_model.specs.declared.graph.Edge.{Edge}
use Rattle.walk_model.specs.Graph.{row}
use Rattle.csr_store.specs.declared.out_edge.OutEdge.{OutEdge}

-- what a row keeps of an edge: all but its source
abbrev pub out_edge : Edge → OutEdge
out_edge e = record { dst = e.dst; kind = e.kind; weight = e.weight }

-- the edge of a row of a vertex
abbrev pub edge_from : ℕ → OutEdge → Edge
edge_from v o = record { src = v; dst = o.dst; weight = o.weight; kind = o.kind }

-- the types of a row's edges
abbrev pub kinds_of : List Edge → List ℕ
kinds_of edges = map (λ e. e.kind) edges

-- the edges from a vertex in the order of the list
abbrev pub leaving : List Edge → ℕ → List OutEdge
leaving edges v = map out_edge (filter (λ e. e.src == v) edges)

-- edges of one vertex in the order of a row
unfoldable pub in_order : List OutEdge → List OutEdge
in_order edges = map out_edge (row (map (edge_from 0) edges) 0)
