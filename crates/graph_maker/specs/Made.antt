-- Graphs that are made by a rule.
use Rattle.std.specs.Prelude.{ℕ, ◌+◌, ◌*◌, ◌%◌, List, map}
use Rattle.std.specs.List.{flat_map}
use Rattle.walk_model.specs.declared.graph.Edge.{Edge}
use Rattle.walk_model.specs.Numbers.{below}

-- edge j from vertex v, of so many vertices and by a seed
abbrev pub made_edge : (vertices seed v j : ℕ) → Edge
made_edge vertices seed v j = record {
  src = v;
  dst = (v + 1 + j * (1 + seed % 97) + v * j % 13) % vertices;
  weight = 1 + (v + 3 * j + seed % 5) % 7;
  kind = j % 4;
}

-- the edges from vertex v, as many as its degree
abbrev pub made_row : (vertices degree seed v : ℕ) → List Edge
made_row vertices degree seed v = map (made_edge vertices seed v) (below degree)

-- the edges from each vertex, those from vertex 0 first
abbrev pub made_graph : (vertices degree seed : ℕ) → List Edge
made_graph vertices degree seed = flat_map (made_row vertices degree seed) (below vertices)
