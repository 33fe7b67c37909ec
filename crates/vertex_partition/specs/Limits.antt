-- How much there may be of parts, of vertices, of what these cost, and of what a row reaches.
use Rattle.std.specs.Prelude.{ℕ, ◌^◌}

-- the most parts of a graph
abbrev pub most_parts : ℕ
most_parts = 256

-- the most vertices that are cut into parts
abbrev pub most_vertices : ℕ
most_vertices = 16777216

-- the most that all vertices may cost
abbrev pub most_cost : ℕ
most_cost = 2 ^ 32

-- the greatest reach of a row at which no step overflows
abbrev pub most_reach : ℕ
most_reach = 2 ^ 62
