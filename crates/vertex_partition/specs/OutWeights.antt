-- The static weights of the edges of stored rows.
use Rattle.std.specs.Prelude.{ℕ, Bool, if◌then◌else◌}
use Rattle.csr_store.specs.declared.out_edge.OutEdge.{OutEdge}

-- the static weight of an edge of a stored row
abbrev pub out_weight : Bool → OutEdge → ℕ
out_weight weighted e = if weighted then e.weight else 1
