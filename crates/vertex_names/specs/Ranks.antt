-- Names and ranks: a name's rank is the number of names below it.
use Rattle.std.specs.Prelude.{ℕ, Bool, ◌==◌, nat_lt, List, count_by, Option, Some, None, if◌then◌else◌, All, IsTrue}
use Rattle.std.specs.List.{list_any}
use Rattle.walk_model.specs.declared.graph.Edge.{Edge}

-- a number is among the names
abbrev pub is_name : List ℕ → ℕ → Bool
is_name names id = list_any (λ y. y == id) names

-- how many names are below a number
abbrev pub rank_in : List ℕ → ℕ → ℕ
rank_in names id = count_by (λ y. nat_lt y id) names

-- the rank of a name, or none for another number
abbrev pub rank_of : List ℕ → ℕ → Option ℕ
rank_of names id = if is_name names id then Some (rank_in names id) else None

-- an edge with ranks in place of names
abbrev pub ranked : List ℕ → Edge → Edge
ranked names e = record e { src = rank_in names e.src; dst = rank_in names e.dst }

-- both ends of each edge are names
abbrev pub AreNamed : List ℕ → List Edge → Type 0
AreNamed names edges = All (λ e. IsTrue (is_name names e.src) × IsTrue (is_name names e.dst)) edges
