-- The tables of a range's rows.
use Rattle.std.specs.Prelude.{◌≡◌, ℕ, ◌+◌, ◌<◌, ◌≤◌, ◌⊎◌, Bool, List, length, replicate, slice_index, slice_index_or, Option, Some, None}
use Rattle.walk_model.specs.Graph.{row, weights_of}
use Rattle.csr_store.specs.RowGraph.{RangeGraph, IsIn, mark_of}

-- the table of a number is one of these weights
abbrev pub HasTable : List (List ℕ) → ℕ → List ℕ → Type 0
HasTable tables k weights = (k < length tables) × ((d : List ℕ) → slice_index_or tables k d ≡ weights)

-- each table of the first list has the same number in the second
abbrev pub Keeps : List (List ℕ) → List (List ℕ) → Type 0
Keeps before after = (k : ℕ) (weights : List ℕ) → HasTable before k weights → HasTable after k weights

-- what is shared by rows of a number of edges is the table of so many edges that weigh 1 each
abbrev pub AreShared : List (List ℕ) → List (Option ℕ) → Type 0
AreShared tables shared = (count k : ℕ) → slice_index_or shared count None ≡ Some k → HasTable tables k (replicate count 1)

-- a vertex of a range has edges
abbrev pub HasEdges : RangeGraph → ℕ → Type 0
HasEdges g v = IsIn g v × (0 < length (row g.edges v))

-- the static weights of its row
abbrev pub row_weights : Bool → RangeGraph → ℕ → List ℕ
row_weights weighted g v = weights_of weighted (row g.edges v)

-- a vertex is among those of a list, from a place on
abbrev pub IsAmong : ℕ → List ℕ → ℕ → Type 0
IsAmong from vertices v = (k : ℕ) × (from ≤ k) × (k < length vertices) × (slice_index vertices k ≡ v)

-- each row of a range that isn't empty has its table, or its vertex is among those whose tables are still to be numbered
abbrev pub AreTablesBut : Bool → RangeGraph → List (List ℕ) → ℕ → List ℕ → Type 0
AreTablesBut weighted g tables from lone = (v : ℕ) → IsIn g v → 0 < length (row g.edges v)
    → HasTable tables (mark_of g v) (row_weights weighted g v) ⊎ IsAmong from lone v

-- the vertices of a list have the tables of their rows, one after another from a number on
abbrev pub AreOwn : Bool → RangeGraph → List (List ℕ) → ℕ → List ℕ → Type 0
AreOwn weighted g tables first lone = (k : ℕ) → k < length lone → HasTable tables (first + k) (row_weights weighted g (slice_index lone k))

-- each row of a range that isn't empty has a table of its static weights, whose number marks its vertex
abbrev pub AreTables : Bool → RangeGraph → List (List ℕ) → Type 0
AreTables weighted g tables = (v : ℕ) → IsIn g v → 0 < length (row g.edges v)
    → HasTable tables (mark_of g v) (weights_of weighted (row g.edges v))
