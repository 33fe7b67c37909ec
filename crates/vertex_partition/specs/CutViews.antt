-- Cuts as they are kept.
use Rattle.std.specs.Prelude.{ℕ, zero, suc, ◌≤◌, ◌<◌, List, length, All, slice_index, slice_index_or}
use Rattle.std.specs.List.Sorted.{IsNonDecreasing}
use Rattle.vertex_partition.specs.Limits.{most_parts}

-- what contracts see of cuts: the number of vertices that are cut into parts, and the cuts between the parts
pub record CutView : Type 0 where
  pub vertices : ℕ
  pub cuts : List ℕ

-- cuts rise, and none lies behind the last vertex
pub record AreCuts (vertices : ℕ) (cuts : List ℕ) : Type 0 where
  pub few : length cuts < most_parts
  pub rising : IsNonDecreasing cuts
  pub within : All (λ c. c ≤ vertices) cuts

-- where a part begins: at the cut before it
abbrev pub begin_of : List ℕ → ℕ → ℕ
begin_of cuts zero = 0
begin_of cuts (suc k) = slice_index cuts k

-- where a part ends: at the cut behind it, or behind the last vertex
abbrev pub end_of : ℕ → List ℕ → ℕ → ℕ
end_of vertices cuts k = slice_index_or cuts k vertices
