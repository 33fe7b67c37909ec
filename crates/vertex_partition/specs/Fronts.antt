-- The first vertices, and what they cost.
use Rattle.std.specs.Prelude.{◌≡◌, ℕ, ◌*◌, ◌<◌, ◌≤◌, List, length, map, sum, take}
use Rattle.vertex_partition.specs.declared.cuts.Front.{Front}

-- costs, each so many times
abbrev pub scaled : ℕ → List ℕ → List ℕ
scaled parts costs = map (λ c. c * parts) costs

-- some of the first vertices with their cost, no fewer of which reach a sum
pub record IsFront (costs : List ℕ) (parts least : ℕ) (f : Front) : Type 0 where
  pub within : f.count ≤ length costs
  pub cost_is : f.cost ≡ sum (take f.count costs)
  pub short : (i : ℕ) → i < f.count → sum (take i costs) * parts < least
