-- How much the parts cost.
use Rattle.std.specs.Prelude.{ℕ, ◌+◌, ◌-◌, ◌/◌, ◌≤◌, ◌<◌, ◌==◌, if◌then◌else◌, List, [], ◌∷◌, sum, All}
use Rattle.walk_model.specs.Cuts.{owner}

-- what a part costs of the vertices from one on, whose costs these are: the costs of those that it owns
unfoldable pub cost_from : List ℕ → ℕ → ℕ → List ℕ → ℕ
cost_from cuts part v [] = 0
cost_from cuts part v (c ∷ cs) = (if owner cuts v == part then c else 0) + cost_from cuts part (v + 1) cs

-- what a part costs: the vertices that it owns
abbrev pub part_cost : List ℕ → List ℕ → ℕ → ℕ
part_cost costs cuts part = cost_from cuts part 0 costs

-- no part costs more than its share of all costs, rounded up, and the greatest cost of a vertex
abbrev pub AreLike : List ℕ → ℕ → List ℕ → Type 0
AreLike costs parts cuts = (part most : ℕ) → part < parts → All (λ c. c ≤ most) costs
    → part_cost costs cuts part ≤ (sum costs + parts - 1) / parts + most
