-- All walks of a run.
use Rattle.std.specs.Prelude.{ℕ, List, map}
use Rattle.walk_model.specs.Numbers.{below}
use Rattle.traveller.specs.PartedRuns.{PartedRun, walk_in}

-- the walks of a run's walkers, in the order of their numbers
unfoldable pub walks_in : PartedRun → List (List ℕ)
walks_in g = map (walk_in g) (below g.walkers)
