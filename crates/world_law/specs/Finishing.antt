-- When walkers have finished, and what is left of a world then.
use Rattle.std.specs.Prelude.{ℕ, suc, ◌==◌, if◌then◌else◌, List, [], ◌∷◌, ◌++◌, take}
use Rattle.walk_model.specs.declared.results.Print.{Print}
use Rattle.walk_model.specs.Prints.{prints_from}
use Rattle.traveller.specs.declared.modes.Mode.{Mode}
use Rattle.traveller.specs.declared.modes.Mode.TheVariants.{Over}
use Rattle.traveller.specs.PartedRuns.{PartedRun, walk_in}
use Rattle.traveller.specs.Walkers.{Walker, is_ready}
use Rattle.world_law.specs.Worlds.{Piece, Resident, Printed, ShardData}

-- 1 for a walker that is not at the end of its walk
abbrev pub unfinished_mode : Mode → ℕ
unfinished_mode Over = 0
unfinished_mode _ = 1

abbrev pub unfinished : Walker → ℕ
unfinished v = unfinished_mode v.mode

-- 1 for a resident that can go on by itself
abbrev pub of_ready : Piece → ℕ
of_ready (Resident k v) = if is_ready v.mode then 1 else 0
of_ready _ = 0

-- the same of walker i
abbrev pub unfinished_of : ℕ → Walker → ℕ
unfinished_of i v = if v.number == i then unfinished v else 0

abbrev pub ready_of : ℕ → Piece → ℕ
ready_of i (Resident k v) = if v.number == i then of_ready (Resident k v) else 0
ready_of i _ = 0

-- 1 for an item, set aside or in flight
abbrev pub of_item : Piece → ℕ
of_item (Resident k v) = 0
of_item (Printed k p) = 0
of_item _ = 1

-- the weight of a print
abbrev pub of_kept : (Print → ℕ) → Piece → ℕ
of_kept f (Printed k p) = f p
of_kept f _ = 0

-- all prints of a walker's walk, and those up to where the walker stands, that of its start as step 0
abbrev pub walker_prints : PartedRun → Walker → List Print
walker_prints g v = prints_from v.number 0 (walk_in g v.number)

abbrev pub prints_so_far : PartedRun → Walker → List Print
prints_so_far g v = take (suc v.state.steps) (walker_prints g v)

-- the prints that the shards of a world keep
unfoldable pub prints_in : List ShardData → List Print
prints_in [] = []
prints_in (s ∷ ss) = s.prints ++ prints_in ss

-- the steps that walker i has made
abbrev pub steps_of : ℕ → Walker → ℕ
steps_of i v = if v.number == i then v.state.steps else 0
