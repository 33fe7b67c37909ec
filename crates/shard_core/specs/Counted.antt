-- How many prints, or entries of their walks, walkers have.
use Rattle.std.specs.Prelude.{ℕ, suc, ◌+◌, ◌-◌, ◌^◌, List, min, slice_index, slice_set}
use Rattle.std.specs.List.{fold}
use Rattle.walk_model.specs.declared.results.Print.{Print}
use Rattle.traveller.specs.Walkers.{Walker}

-- counts by the numbers of walkers, after a print of one of them; a count ends at the last number of 64 bits
abbrev pub count_one : List ℕ → Print → List ℕ
count_one counts p = slice_set counts p.walker (min (slice_index counts p.walker + 1) (2 ^ 64 - 1))

-- after several prints
abbrev pub count_all : List ℕ → List Print → List ℕ
count_all counts prints = fold count_one counts prints

-- counts by the numbers of walkers, where one of them says how many entries its walk has: one for its start, and one for
-- each step
abbrev pub count_entries : List ℕ → Walker → List ℕ
count_entries counts v = slice_set counts v.number (suc v.state.steps)

-- where several walkers do
abbrev pub count_walks : List ℕ → List Walker → List ℕ
count_walks counts vs = fold count_entries counts vs
