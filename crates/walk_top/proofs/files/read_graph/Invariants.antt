use Rattle.std.proofs.Common.{◌≡◌, ◌≤◌, ◌-◌, ℕ, List}
use Rattle.walk_top.specs.Reading.{HasTaken}
use Rattle.walk_top.proofs.files.read_graph.Given as goal

abbrev pub invariant-reading : goal.invariant-reading
invariant-reading g l = record {
  taken : HasTaken l.undirected (g.F.Files.told l.initial.files l.name) l.place l.reader;
  low : l.place ≤ 1073741824;
  kept : (n : List ℕ) → g.F.Files.told l.files n ≡ g.F.Files.told l.initial.files n;
  later : (n : List ℕ) → g.F.Files.faults l.initial.files n ≤ g.F.Files.faults l.files n;
}

abbrev pub decreases-reading : goal.decreases-reading
decreases-reading g l = 1073741824 - l.place
