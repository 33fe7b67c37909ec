use Rattle.std.proofs.Common.{◌≡◌, ◌≤◌, ◌-◌, ℕ, List, length}
use Rattle.walk_top.specs.Reading.{IsFrontOf}
use Rattle.walk_top.proofs.texts.read_text.Given as goal

abbrev pub invariant-reading : goal.invariant-reading
invariant-reading g l = record {
  front : IsFrontOf (g.F.Files.told l.initial.files l.name) l.text.items;
  short : length l.text.items ≤ l.most;
  kept : (n : List ℕ) → g.F.Files.told l.files n ≡ g.F.Files.told l.initial.files n;
  later : (n : List ℕ) → g.F.Files.faults l.initial.files n ≤ g.F.Files.faults l.files n;
}

abbrev pub decreases-reading : goal.decreases-reading
decreases-reading g l = l.most - length l.text.items
