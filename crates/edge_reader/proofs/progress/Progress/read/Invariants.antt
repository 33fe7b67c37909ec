use Rattle.std.proofs.Common.{◌≡◌, ℕ, ◌+◌, ◌-◌, ◌≤◌, Bool, List, ◌++◌, drop, length}
use Rattle.edge_reader.specs.Taken.{edges_with}
use Rattle.edge_reader.proofs.TextLemmas.{at_line}
use Rattle.edge_reader.proofs.progress.Progress.read.Given as goal

abbrev pub invariant-reading : goal.invariant-reading
invariant-reading l = record {
  within : l.at ≤ length l.piece;
  number : l.self.number ≤ l.initial.self.number + l.at;
  goes_on : (whole : Bool) (text : List ℕ) → edges_with whole l.initial.self (l.piece ++ text) ≡ at_line l.self l.line whole (drop l.at l.piece ++ text);
}

abbrev pub decreases-reading : goal.decreases-reading
decreases-reading l = length l.piece - l.at
