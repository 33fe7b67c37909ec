use Rattle.std.proofs.Common.{◌≡◌, ◌≤◌, ◌-◌, length, drop}
use Rattle.edge_reader.specs.Lines.{fields}
use Rattle.request_reader.proofs.lines.gap_end.Given as goal

abbrev pub invariant-blanks : goal.invariant-blanks
invariant-blanks l = record {
  within : l.at ≤ length l.line;
  fields : fields (drop l.from l.line) ≡ fields (drop l.at l.line);
}

abbrev pub decreases-blanks : goal.decreases-blanks
decreases-blanks l = length l.line - l.at
