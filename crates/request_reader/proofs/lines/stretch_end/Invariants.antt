use Rattle.std.proofs.Common.{◌≤◌, ◌-◌, length}
use Rattle.request_reader.proofs.LineLemmas.{IsCut}
use Rattle.request_reader.proofs.lines.stretch_end.Given as goal

abbrev pub invariant-solid : goal.invariant-solid
invariant-solid l = record {
  onward : l.from ≤ l.at;
  within : l.at ≤ length l.line;
  cut : IsCut l.line l.from l.at;
}

abbrev pub decreases-solid : goal.decreases-solid
decreases-solid l = length l.line - l.at
