use Rattle.std.proofs.Common.{◌≢◌, ◌≤◌, ◌<◌, ◌-◌, ℕ, length, get_or}
use Rattle.request_reader.proofs.lines.line_end.Given as goal

abbrev pub invariant-bytes : goal.invariant-bytes
invariant-bytes l = record {
  onward : l.from ≤ l.at;
  within : l.at ≤ length l.text;
  before : (k : ℕ) → l.from ≤ k → k < l.at → get_or l.text k 0 ≢ 10;
}

abbrev pub decreases-bytes : goal.decreases-bytes
decreases-bytes l = length l.text - l.at
