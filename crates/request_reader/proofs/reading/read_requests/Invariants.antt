use Rattle.std.proofs.Common.{◌≡◌, ◌≤◌, ◌+◌, ◌-◌, ◌++◌, length, drop}
use Rattle.std.specs.Prelude.{All, IfSome}
use Rattle.request_reader.specs.Requests.{requests_of}
use Rattle.request_reader.proofs.reading.read_requests.Given as goal

abbrev pub invariant-lines : goal.invariant-lines
invariant-lines l = record {
  within : l.at ≤ length l.text + 1;
  so_far : l.requests.items ++ requests_of (drop l.at l.text) ≡ requests_of l.text;
  few : length l.requests.items ≤ l.at;
  low : length l.requests.items ≤ length l.text;
  steps : All (λ r. IfSome r (λ q. q.length ≤ 65536)) l.requests.items;
}

abbrev pub decreases-lines : goal.decreases-lines
decreases-lines l = length l.text + 1 - l.at
