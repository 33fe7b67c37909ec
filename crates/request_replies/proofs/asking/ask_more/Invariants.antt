use Rattle.std.proofs.Common.{◌≡◌, ◌-◌, length}
use Rattle.request_replies.specs.Answered.{HasAsked}
use Rattle.request_replies.proofs.asking.ask_more.Given as goal

abbrev pub invariant-asking : goal.invariant-asking
invariant-asking g l = record {
  asked : HasAsked l.requests l.at l.client.asks;
  same : l.client ≡ record l.initial.client { asks = l.client.asks; free = l.client.free };
}

abbrev pub decreases-asking : goal.decreases-asking
decreases-asking g l = length l.requests - l.at
