use Rattle.std.proofs.Common.{◌≡◌}
use Rattle.request_replies.specs.Answered.{HasAsked}
use Rattle.request_replies.proofs.asking.ask_all.Given as goal

abbrev pub invariant-rounds : goal.invariant-rounds
invariant-rounds g l = record {
  asked : HasAsked l.requests l.next l.client.asks;
  answers : l.client.answers ≡ l.answers.items;
  place : l.client.place ≡ l.initial.client.place;
}
