use Rattle.std.proofs.Common.{◌≡◌}
use Rattle.request_replies.proofs.asking.take_answers.Given as goal

abbrev pub invariant-taking : goal.invariant-taking
invariant-taking g l = record {
  answers : l.client.answers ≡ l.answers.items;
  same : l.client ≡ record l.initial.client { answers = l.client.answers; shown = l.client.shown };
}
