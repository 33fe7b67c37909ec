use Rattle.std.specs.Prelude.{All}
use Rattle.walk_model.specs.declared.messages.Ask.{Ask}
use Rattle.query_batch.specs.Questions.{CanAnswer}
use Rattle.query_batch.proofs.tests.asks_to.Given as goal

abbrev pub invariant-loop-place : goal.invariant-loop-place
invariant-loop-place l = All (λ (a : Ask). CanAnswer l.part a.question) l.asks.items
