use Rattle.std.proofs.Common.{◌≡◌, ◌+◌, map, take}
use Rattle.std.specs.Prelude.{nat_eq}
use Rattle.std.specs.HashMap.{get}
use Rattle.query_batch.specs.Questions.{distinct_questions}
use Rattle.query_batch.specs.Replies.{reply_to}
use Rattle.query_batch.proofs.PlaceLemmas.{Remembers}
use Rattle.query_batch.proofs.batches.answer.Given as goal

abbrev pub invariant-loop-place : goal.invariant-loop-place
invariant-loop-place g l = record {
  replies : l.replies.items ≡ map (reply_to l.part.edges) (take l.place l.ask-items);
  ticks : l.steps ≡ l.initial.steps + distinct_questions (take l.place l.ask-items);
  kept : Remembers l.vertices l.ask-items l.place (λ n. get nat_eq l.places n);
}
