use Rattle.std.proofs.Common.{◌≡◌, ◌+◌, ◌<◌, length, map, take, ap, sym, ◌∙◌, arith, take_all}
use Rattle.std.specs.Prelude.{nat_eq, slice_index_or}
use Rattle.std.specs.Map.{lookup}
use Rattle.std.specs.HashMap.{get}
use Rattle.std.proofs.lemmas.List.{map_more, length-map, length-take-le}
use Rattle.walk_model.specs.declared.messages.Ask.{Ask}
use Rattle.walk_model.specs.declared.messages.Question.TheVariants as question
use Rattle.query_batch.specs.Questions.{distinct_questions}
use Rattle.query_batch.specs.Replies.{reply_to}
use Rattle.query_batch.specs.Numbers.{number_of}
use Rattle.query_batch.proofs.NumberLemmas.{all-IsWithin}
use Rattle.query_batch.proofs.DistinctLemmas.{distinct_questions-none}
use Rattle.query_batch.proofs.PlaceLemmas.{Remembers-none, Remembers-more, found-before, distinct_questions-more}
use Rattle.query_batch.proofs.batches.answer.Goals as goal

-- an ask for where there is none
abbrev blank : Ask
blank = record { walker = 0; step = 0; home = 0; question = question.Edge 0 0 }

pub loop-place-init : goal.loop-place-init
loop-place-init g c = record {
  replies = c.in_ok-replies.ensures.items;
  ticks = omega (arith, distinct_questions-none);
  kept = Remembers-none c.vertices-vertices.result c.deref-ask-items.result.now (λ n. get nat_eq c.in_ok-places.places n)
      (λ n. ap (lookup (nat_eq n)) c.in_ok-places.ensures.empty);
}

pub reply_after-requires-clause-earlier : goal.reply_after-requires-clause-earlier
reply_after-requires-clause-earlier g c = λ d below.
    (let items = c.deref-ask-items.result.now in
    let n = c.number_of_question-number.result in
    let within : c.loop-place.place < length items = omega arith in
    found-before c.vertices-vertices.result c.args.part.now.edges items c.deref.result.now c.loop-place.place n
    c.in_ok-first.first blank d (get nat_eq c.loop-place.places n)
    (all-IsWithin c.args.part.now c.vertices-vertices.result c.args.asks.items items c.vertices-vertices.ensures c.deref-ask-items.ensures.value c.requires)
    within (sym c.number_of_question-number.ensures) (c.deref.ensures.value ∙ c.loop-place.invariant.replies)
    c.in_ok-first.ensures.first (c.loop-place.invariant.kept n) below)

pub loop-place-preserved : goal.loop-place-preserved
loop-place-preserved g c =
    let v = c.vertices-vertices.result in
    let items = c.deref-ask-items.result.now in
    let i = c.loop-place.place in
    let n = c.number_of_question-number.result in
    let within : i < length items = omega arith in
    let here : number_of v (slice_index_or items i blank).question ≡ n = sym c.number_of_question-number.ensures in
    let all = all-IsWithin c.args.part.now v c.args.asks.items items c.vertices-vertices.ensures c.deref-ask-items.ensures.value c.requires in
    let more : map (reply_to c.args.part.now.edges) (take (i + 1) items) ≡ _ = map_more (reply_to c.args.part.now.edges) items i blank within in
    let count : length c.deref.result.now ≡ i =
    ap length (c.deref.ensures.value ∙ c.loop-place.invariant.replies)
    ∙ length-map (take i items) (reply_to c.args.part.now.edges) ∙ length-take-le i items (omega arith) in
    let one_more : distinct_questions (take (i + 1) items) ≡ _ =
    distinct_questions-more v items i n c.in_ok-first.first (length c.deref.result.now) blank (get nat_eq c.loop-place.places n) all within here count
    c.in_ok-first.ensures.first (c.loop-place.invariant.kept n) in
    record {
      replies = (let all_but = c.loop-place.invariant.replies in let last = c.in_ok-reply.ensures.reply in let now = c.in_ok-push.ensures.items in cc);
      ticks = (let before = c.loop-place.invariant.ticks in let step = c.in_ok-reply.ensures.ticks in omega (arith, one_more, step, before));
      kept = Remembers-more v items i n c.in_ok-first.first blank (λ m. get nat_eq c.loop-place.places m) (λ m. get nat_eq c.first_place.new.places m)
          within here c.in_ok-first.ensures.first c.in_ok-first.ensures.places c.loop-place.invariant.kept;
    }

pub returns-clause-replies : goal.returns-clause-replies
returns-clause-replies g c =
    let items = c.deref-ask-items.result.now in
    c.loop-place.invariant.replies
    ∙ ap (map (reply_to c.args.part.now.edges)) (take_all c.loop-place.place items (omega arith) ∙ c.deref-ask-items.ensures.value)

pub returns-clause-ticks : goal.returns-clause-ticks
returns-clause-ticks g c =
    let items = c.deref-ask-items.result.now in
    c.loop-place.invariant.ticks
    ∙ ap (λ l. c.args.steps.now + distinct_questions l) (take_all c.loop-place.place items (omega arith) ∙ c.deref-ask-items.ensures.value)
