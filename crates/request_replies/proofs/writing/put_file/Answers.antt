use Rattle.std.proofs.Common.{◌≡◌, ◌<◌, ◌≤◌, ◌++◌, ◌+◌, ℕ, List, [], suc, length, take, drop, map, get_or, Some, None, Option, refl, ◌∙◌, sym, ap, subst, arith}
use Rattle.std.specs.Prelude.{codes}
use Rattle.std.specs.List.{concat}
use Rattle.std.proofs.lemmas.List.{append-nil, take_all}
use Rattle.path_writer.specs.Gains.{GainsBut}
use Rattle.path_writer.proofs.GainLemmas.{pieces-more, pieces-at}
use Rattle.path_writer.proofs.WaitingLemmas.{but-all, but-after, front-waiting, front-longer}
use Rattle.request_reader.specs.declared.requests.Request.{Request}
use Rattle.request_replies.specs.Answered.{good_ones}
use Rattle.request_replies.specs.Replies.{walk_line, reply, replies}
use Rattle.request_replies.proofs.ReplyLaws.{replies-is, answer-there, answer-walk, count-good, count-bad, good-few}
use Rattle.request_replies.proofs.writing.put_file.Goals as goal
use Rattle.request_replies.proofs.writing.put_file.Goals.{in-Some+in-Ok, in-None+in-Ok-put_text}

pub replying-init : goal.replying-init
replying-init g c = record {
  so_far = λ walks answers. but-all _ _ _ c.args.block.now refl (append-nil c.args.block.now);
  next = refl;
  later = omega arith;
}

pub answer_at-requires : goal.answer_at-requires
answer_at-requires g c =
    answer-there c.args.requests.now (length c.args.taken.now + length c.args.left.now) c.replying.k c.replying.next c.in-Some.field-0 c.requires
    (omega arith) c.in-Some.is c.replying.invariant.next

pub overflow_add-next : goal.overflow_add-next
overflow_add-next g c =
    let few = good-few c.args.requests.now c.replying.k in
    let same = c.replying.invariant.next in
    omega (arith, few, same)

pub returns-in-Err-clause-front : goal.returns-in-Err-clause-front
returns-in-Err-clause-front g c = λ walks answers.
    let rs = c.args.requests.now in
    let k = c.replying.k in
    let low : k < length rs = omega arith in
    let before = c.args.block.now ++ concat (map (reply walks) (take k rs)) in
    let piece : List ℕ = walk_line c.answer_at.result.now.walk in
    let is : reply walks (get_or rs k None) ≡ piece =
    ap (reply walks) c.in-Some.is
    ∙ ap walk_line (sym (answer-walk walks rs c.args.taken.now c.args.left.now k c.replying.next c.in-Some.field-0 c.answer_at.result.now answers low c.in-Some.is c.replying.invariant.next c.answer_at.ensures)) in
    let after = concat (map (reply walks) (drop (suc k) rs)) in
    front-longer _ _ (before ++ piece) after _
    (ap (λ l. c.args.block.now ++ l) (replies-is walks rs) ∙ pieces-at (reply walks) c.args.block.now rs k None low ∙ ap (λ l. (before ++ l) ++ after) is)
    (front-waiting _ _ _ before c.replying.block piece (before ++ piece) refl (c.replying.invariant.so_far walks answers) c.in-Err.ensures.front)

pub returns-in-Err-put_text-clause-front : goal.returns-in-Err-put_text-clause-front
returns-in-Err-put_text-clause-front g c = λ walks answers.
    let rs = c.args.requests.now in
    let k = c.replying.k in
    let low : k < length rs = omega arith in
    let before = c.args.block.now ++ concat (map (reply walks) (take k rs)) in
    let piece : List ℕ = codes "? bad request" ++ codes "\n" in
    let is : reply walks (get_or rs k None) ≡ piece = ap (reply walks) c.in-None.is in
    let after = concat (map (reply walks) (drop (suc k) rs)) in
    front-longer _ _ (before ++ piece) after _
    (ap (λ l. c.args.block.now ++ l) (replies-is walks rs) ∙ pieces-at (reply walks) c.args.block.now rs k None low ∙ ap (λ l. (before ++ l) ++ after) is)
    (front-waiting _ _ _ before c.replying.block piece (before ++ piece) refl (c.replying.invariant.so_far walks answers) c.in-Err-put_text.ensures.front)

pub replying-preserved : goal.replying-preserved
replying-preserved g c =
    let rs = c.args.requests.now in
    let k = c.replying.k in
    let low : k < length rs = omega arith in
    elim c.match-requests-k.branch [
      | in-Some+in-Ok w ↦ record {
        so_far = λ walks answers.
            let before = c.args.block.now ++ concat (map (reply walks) (take k rs)) in
            let piece : List ℕ = walk_line w.answer_at.result.now.walk in
            let is : reply walks (get_or rs k None) ≡ piece =
            ap (reply walks) w.in-Some.is
            ∙ ap walk_line (sym (answer-walk walks rs c.args.taken.now c.args.left.now k c.replying.next w.in-Some.field-0 w.answer_at.result.now answers low w.in-Some.is c.replying.invariant.next w.answer_at.ensures)) in
            rw (w.block-is, w.out-is)
            (but-after _ _ _ before c.replying.block piece _ w.put_walk.new.block
            (pieces-more (reply walks) c.args.block.now rs k None low ∙ ap (λ l. before ++ l) is)
            (c.replying.invariant.so_far walks answers) w.in-Ok.ensures.whole);
        next = w.next-is ∙ count-good rs k c.replying.next w.in-Some.field-0 low w.in-Some.is c.replying.invariant.next;
        later = rw w.out-is (let e = w.put_walk.ensures.later in let f = c.replying.invariant.later in omega arith);
      }
      | in-None+in-Ok-put_text w ↦ record {
        so_far = λ walks answers.
            let before = c.args.block.now ++ concat (map (reply walks) (take k rs)) in
            let piece : List ℕ = codes "? bad request" ++ codes "\n" in
            let is : reply walks (get_or rs k None) ≡ piece = ap (reply walks) w.in-None.is in
            rw (w.block-is, w.out-is)
            (but-after _ _ _ before c.replying.block piece _ w.put_text.new.block
            (pieces-more (reply walks) c.args.block.now rs k None low ∙ ap (λ l. before ++ l) is)
            (c.replying.invariant.so_far walks answers) w.in-Ok-put_text.ensures.whole);
        next = w.next-is ∙ count-bad rs k c.replying.next low w.in-None.is c.replying.invariant.next;
        later = rw w.out-is (let e = w.put_text.ensures.later in let f = c.replying.invariant.later in omega arith);
      }
    ]

pub returns-clause-whole : goal.returns-clause-whole
returns-clause-whole g c = λ walks answers.
    let rs = c.args.requests.now in
    let all : c.args.block.now ++ concat (map (reply walks) (take c.replying.k rs)) ≡ c.args.block.now ++ replies walks rs =
    ap (λ l. c.args.block.now ++ concat (map (reply walks) l)) (take_all c.replying.k rs (omega arith)) ∙ ap (λ l. c.args.block.now ++ l) (sym (replies-is walks rs)) in
    subst (λ l. GainsBut (g.K.Sink.bytes c.args.out.now) (g.K.Sink.bytes c.replying.out) l c.replying.block) all (c.replying.invariant.so_far walks answers)
