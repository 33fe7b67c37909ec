use Rattle.std.proofs.Common.{◌≡◌, ◌<◌, ◌++◌, ℕ, List, suc, length, take, drop, map, get_or, Option, Vec, refl, ◌∙◌, sym, ap, subst, arith}
use Rattle.std.specs.List.{concat}
use Rattle.std.specs.declared.alloc.Global.{Global}
use Rattle.std.proofs.lemmas.List.{append-nil, take_all, get_or_default}
use Rattle.path_writer.specs.Gains.{GainsBut}
use Rattle.path_writer.proofs.GainLemmas.{pieces-more, pieces-at}
use Rattle.path_writer.proofs.WaitingLemmas.{but-after, front-waiting, front-longer}
use Rattle.request_reader.specs.declared.requests.Request.{Request}
use Rattle.walk_desk.specs.declared.asks.WalkAnswer.{WalkAnswer}
use Rattle.request_replies.specs.Answered.{AreAllAnswered, AreAnswers, lists_of}
use Rattle.request_replies.specs.Replies.{replies, all_replies}
use Rattle.request_replies.proofs.ReplyLaws.{file_replies, files-is, answers-moved}
use Rattle.request_replies.proofs.writing.put_files.Goals as goal

pub returns-in-Err-clause-front : goal.returns-in-Err-clause-front
returns-in-Err-clause-front g c = λ walks answered.
    let fs = c.args.files.now in
    let k = c.files.k in
    let low : k < length fs = omega arith in
    let file : (get_or fs k c.index-files-k.result).items ≡ c.as_slice.result.now =
    ap (λ (v : Vec (Option Request) Global). v.items) (sym c.index-files-k.is) ∙ sym c.as_slice.ensures.value in
    let here : AreAnswers walks c.as_slice.result.now c.as_slice-taken.result.now c.as_slice-left.result.now =
    answers-moved walks _ _ _ _ _ _ file
    (ap (λ (v : Vec WalkAnswer Global). v.items) (sym c.index.ensures) ∙ sym c.as_slice-taken.ensures.value)
    (ap (λ (v : Vec WalkAnswer Global). v.items) (sym c.index-in-files.ensures) ∙ sym c.as_slice-left.ensures.value)
    (answered.each k c.index-files-k.result c.index.result.now c.index-in-files.result.now low) in
    let before = c.args.block.now ++ concat (map (file_replies walks) (take k fs)) in
    let piece : List ℕ = replies walks c.as_slice.result.now in
    let is : file_replies walks (get_or fs k c.index-files-k.result) ≡ piece = ap (replies walks) file in
    let after = concat (map (file_replies walks) (drop (suc k) fs)) in
    front-longer _ _ (before ++ piece) after _
    (ap (λ l. c.args.block.now ++ l) (files-is walks fs) ∙ pieces-at (file_replies walks) c.args.block.now fs k c.index-files-k.result low ∙ ap (λ l. (before ++ l) ++ after) is)
    (front-waiting _ _ _ before c.files.block piece (before ++ piece) refl (c.files.invariant.so_far walks answered) (c.in-Err.ensures.front walks here))

pub files-preserved : goal.files-preserved
files-preserved g c = record {
  so_far = λ walks answered.
      let fs = c.args.files.now in
      let k = c.files.k in
      let low : k < length fs = omega arith in
      let file : (get_or fs k c.index-files-k.result).items ≡ c.as_slice.result.now =
      ap (λ (v : Vec (Option Request) Global). v.items) (sym c.index-files-k.is) ∙ sym c.as_slice.ensures.value in
      let here : AreAnswers walks c.as_slice.result.now c.as_slice-taken.result.now c.as_slice-left.result.now =
      answers-moved walks _ _ _ _ _ _ file
      (ap (λ (v : Vec WalkAnswer Global). v.items) (sym c.index.ensures) ∙ sym c.as_slice-taken.ensures.value)
      (ap (λ (v : Vec WalkAnswer Global). v.items) (sym c.index-in-files.ensures) ∙ sym c.as_slice-left.ensures.value)
      (answered.each k c.index-files-k.result c.index.result.now c.index-in-files.result.now low) in
      let before = c.args.block.now ++ concat (map (file_replies walks) (take k fs)) in
      let piece : List ℕ = replies walks c.as_slice.result.now in
      let is : file_replies walks (get_or fs k c.index-files-k.result) ≡ piece = ap (replies walks) file in
      but-after _ _ _ before c.files.block piece _ c.put_file.new.block
      (pieces-more (file_replies walks) c.args.block.now fs k c.index-files-k.result low ∙ ap (λ l. before ++ l) is)
      (c.files.invariant.so_far walks answered) (c.in-Ok.ensures.whole walks here);
  later = (let e = c.put_file.ensures.later in let f = c.files.invariant.later in omega arith);
}

pub returns-clause-whole : goal.returns-clause-whole
returns-clause-whole g c = λ walks answered.
    let fs = c.args.files.now in
    let all : c.args.block.now ++ concat (map (file_replies walks) (take c.files.k fs)) ≡ c.args.block.now ++ all_replies walks (lists_of fs) =
    ap (λ l. c.args.block.now ++ concat (map (file_replies walks) l)) (take_all c.files.k fs (omega arith)) ∙ ap (λ l. c.args.block.now ++ l) (sym (files-is walks fs)) in
    subst (λ l. GainsBut (g.K.Sink.bytes c.args.out.now) (g.K.Sink.bytes c.files.out) l c.files.block) all (c.files.invariant.so_far walks answered)
