use Rattle.std.proofs.Common.{◌≡◌, ◌++◌, ◌+◌, suc, take, drop, map, get_or, refl, ap, sym, ◌∙◌, subst, arith}
use Rattle.std.proofs.lemmas.List.{append-nil, take_all}
use Rattle.std.specs.List.{concat}
use Rattle.path_writer.specs.Gains.{GainsBut}
use Rattle.path_writer.proofs.GainLemmas.{pieces-more, pieces-at}
use Rattle.path_writer.proofs.WaitingLemmas.{but-all, but-after, front-waiting, front-longer}
use Rattle.request_replies.proofs.ReplyLaws.{single, bytes-one}
use Rattle.request_replies.proofs.writing.put_text.Goals as goal

pub loop-b-init : goal.loop-b-init
loop-b-init g c = record {
  so_far = but-all _ _ _ c.args.block.now refl (append-nil c.args.block.now);
  later = omega arith;
}

pub loop-b-preserved : goal.loop-b-preserved
loop-b-preserved g c = record {
  so_far = but-after _ _ _ (c.args.block.now ++ concat (map single (take c.loop-b.b-index c.args.text.now))) c.loop-b.block (single (get_or c.args.text.now c.loop-b.b-index 0))
      (c.args.block.now ++ concat (map single (take (c.loop-b.b-index + 1) c.args.text.now))) c.put_byte.new.block
      (pieces-more single c.args.block.now c.args.text.now c.loop-b.b-index 0 c.loop-b-test.true)
      c.loop-b.invariant.so_far c.in-Ok.ensures.whole;
  later = let e = c.put_byte.ensures.later in omega arith;
}

pub returns-in-Err-clause-front : goal.returns-in-Err-clause-front
returns-in-Err-clause-front g c =
    let before = c.args.block.now ++ concat (map single (take c.loop-b.b-index c.args.text.now)) in
    let piece = single (get_or c.args.text.now c.loop-b.b-index 0) in
    front-longer _ _ (before ++ piece) (concat (map single (drop (suc c.loop-b.b-index) c.args.text.now))) _
    (ap (λ l. c.args.block.now ++ l) (sym (bytes-one c.args.text.now)) ∙ pieces-at single c.args.block.now c.args.text.now c.loop-b.b-index 0 c.loop-b-test.true)
    (front-waiting _ _ _ before c.loop-b.block piece (before ++ piece) refl c.loop-b.invariant.so_far c.in-Err.ensures.front)

pub returns-clause-whole : goal.returns-clause-whole
returns-clause-whole g c =
    let all : c.args.block.now ++ concat (map single (take c.loop-b.b-index c.args.text.now)) ≡ c.args.block.now ++ c.args.text.now =
    ap (λ l. c.args.block.now ++ concat (map single l)) (take_all c.loop-b.b-index c.args.text.now (omega arith)) ∙ ap (λ l. c.args.block.now ++ l) (bytes-one c.args.text.now) in
    subst (λ l. GainsBut (g.K.Sink.bytes c.args.out.now) (g.K.Sink.bytes c.loop-b.out) l c.loop-b.block) all c.loop-b.invariant.so_far
