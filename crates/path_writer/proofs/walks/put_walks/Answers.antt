use Rattle.std.proofs.Common.{◌≡◌, ◌<◌, ◌++◌, ℕ, List, [], suc, length, take, drop, map, get_or, refl, ◌∙◌, sym, ap, subst, arith}
use Rattle.std.proofs.lemmas.List.{append-nil, take_all}
use Rattle.std.specs.List.{concat}
use Rattle.walk_model.specs.Text.{text}
use Rattle.path_writer.specs.Gains.{GainsBut}
use Rattle.path_writer.specs.Named.{named}
use Rattle.path_writer.proofs.GainLemmas.{pieces-more, pieces-at}
use Rattle.path_writer.proofs.WaitingLemmas.{but-all, but-after, front-waiting, front-longer}
use Rattle.path_writer.proofs.TextLemmas.{line_by, text-lines, at-place}
use Rattle.path_writer.proofs.walks.put_walks.Goals as goal

pub loop-i-init : goal.loop-i-init
loop-i-init g c = record {
  so_far = but-all _ _ _ c.args.block.now refl (append-nil c.args.block.now);
  later = omega arith;
}

pub loop-i-preserved : goal.loop-i-preserved
loop-i-preserved g c =
    let there : c.loop-i.i < length c.args.finished.now = omega arith in
    let f : List ℕ → List ℕ = line_by c.args.names.now in
    let piece : f (get_or c.args.finished.now c.loop-i.i []) ≡ f c.walk.result.now = ap f (at-place c.args.finished.now c.loop-i.i c.walk.result.now [] c.walk.ensures) in
    let before = c.args.block.now ++ concat (map f (take c.loop-i.i c.args.finished.now)) in
    record {
      so_far = but-after _ _ _ before c.loop-i.block (f c.walk.result.now) _ c.put_walk.new.block
          (pieces-more f c.args.block.now c.args.finished.now c.loop-i.i [] there ∙ ap (λ l. before ++ l) piece)
          c.loop-i.invariant.so_far c.in-Ok.ensures.whole;
      later = let e = c.put_walk.ensures.later in omega arith;
    }

pub returns-in-Err-clause-front : goal.returns-in-Err-clause-front
returns-in-Err-clause-front g c =
    let there : c.loop-i.i < length c.args.finished.now = omega arith in
    let f : List ℕ → List ℕ = line_by c.args.names.now in
    let piece : f (get_or c.args.finished.now c.loop-i.i []) ≡ f c.walk.result.now = ap f (at-place c.args.finished.now c.loop-i.i c.walk.result.now [] c.walk.ensures) in
    let before = c.args.block.now ++ concat (map f (take c.loop-i.i c.args.finished.now)) in
    let after = concat (map f (drop (suc c.loop-i.i) c.args.finished.now)) in
    front-longer _ _ (before ++ f c.walk.result.now) after _
    (ap (λ l. c.args.block.now ++ l) (text-lines c.args.names.now c.args.finished.now)
    ∙ pieces-at f c.args.block.now c.args.finished.now c.loop-i.i [] there ∙ ap (λ l. (before ++ l) ++ after) piece)
    (front-waiting _ _ _ before c.loop-i.block (f c.walk.result.now) (before ++ f c.walk.result.now) refl c.loop-i.invariant.so_far c.in-Err.ensures.front)

pub returns-clause-whole : goal.returns-clause-whole
returns-clause-whole g c =
    let f : List ℕ → List ℕ = line_by c.args.names.now in
    let all : c.args.block.now ++ concat (map f (take c.loop-i.i c.args.finished.now)) ≡ c.args.block.now ++ text (named c.args.names.now c.args.finished.now) =
    ap (λ l. c.args.block.now ++ concat (map f l)) (take_all c.loop-i.i c.args.finished.now (omega arith))
    ∙ ap (λ l. c.args.block.now ++ l) (sym (text-lines c.args.names.now c.args.finished.now)) in
    subst (λ l. GainsBut (g.K.Sink.bytes c.args.out.now) (g.K.Sink.bytes c.loop-i.out) l c.loop-i.block) all c.loop-i.invariant.so_far
