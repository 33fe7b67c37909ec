use Rattle.std.proofs.Common.{◌≡◌, ◌++◌, ◌∷◌, [], ℕ, List, ◌∙◌, sym, ap, append_assoc}
use Rattle.walk_model.specs.Text.{line}
use Rattle.path_writer.proofs.WaitingLemmas.{but-after, front-waiting, front-longer, ok-so, err-so}
use Rattle.request_replies.specs.Lines.{entries}
use Rattle.request_replies.proofs.ReplyLaws.{line-entries}
use Rattle.request_replies.proofs.writing.put_line.Goals as goal

-- the line of a walk after a text, in two pieces
in-two : (before walk : List ℕ) → before ++ line walk ≡ (before ++ entries walk) ++ 10 ∷ []
in-two before walk = ap (λ l. before ++ l) (line-entries walk) ∙ sym (append_assoc before (entries walk) (10 ∷ []))

pub returns-in-Ok-clause-whole : goal.returns-in-Ok-clause-whole
returns-in-Ok-clause-whole g c =
    ok-so c.put_byte.result
    (λ next. but-after _ _ _ (c.args.block.now ++ entries c.args.ids.now) c.put_entries.new.block (10 ∷ []) _ c.put_byte.new.block
    (in-two c.args.block.now c.args.ids.now) c.in-Ok.ensures.whole next)
    c.put_byte.ensures.whole

pub returns-in-Ok-clause-front : goal.returns-in-Ok-clause-front
returns-in-Ok-clause-front g c =
    err-so c.put_byte.result
    (λ next. front-waiting _ _ _ (c.args.block.now ++ entries c.args.ids.now) c.put_entries.new.block (10 ∷ []) _
    (in-two c.args.block.now c.args.ids.now) c.in-Ok.ensures.whole next)
    c.put_byte.ensures.front

pub returns-in-Err-clause-front : goal.returns-in-Err-clause-front
returns-in-Err-clause-front g c =
    front-longer _ _ (c.args.block.now ++ entries c.args.ids.now) (10 ∷ []) _
    (in-two c.args.block.now c.args.ids.now) c.in-Err.ensures.front
