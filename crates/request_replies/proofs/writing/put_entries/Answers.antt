use Rattle.std.proofs.Common.{◌≡◌, ◌<◌, ◌++◌, ℕ, List, ◌-◌, length, take, drop, map, get_or, [], ◌∷◌, ◌∙◌, sym, ap, append_assoc, arith}
use Rattle.std.proofs.lemmas.List.{take_rest}
use Rattle.std.specs.Prelude.{decimal}
use Rattle.std.specs.List.{concat}
use Rattle.path_writer.specs.Named.{spaced}
use Rattle.path_writer.proofs.WaitingLemmas.{but-after, front-waiting, front-longer, ok-so, err-so}
use Rattle.request_replies.specs.Lines.{entries}
use Rattle.request_replies.proofs.ReplyLaws.{entries-first}
use Rattle.request_replies.proofs.writing.put_entries.Goals as goal

entries-at : (xs : List ℕ) (d : ℕ) → 0 < length xs → entries xs ≡ decimal (get_or xs 0 d) ++ concat (map spaced (drop 1 xs))
entries-at [] d some = absurd (omega arith)
entries-at (x ∷ xs) d some = entries-first x xs

-- the entries of a walk after a text, in two pieces
in-two : (before walk : List ℕ) → 0 < length walk
    → before ++ entries walk ≡ (before ++ decimal (get_or walk 0 0)) ++ concat (map spaced (take (length walk - 1) (drop 1 walk)))
in-two before walk some =
    ap (λ l. before ++ l) (entries-at walk 0 some)
    ∙ sym (append_assoc before (decimal (get_or walk 0 0)) (concat (map spaced (drop 1 walk))))
    ∙ ap (λ l. (before ++ decimal (get_or walk 0 0)) ++ concat (map spaced l)) (sym (take_rest walk 1))

pub returns-in-Ok-clause-whole : goal.returns-in-Ok-clause-whole
returns-in-Ok-clause-whole g c =
    let some : 0 < length c.args.ids.now = omega arith in
    ok-so c.put_ids.result
    (λ next. but-after _ _ _ (c.args.block.now ++ decimal (get_or c.args.ids.now 0 0)) c.put_number.new.block (concat (map spaced (take (length c.args.ids.now - 1) (drop 1 c.args.ids.now)))) _ c.put_ids.new.block
    (in-two c.args.block.now c.args.ids.now some) c.in-Ok.ensures.whole next)
    c.put_ids.ensures.whole

pub returns-in-Ok-clause-front : goal.returns-in-Ok-clause-front
returns-in-Ok-clause-front g c =
    let some : 0 < length c.args.ids.now = omega arith in
    err-so c.put_ids.result
    (λ next. front-waiting _ _ _ (c.args.block.now ++ decimal (get_or c.args.ids.now 0 0)) c.put_number.new.block (concat (map spaced (take (length c.args.ids.now - 1) (drop 1 c.args.ids.now)))) _
    (in-two c.args.block.now c.args.ids.now some) c.in-Ok.ensures.whole next)
    c.put_ids.ensures.front

pub returns-in-Err-clause-front : goal.returns-in-Err-clause-front
returns-in-Err-clause-front g c =
    let some : 0 < length c.args.ids.now = omega arith in
    front-longer _ _ (c.args.block.now ++ decimal (get_or c.args.ids.now 0 0)) (concat (map spaced (take (length c.args.ids.now - 1) (drop 1 c.args.ids.now)))) _
    (in-two c.args.block.now c.args.ids.now some) c.in-Err.ensures.front
