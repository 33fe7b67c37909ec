use Rattle.std.proofs.Common.{◌≡◌, ◌<◌, ◌++◌, ℕ, List, ◌-◌, length, take, drop, get_or, ◌∙◌, sym, ap, append_assoc, arith}
use Rattle.std.proofs.lemmas.List.{take_rest}
use Rattle.std.specs.Prelude.{slice_index, decimal}
use Rattle.path_writer.specs.Named.{later, entries}
use Rattle.path_writer.proofs.WaitingLemmas.{but-after, front-waiting, front-longer, ok-so, err-so}
use Rattle.path_writer.proofs.TextLemmas.{entries-at}
use Rattle.path_writer.proofs.walks.put_entries.Goals as goal

-- the entries of a walk after a text, in two pieces
in-two : (names before walk : List ℕ) (first : ℕ) → 0 < length walk → first ≡ slice_index names (get_or walk 0 0)
    → before ++ entries names walk ≡ (before ++ decimal first) ++ later names (take (length walk - 1) (drop 1 walk))
in-two names before walk first some is =
    ap (λ l. before ++ l) (entries-at names walk 0 some)
    ∙ sym (append_assoc before (decimal (slice_index names (get_or walk 0 0))) (later names (drop 1 walk)))
    ∙ ap (λ l. (before ++ decimal (slice_index names (get_or walk 0 0))) ++ later names l) (sym (take_rest walk 1))
    ∙ ap (λ x. (before ++ decimal x) ++ later names (take (length walk - 1) (drop 1 walk))) (sym is)

pub returns-in-Ok-clause-whole : goal.returns-in-Ok-clause-whole
returns-in-Ok-clause-whole g c =
    let some : 0 < length c.args.walk.now = omega arith in
    ok-so c.put_later.result
    (λ next. but-after _ _ _ (c.args.block.now ++ decimal c.id.result) c.put_number.new.block (later c.args.names.now (take (length c.args.walk.now - 1) (drop 1 c.args.walk.now))) _ c.put_later.new.block
    (in-two c.args.names.now c.args.block.now c.args.walk.now c.id.result some c.id.ensures.id) c.in-Ok.ensures.whole next)
    c.put_later.ensures.whole

pub returns-in-Ok-clause-front : goal.returns-in-Ok-clause-front
returns-in-Ok-clause-front g c =
    let some : 0 < length c.args.walk.now = omega arith in
    err-so c.put_later.result
    (λ next. front-waiting _ _ _ (c.args.block.now ++ decimal c.id.result) c.put_number.new.block (later c.args.names.now (take (length c.args.walk.now - 1) (drop 1 c.args.walk.now))) _
    (in-two c.args.names.now c.args.block.now c.args.walk.now c.id.result some c.id.ensures.id) c.in-Ok.ensures.whole next)
    c.put_later.ensures.front

pub returns-in-Err-clause-front : goal.returns-in-Err-clause-front
returns-in-Err-clause-front g c =
    let some : 0 < length c.args.walk.now = omega arith in
    front-longer _ _ (c.args.block.now ++ decimal c.id.result) (later c.args.names.now (take (length c.args.walk.now - 1) (drop 1 c.args.walk.now))) _
    (in-two c.args.names.now c.args.block.now c.args.walk.now c.id.result some c.id.ensures.id) c.in-Err.ensures.front
