use Rattle.std.proofs.Common.{◌≡◌, true, ◌∙◌, ap, sym, subst, map, string_bytes, ⊎_elim}
use Rattle.clap.specs.Words.{App, IsAmong, app_of, fault_of, is_simple, is_simple_and_free, kind_of, matches_of}
use Rattle.walk_top.proofs.WordMatches.{answers, are_texts, refuses, simple, simple_and_free, texts}
use Rattle.walk_top.proofs.splitting.split.Goals as goal

pub returns-in-Ok : goal.returns-in-Ok
returns-in-Ok c =
    let app = c.in_ok-command.ensures in
    let words = map string_bytes c.args.words.now in
    let free : is_simple_and_free (app_of c.in_ok-command.command) ≡ true = ap is_simple_and_free app ∙ simple_and_free (texts c.args.options.now) in
    let no_fault = c.in-Ok.ensures.kinds free in
    let rows = c.in-Ok.ensures.matches (ap is_simple app ∙ simple (texts c.args.options.now)) in
    answers (texts c.args.options.now) words c.requires.fresh (are_texts c.args.words.now) c.in-Ok.matches
    (ap (λ (a : App). fault_of a words) (sym app) ∙ no_fault) (rows.0 ∙ ap (λ (a : App). matches_of a words) app)

pub returns : goal.returns
returns c =
    let app = c.in_ok-command.ensures in
    let words = map string_bytes c.args.words.now in
    let free : is_simple_and_free (app_of c.in_ok-command.command) ≡ true = ap is_simple_and_free app ∙ simple_and_free (texts c.args.options.now) in
    let k = kind_of c.in-Err.error in
    ⊎_elim (λ memory. absurd (c.in_default.not-OutOfMemory (c.kind.ensures ∙ memory)))
    (λ among. refuses (texts c.args.options.now) words c.requires.fresh (are_texts c.args.words.now) k (subst (λ (a : App). IsAmong k (fault_of a words)) app among))
    (c.in-Err.ensures.kinds free)
