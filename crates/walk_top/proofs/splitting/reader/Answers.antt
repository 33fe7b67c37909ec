use Rattle.std.proofs.Common.{rules, ◌≡◌, ◌∙◌, ap₂}
use Rattle.clap.specs.Words.{rule_of, with_rule}
use Rattle.walk_top.specs.WordReader.{new_option}
use Rattle.walk_top.proofs.WordMatches.{grows}
use Rattle.walk_top.proofs.splitting.reader.Goals as goal

pub loop-name-preserved : goal.loop-name-preserved
loop-name-preserved c =
    let is : rule_of c.action-option.result ≡ new_option c.new-in-loop-name.result.id.now = search rules in
    c.in_ok-command-2.ensures.shape (search rules) ∙ ap₂ with_rule c.loop-name.invariant is ∙ grows c.args.options.now c.loop-name.name-index c.new-in-loop-name.result.id (search rules) (search rules)
