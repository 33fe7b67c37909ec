use Rattle.std.proofs.Common.{◌≡◌, sym, ◌∙◌}
use Rattle.traveller.specs.declared.modes.Mode.TheVariants.{Fresh}
use Rattle.shard_core.proofs.LeaveLemmas.{asks-stands, rests-fresh}
use Rattle.shard_core.proofs.leaving.Left.take.Goals as goal

pub ask-requires-clause-stands : goal.ask-requires-clause-stands
ask-requires-clause-stands c =
    asks-stands c.args.here.now.run c.args.here.now.part c.args.traveller c.in-Some.question c.requires.turned (sym c.in-Some.ensures)

pub send-requires-clause-fresh : goal.send-requires-clause-fresh
send-requires-clause-fresh c =
    rests-fresh c.args.here.now.run c.args.here.now.part c.args.traveller c.requires.turned (sym c.has_ended.ensures ∙ c.if-has_ended.false)
    (sym c.question.ensures ∙ c.in-None.is)

pub send-requires-clause-leaves : goal.send-requires-clause-leaves
send-requires-clause-leaves c =
    c.requires.leaves (rests-fresh c.args.here.now.run c.args.here.now.part c.args.traveller c.requires.turned (sym c.has_ended.ensures ∙ c.if-has_ended.false)
    (sym c.question.ensures ∙ c.in-None.is))
