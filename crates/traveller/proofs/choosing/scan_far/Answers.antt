use Rattle.std.proofs.Common.{◌≡◌, true, false, ap, ◌∙◌, arith}
use Rattle.std.specs.Prelude.{◌==◌, slice_index}
use Rattle.std.proofs.lemmas.Bool.Decides.{nat_tests}
use Rattle.walk_model.specs.declared.messages.Question.TheVariants as question
use Rattle.traveller.specs.declared.modes.Mode.TheVariants.{AskedRow, Chosen}
use Rattle.traveller.specs.Turns.{chosen_or_over}
use Rattle.traveller.proofs.choosing.scan_far.Goals as goal

pub returns-then-factor-clause-mode : goal.returns-then-factor-clause-mode
returns-then-factor-clause-mode c =
    let differ : (slice_index c.args.factors.now 1 == slice_index c.args.factors.now 2) ≡ false = grind (arith, nat_tests, c.factor.ensures.value, c.factor-2.ensures.value, c.if-factor.true) in
    rw differ (ap (λ p. AskedRow p (question.Row c.args.classes.now.back)) c.place.ensures)

pub returns-in-None-clause-mode : goal.returns-in-None-clause-mode
returns-in-None-clause-mode c =
    let even : (slice_index c.args.factors.now 1 == slice_index c.args.factors.now 2) ≡ true = grind (arith, nat_tests, c.factor.ensures.value, c.factor-2.ensures.value, c.if-factor.false) in
    rw even (ap chosen_or_over c.in-None.ensures.edge)

pub returns-in-Some-clause-mode : goal.returns-in-Some-clause-mode
returns-in-Some-clause-mode c =
    let even : (slice_index c.args.factors.now 1 == slice_index c.args.factors.now 2) ≡ true = grind (arith, nat_tests, c.factor.ensures.value, c.factor-2.ensures.value, c.if-factor.false) in
    rw even (ap (λ p. Chosen c.in-Some.edge p) c.place-in-Some.ensures ∙ ap chosen_or_over c.in-Some.ensures.edge)
