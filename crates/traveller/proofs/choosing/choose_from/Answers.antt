use Rattle.std.proofs.Common.{◌≡◌, ◌+◌, ℕ, List, Option, Some, refl, ap, sym, ◌∙◌}
use Rattle.walk_model.specs.declared.graph.Edge.{Edge}
use Rattle.traveller.specs.declared.ruling.TypedFactors.TheVariants as typed
use Rattle.walk_model.specs.Words.{word}
use Rattle.walk_model.specs.Dart.{Board}
use Rattle.walk_model.specs.Graph.{row, ends_of}
use Rattle.walk_model.specs.Letters.{Asker, asker}
use Rattle.traveller.specs.Askers.{IsAsker, IsAway}
use Rattle.traveller.specs.Locals.{IsLocal, row_mode}
use Rattle.traveller.specs.Ticks.{row_columns}
use Rattle.traveller.specs.Turns.{asker_by}
use Rattle.traveller.proofs.AskerLemmas.{asker-some}
use Rattle.traveller.proofs.ChoiceLemmas.{IsNear, near-rule}
use Rattle.traveller.proofs.FromLemmas.{by-goes, by-local, row-local}
use Rattle.traveller.proofs.choosing.choose_from.Goals as goal

pub choose_mode-requires-clause-local : goal.choose_mode-requires-clause-local
choose_mode-requires-clause-local g c = c.in-None.ensures.here c.args.plan.now.rule c.requires.rule.typed

pub returns-in-None-clause-mode : goal.returns-in-None-clause-mode
returns-in-None-clause-mode g c = λ graph j of goes.
    let local : IsLocal c.args.part.now c.args.plan.now.rule c.args.s.previous = c.in-None.ensures.here c.args.plan.now.rule c.requires.rule.typed in
    row-local graph c.args.part.now c.args.plan.now (word c.args.reader.now.seed c.args.reader.now.walker) j c.args.s c.args.left c.args.reader.now.place of goes c.requires.at local
    ∙ sym c.choose_mode.ensures.mode

pub returns-in-None-clause-ticks : goal.returns-in-None-clause-ticks
returns-in-None-clause-ticks g c = λ graph j of goes.
    let words : ℕ → ℕ = word c.args.reader.now.seed c.args.reader.now.walker in
    let local : IsLocal c.args.part.now c.args.plan.now.rule c.args.s.previous = c.in-None.ensures.here c.args.plan.now.rule c.requires.rule.typed in
    c.choose_mode.ensures.ticks
    ∙ sym (by-local (λ (r : Option Asker) (b : Board) (out : List Edge). c.args.steps.now + row_columns c.args.left r b out words c.args.reader.now.place)
    graph c.args.part.now c.args.plan.now words j c.args.s of goes c.requires.at local)

pub returns-in-Some-clause-mode : goal.returns-in-Some-clause-mode
returns-in-Some-clause-mode g c = λ graph j of goes.
    let words : ℕ → ℕ = word c.args.reader.now.seed c.args.reader.now.walker in
    let far : IsAway c.args.part.now c.args.plan.now.rule c.args.s.previous c.in-Some.far.back c.in-Some.far.factors.now =
    c.in-Some.ensures.there c.args.plan.now.rule c.requires.rule.typed in
    let by : IsNear c.args.plan.now.rule c.in-Some.far.factors.now = near-rule c.args.plan.now.rule (typed.Node2vec c.in-Some.far.factors.now) c.in-Some.far.factors.now refl far.factors_are in
    let a : Asker = asker j c.args.s c.in-Some.far.back by.p by.q in
    let other : j.owner c.in-Some.far.back ≡ j.owner c.args.s.at → ⊥ = λ e.
    far.other (sym (goes.owners c.in-Some.far.back) ∙ e ∙ goes.owners c.args.s.at ∙ c.requires.at.owner_is) in
    let asks : asker_by j c.args.s c.args.plan.now.rule c.args.s.previous ≡ Some a =
    asker-some j c.args.s c.args.plan.now.rule c.args.s.previous by.p by.q c.in-Some.far.back by.rule far.before other in
    let is : IsAsker graph c.args.plan.now c.args.s c.in-Some.far.back a = record { rule = by.rule; before = refl; ends = ap (λ es. ends_of (row es c.args.s.at)) goes.edges } in
    by-goes (λ (r : Option Asker) (b : Board) (out : List Edge). row_mode c.args.left r b out words c.args.reader.now.place)
    graph c.args.part.now c.args.plan.now words j c.args.s (Some a) goes asks
    ∙ c.choose_asking.ensures.mode graph a of is

pub returns-in-Some-clause-ticks : goal.returns-in-Some-clause-ticks
returns-in-Some-clause-ticks g c = λ graph j of goes.
    let words : ℕ → ℕ = word c.args.reader.now.seed c.args.reader.now.walker in
    let far : IsAway c.args.part.now c.args.plan.now.rule c.args.s.previous c.in-Some.far.back c.in-Some.far.factors.now =
    c.in-Some.ensures.there c.args.plan.now.rule c.requires.rule.typed in
    let by : IsNear c.args.plan.now.rule c.in-Some.far.factors.now = near-rule c.args.plan.now.rule (typed.Node2vec c.in-Some.far.factors.now) c.in-Some.far.factors.now refl far.factors_are in
    let a : Asker = asker j c.args.s c.in-Some.far.back by.p by.q in
    let other : j.owner c.in-Some.far.back ≡ j.owner c.args.s.at → ⊥ = λ e.
    far.other (sym (goes.owners c.in-Some.far.back) ∙ e ∙ goes.owners c.args.s.at ∙ c.requires.at.owner_is) in
    let asks : asker_by j c.args.s c.args.plan.now.rule c.args.s.previous ≡ Some a =
    asker-some j c.args.s c.args.plan.now.rule c.args.s.previous by.p by.q c.in-Some.far.back by.rule far.before other in
    let is : IsAsker graph c.args.plan.now c.args.s c.in-Some.far.back a = record { rule = by.rule; before = refl; ends = ap (λ es. ends_of (row es c.args.s.at)) goes.edges } in
    c.choose_asking.ensures.ticks graph a of is
    ∙ sym (by-goes (λ (r : Option Asker) (b : Board) (out : List Edge). c.args.steps.now + row_columns c.args.left r b out words c.args.reader.now.place)
    graph c.args.part.now c.args.plan.now words j c.args.s (Some a) goes asks)
