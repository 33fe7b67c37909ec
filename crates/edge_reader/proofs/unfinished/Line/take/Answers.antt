use Rattle.std.proofs.Common.{refl, ap, sym, ◌∷◌, ◌∙◌}
use Rattle.edge_reader.specs.Unfinished.{line_with}
use Rattle.edge_reader.proofs.ByteLemmas.{plain-more, return-more}
use Rattle.edge_reader.proofs.unfinished.Line.take.Goals as goal

pub returns-then-b-eq13 : goal.returns-then-b-eq13
returns-then-b-eq13 c = λ rest.
    return-more c.give_back.new.line _ rest c.give_back.ensures.returned refl refl refl refl
    ∙ ap (λ b. line_with c.give_back.new.line (b ∷ rest)) (sym c.if-b-eq13.true)
    ∙ c.give_back.ensures.goes_on c.args.b rest

pub returns : goal.returns
returns c = λ rest.
    plain-more c.give_back.new.line c.take_solid.new.line c.args.b rest c.if-b-eq13.false c.give_back.ensures.returned
    (c.take_solid.ensures.returned ∙ c.give_back.ensures.returned) c.take_solid.ensures.goes_on
    ∙ c.give_back.ensures.goes_on c.args.b rest
