use Rattle.std.proofs.Common.{length, ap, ◌∙◌, arith}
use Rattle.std.specs.Prelude.{sum}
use Rattle.std.proofs.lemmas.Result.{IfOk-weaker}
use Rattle.walk_model.specs.Cuts.{costs_of}
use Rattle.walk_model.specs.Numbers.{below}
use Rattle.walk_top.proofs.CuttingLemmas.{costs-most, cuts-one, many-costs}
use Rattle.walk_top.proofs.cutting.cuts_between.Goals as goal

pub returns-then-parts-eq1-clause-cuts : goal.returns-then-parts-eq1-clause-cuts
returns-then-parts-eq1-clause-cuts c =
    c.none.ensures.cuts ∙ cuts-one (costs_of c.args.rows.now.edges (below c.args.rows.now.vertices)) c.args.parts (omega (arith, c.if-parts-eq1.true))

pub balanced-requires-clause-vertices : goal.balanced-requires-clause-vertices
balanced-requires-clause-vertices c =
    let many = ap length (c.deref.ensures.value ∙ c.in_ok-costs.ensures) ∙ many-costs c.args.rows.now.edges c.args.rows.now.vertices in
    omega (arith, many, c.requires.vertices)

pub balanced-requires-clause-sum : goal.balanced-requires-clause-sum
balanced-requires-clause-sum c =
    let all = ap sum (c.deref.ensures.value ∙ c.in_ok-costs.ensures) in
    let most = costs-most c.args.rows.now.edges c.args.rows.now.vertices in
    omega (arith, all, most, c.requires.vertices, c.requires.edges)

pub returns-clause-vertices : goal.returns-clause-vertices
returns-clause-vertices c =
    IfOk-weaker c.balanced.result _ _
    (λ made is. is ∙ ap length (c.deref.ensures.value ∙ c.in_ok-costs.ensures) ∙ many-costs c.args.rows.now.edges c.args.rows.now.vertices) c.balanced.ensures.vertices
