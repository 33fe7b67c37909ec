use Rattle.std.proofs.Common.{List, length, ap, sym, subst, ◌∙◌, arith}
use Rattle.std.specs.Prelude.{All}
use Rattle.walk_model.specs.declared.graph.Edge.{Edge}
use Rattle.walk_top.proofs.MadeLemmas.{IsLight, made-length, made-weights}
use Rattle.walk_top.proofs.graphs.made_graph.Goals as goal

pub returns-in-Ok-clause-few : goal.returns-in-Ok-clause-few
returns-in-Ok-clause-few c =
    let w = c.args.words.now in
    let long = ap (λ (l : List Edge). length l) c.in-Ok.ensures ∙ made-length w.vertices w.degree w.seed in
    omega (arith, long, c.if-words-gt-MOST_EDGES.false)

pub returns-in-Ok-clause-weights : goal.returns-in-Ok-clause-weights
returns-in-Ok-clause-weights c =
    let w = c.args.words.now in
    subst (λ (l : List Edge). All IsLight l) (sym c.in-Ok.ensures) (made-weights w.vertices w.degree w.seed)
