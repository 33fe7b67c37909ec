-- When a run suits the parts of a graph.
use Rattle.std.proofs.Common.{◌≡◌, ◌<◌, ◌≤◌, ◌*◌, ◌^◌, ℕ, Bool, List, length, sum, None, ap, sym, subst, ◌∙◌}
use Rattle.std.specs.Prelude.{find, nat_lt}
use Rattle.walk_model.specs.declared.graph.Edge.{Edge}
use Rattle.walk_model.specs.Factor.{greatest_factor}
use Rattle.walk_model.specs.Graph.{weights_of}
use Rattle.walk_model.specs.Numbers.{below}
use Rattle.csr_store.specs.RowGraph.{RowGraph}
use Rattle.vertex_partition.specs.PartViews.{PartView, IsPart}
use Rattle.vertex_partition.specs.Reaches.{row_reach}
use Rattle.vertex_partition.proofs.ReachLaws.{reach-within}
use Rattle.traveller.specs.declared.runs.Run.{Run}
use Rattle.traveller.specs.Standing.{Suits}

-- a run suits a part of a graph on which no vertex overflows
pub suits-part : (run : Run) (g : RowGraph) (weighted : Bool) (factor : ℕ) (cuts : List ℕ) (k : ℕ) (p : PartView) → IsPart g weighted cuts k p
    → run.vertices ≡ g.vertices → weighted ≡ run.plan.weighted → factor ≡ greatest_factor run.plan.rule
    → None ≡ find (λ v. nat_lt (2 ^ 62) (row_reach g weighted factor v)) (below g.vertices) → Suits run p
suits-part run g weighted factor cuts k p part many weighs greatest none =
    let found : find (λ v. nat_lt (2 ^ 62) (row_reach g run.plan.weighted (greatest_factor run.plan.rule) v)) (below g.vertices) ≡ None =
    ap (λ f. find (λ v. nat_lt (2 ^ 62) (row_reach g run.plan.weighted f v)) (below g.vertices)) (sym greatest)
    ∙ ap (λ b. find (λ v. nat_lt (2 ^ 62) (row_reach g b factor v)) (below g.vertices)) (sym weighs) ∙ sym none in
    record {
      vertices = many ∙ sym part.of_graph.vertices;
      weighted = part.weights ∙ weighs;
      fits = λ v owns.
          let low : v < g.vertices = subst (λ n. v < n) part.of_graph.vertices owns.below in
          subst (λ (out : List Edge). length (weights_of run.plan.weighted out) * sum (weights_of run.plan.weighted out) * greatest_factor run.plan.rule ≤ 2 ^ 62)
          (sym (part.of_graph.rows v owns)) (reach-within g run.plan found v low);
    }
