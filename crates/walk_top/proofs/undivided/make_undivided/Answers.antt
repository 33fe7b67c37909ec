use Rattle.std.proofs.Common.{◌≡◌, ◌<◌, List, length, sym, subst, arith}
use Rattle.walk_model.specs.Graph.{vertices_of}
use Rattle.csr_store.specs.RowGraph.{RowGraph}
use Rattle.vertex_partition.specs.PartViews.{PartView, IsPartOf}
use Rattle.traveller.specs.Standing.{Suits}
use Rattle.walk_top.specs.Readiness.{ranked_graph}
use Rattle.walk_top.proofs.CarriageLemmas.{owns-all}
use Rattle.walk_top.proofs.undivided.make_undivided.Goals as goal

pub returns : goal.returns
returns c = λ edges plan seed ready.
    (let g : RowGraph = ranked_graph (vertices_of edges) edges in
    let parts : List PartView = c.args.ready.parts.items in
    let low : 0 < length parts = (let one = c.requires in omega (arith, one)) in
    let at = c.remove-part.ensures.value in
    record {
      names = ready.names;
      plan_is = ready.plan_is;
      seed_is = ready.seed_is;
      vertices = ready.vertices;
      part = subst (λ p. IsPartOf g p) (sym at) ((ready.parts_are.each 0 c.remove-part.result low).of_graph);
      suits = subst (λ p. Suits c.args.ready.run p) (sym at) (ready.walkable.suits 0 c.remove-part.result low);
      all = owns-all g _ _ parts c.remove-part.result ready.parts_are c.requires at;
    })
