use Rattle.std.proofs.Common.{◌≡◌, ◌<◌, ◌+◌, ◌-◌, ℕ, arith, ap, ◌∙◌, sym, subst}
use Rattle.walk_model.specs.Graph.{row}
use Rattle.csr_store.specs.OutEdges.{kinds_of}
use Rattle.csr_store.specs.RowGraph.{RangeGraph, IsIn}
use Rattle.csr_store.specs.Stored.{graph_of}
use Rattle.csr_store.proofs.EndLemmas.{kinds-stored}
use Rattle.csr_store.proofs.ranges.RowRange.kinds.Goals as goal

pub returns : goal.returns
returns c =
    let inside : IsIn (graph_of c.self.inside) c.args.v = subst (λ (g : RangeGraph). IsIn g c.args.v) (sym c.self.view_is) c.requires in
    let n : ℕ = c.args.v - c.self.inside.first in
    let end_is = c.self.invariant.end_is in
    let low : n < c.self.inside.count = omega (arith, inside, end_is) in
    let here : c.self.inside.first + n ≡ c.args.v = omega (arith, inside) in
    rw (← c.self.view_is)
    (kinds-stored c.self.inside c.self.invariant n c.start-from.result c.start-to.result c.deref.result.now
    low c.start-from.ensures c.start-to.ensures c.deref.ensures.value
    ∙ ap (λ w. kinds_of (row (graph_of c.self.inside).edges w)) here)
