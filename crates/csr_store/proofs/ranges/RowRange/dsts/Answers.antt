use Rattle.std.proofs.Common.{◌≡◌, ◌<◌, ◌+◌, ◌-◌, ℕ, arith, ap, ◌∙◌, sym, subst}
use Rattle.walk_model.specs.Graph.{row, ends_of}
use Rattle.csr_store.specs.RowGraph.{RangeGraph, IsIn}
use Rattle.csr_store.specs.Stored.{graph_of}
use Rattle.csr_store.proofs.EndLemmas.{ends-stored, ends-vertices}
use Rattle.csr_store.proofs.ranges.RowRange.dsts.Goals as goal

pub returns-clause-ends : goal.returns-clause-ends
returns-clause-ends c =
    let inside : IsIn (graph_of c.self.inside) c.args.v = subst (λ (g : RangeGraph). IsIn g c.args.v) (sym c.self.view_is) c.requires in
    let n : ℕ = c.args.v - c.self.inside.first in
    let end_is = c.self.invariant.end_is in
    let low : n < c.self.inside.count = omega (arith, inside, end_is) in
    let here : c.self.inside.first + n ≡ c.args.v = omega (arith, inside) in
    rw (← c.self.view_is)
    (ends-stored c.self.inside c.self.invariant n c.start-from.result c.start-to.result c.deref.result.now
    low c.start-from.ensures c.start-to.ensures c.deref.ensures.value
    ∙ ap (λ w. ends_of (row (graph_of c.self.inside).edges w)) here)

pub returns-clause-below : goal.returns-clause-below
returns-clause-below c =
    let inside : IsIn (graph_of c.self.inside) c.args.v = subst (λ (g : RangeGraph). IsIn g c.args.v) (sym c.self.view_is) c.requires in
    let n : ℕ = c.args.v - c.self.inside.first in
    let end_is = c.self.invariant.end_is in
    let low : n < c.self.inside.count = omega (arith, inside, end_is) in
    rw (← c.self.view_is)
    (ends-vertices c.self.inside c.self.invariant n c.start-from.result c.start-to.result c.deref.result.now
    low c.start-from.ensures c.start-to.ensures c.deref.ensures.value)
