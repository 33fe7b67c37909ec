use Rattle.std.proofs.Common.{length, ap, ◌∙◌, arith}
use Rattle.walk_model.specs.Graph.{row}
use Rattle.csr_store.proofs.EndLemmas.{length-ends_of}
use Rattle.csr_store.proofs.ranges.RowRange.end_of.Goals as goal

pub offset_bounds-dsts-edge : goal.offset_bounds-dsts-edge
offset_bounds-dsts-edge c =
    let long = ap length c.dsts.ensures.ends ∙ length-ends_of (row c.args.self.now.edges c.args.v) in
    let few = c.dsts.ensures.few in
    let within = c.requires.edge in
    omega arith

pub bounds-dsts-edge : goal.bounds-dsts-edge
bounds-dsts-edge c =
    let long = ap length c.dsts.ensures.ends ∙ length-ends_of (row c.args.self.now.edges c.args.v) in
    let within = c.requires.edge in
    omega arith

pub returns-clause-below : goal.returns-clause-below
returns-clause-below c =
    let long = ap length c.dsts.ensures.ends ∙ length-ends_of (row c.args.self.now.edges c.args.v) in
    let within = c.requires.edge in
    c.dsts.ensures.below c.args.edge 0 (omega arith)
