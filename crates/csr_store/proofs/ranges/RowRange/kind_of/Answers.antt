use Rattle.std.proofs.Common.{length, ap, ◌∙◌, arith}
use Rattle.std.proofs.lemmas.List.{length-map}
use Rattle.walk_model.specs.declared.graph.Edge.{Edge}
use Rattle.walk_model.specs.Graph.{row}
use Rattle.csr_store.proofs.ranges.RowRange.kind_of.Goals as goal

pub bounds-kinds-edge : goal.bounds-kinds-edge
bounds-kinds-edge c =
    let long = ap length c.kinds.ensures ∙ length-map (row c.args.self.now.edges c.args.v) (λ (e : Edge). e.kind) in
    let within = c.requires.edge in
    omega arith
