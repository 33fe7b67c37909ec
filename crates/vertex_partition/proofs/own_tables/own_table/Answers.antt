use Rattle.std.proofs.Common.{◌≡◌, List, length, map, ap, ◌∙◌, arith}
use Rattle.std.proofs.lemmas.List.{length-map}
use Rattle.std.proofs.lemmas.Result.{IfOk-weaker}
use Rattle.walk_model.specs.Graph.{row}
use Rattle.csr_store.specs.OutEdges.{out_edge}
use Rattle.csr_store.specs.declared.out_edge.OutEdge.{OutEdge}
use Rattle.vertex_partition.specs.OutWeights.{out_weight}
use Rattle.vertex_partition.specs.Tabled.{row_weights}
use Rattle.vertex_partition.proofs.WeightLaws.{out-weights, row-is}
use Rattle.vertex_partition.proofs.own_tables.own_table.Goals as goal

pub build-requires : goal.build-requires
build-requires c =
    let out : List OutEdge = c.row.result.now in
    let stored = ap (λ (l : List OutEdge). length l) c.row.ensures.row ∙ length-map (row c.args.rows.now.edges c.args.v) out_edge in
    let some = c.requires.1 in
    let is : c.deref.result.now ≡ map (out_weight c.args.weighted) out = c.deref.ensures.value ∙ c.in_ok-weights.ensures in
    rw is (row-is c.args.weighted c.args.rows.now.vertices out c.row.ensures.edges (omega (arith, stored, some)) c.row.ensures.few)

pub returns : goal.returns
returns c =
    let is : c.deref.result.now ≡ row_weights c.args.weighted c.args.rows.now c.args.v =
    c.deref.ensures.value ∙ c.in_ok-weights.ensures ∙ ap (map (out_weight c.args.weighted)) c.row.ensures.row
    ∙ out-weights c.args.weighted (row c.args.rows.now.edges c.args.v) in
    IfOk-weaker c.build.result (λ t. t ≡ c.deref.result.now) (λ t. t ≡ row_weights c.args.weighted c.args.rows.now c.args.v)
    (λ t e. e ∙ is) c.build.ensures
