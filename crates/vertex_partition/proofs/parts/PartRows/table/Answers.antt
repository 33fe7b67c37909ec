use Rattle.std.proofs.Common.{rules, ◌≡◌, ◌<◌, length, map, ap, sym, subst, ◌∙◌, arith}
use Rattle.std.proofs.lemmas.List.{length-map}
use Rattle.walk_model.specs.Graph.{row}
use Rattle.csr_store.specs.OutEdges.{out_edge}
use Rattle.vertex_partition.specs.PartViews.{PartView, Owns}
use Rattle.vertex_partition.proofs.PartLemmas.{view_of, held, table-of}
use Rattle.vertex_partition.proofs.TablingLemmas.{no-weights}
use Rattle.alias_table.specs.Columns.{IsRow}
use Rattle.vertex_partition.specs.OutWeights.{out_weight}
use Rattle.vertex_partition.proofs.WeightLaws.{out-weights, row-is}
use Rattle.vertex_partition.proofs.parts.PartRows.table.Goals as goal

pub row-requires : goal.row-requires
row-requires c =
    held c.self.inside.part c.self.inside.weighted c.self.inside.cuts c.self.inside.rows _ c.args.v c.self.invariant
    (subst (λ (p : PartView). Owns p c.args.v) (sym c.self.view_is) c.requires)

pub returns-then-is_empty-clause-none : goal.returns-then-is_empty-clause-none
returns-then-is_empty-clause-none c =
    let none : length c.row.result.now ≡ 0 = search rules in
    rw (← c.self.view_is)
    (no-weights c.self.inside.weighted (row c.self.inside.rows.edges c.args.v) c.row.result.now c.row.ensures.row none)

pub mark-number-requires : goal.mark-number-requires
mark-number-requires c =
    held c.self.inside.part c.self.inside.weighted c.self.inside.cuts c.self.inside.rows _ c.args.v c.self.invariant
    (subst (λ (p : PartView). Owns p c.args.v) (sym c.self.view_is) c.requires)

pub index-requires : goal.index-requires
index-requires c =
    let own : Owns (view_of c.self.inside.part c.self.inside.weighted c.self.inside.cuts c.self.inside.rows) c.args.v =
    subst (λ (p : PartView). Owns p c.args.v) (sym c.self.view_is) c.requires in
    let some : 0 < length (row c.self.inside.rows.edges c.args.v) =
    (let long = ap length c.row.ensures.row ∙ length-map (row c.self.inside.rows.edges c.args.v) out_edge in
    let full : 0 < length c.row.result.now = search rules in omega (arith, long, full)) in
    let has = table-of c.self.inside.part c.self.inside.weighted c.self.inside.cuts c.self.inside.rows _ c.args.v c.mark-number.result c.self.invariant own c.mark-number.ensures some in
    let low = has.0 in
    search rules

pub returns-clause-table : goal.returns-clause-table
returns-clause-table c =
    let own : Owns (view_of c.self.inside.part c.self.inside.weighted c.self.inside.cuts c.self.inside.rows) c.args.v =
    subst (λ (p : PartView). Owns p c.args.v) (sym c.self.view_is) c.requires in
    let some : 0 < length (row c.self.inside.rows.edges c.args.v) =
    (let long = ap length c.row.ensures.row ∙ length-map (row c.self.inside.rows.edges c.args.v) out_edge in
    let full : 0 < length c.row.result.now = search rules in omega (arith, long, full)) in
    let has = table-of c.self.inside.part c.self.inside.weighted c.self.inside.cuts c.self.inside.rows _ c.args.v c.mark-number.result c.self.invariant own c.mark-number.ensures some in
    rw (← c.self.view_is) (sym (c.index.ensures ∙ has.1 c.index.result.now))

pub returns-clause-row : goal.returns-clause-row
returns-clause-row c =
    let own : Owns (view_of c.self.inside.part c.self.inside.weighted c.self.inside.cuts c.self.inside.rows) c.args.v =
    subst (λ (p : PartView). Owns p c.args.v) (sym c.self.view_is) c.requires in
    let full : 0 < length c.row.result.now = search rules in
    let some : 0 < length (row c.self.inside.rows.edges c.args.v) =
    (let long = ap length c.row.ensures.row ∙ length-map (row c.self.inside.rows.edges c.args.v) out_edge in omega (arith, long, full)) in
    let has = table-of c.self.inside.part c.self.inside.weighted c.self.inside.cuts c.self.inside.rows _ c.args.v c.mark-number.result c.self.invariant own c.mark-number.ensures some in
    let weights : map (out_weight c.self.inside.weighted) c.row.result.now ≡ c.index.result.now =
    rw c.row.ensures.row (out-weights c.self.inside.weighted (row c.self.inside.rows.edges c.args.v)) ∙ sym (c.index.ensures ∙ has.1 c.index.result.now) in
    subst IsRow weights (row-is c.self.inside.weighted c.self.inside.rows.vertices c.row.result.now c.row.ensures.edges full c.row.ensures.few)
