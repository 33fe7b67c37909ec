use Rattle.std.proofs.Common.{◌≡◌, ◌≤◌, ◌<◌, ◌+◌, ◌∷◌, [], ℕ, List, length, map, ap, ◌∙◌, arith}
use Rattle.std.specs.Vec.{with_items}
use Rattle.std.specs.Prelude.{Option}
use Rattle.std.proofs.lemmas.List.{length-map, length_push, with_items_is}
use Rattle.std.proofs.lemmas.List.Elements.{All-append, All-cons, All-nil}
use Rattle.walk_model.specs.Graph.{row}
use Rattle.csr_store.specs.declared.out_edge.OutEdge.{OutEdge}
use Rattle.csr_store.specs.OutEdges.{out_edge}
use Rattle.csr_store.specs.RowGraph.{RangeGraph, HasSameRows, mark_of}
use Rattle.vertex_partition.specs.OutWeights.{out_weight}
use Rattle.vertex_partition.specs.Tabled.{HasEdges, HasTable, row_weights}
use Rattle.vertex_partition.proofs.WeightLaws.{out-weights}
use Rattle.vertex_partition.proofs.TablingLemmas.{each-known, each-listed, none-of}
use Rattle.vertex_partition.proofs.tabling.class_rows.Goals as goal

pub loop-v-preserved-in_default : goal.loop-v-preserved-in_default
loop-v-preserved-in_default c =
    let lent : length c.deref_mut.result.now ≡ length c.loop-v.shared.items = ap (λ (l : List (Option ℕ)). length l) c.deref_mut.ensures.value in
    let kept : length c.shared_by.new.shared ≡ c.loop-v.shared.len = omega (arith, lent, c.shared_by.ensures.long) in
    let items : (with_items c.loop-v.shared c.shared_by.new.shared).items ≡ c.shared_by.new.shared = with_items_is c.loop-v.shared c.shared_by.new.shared kept in
    let size : length c.shared_by.new.shared ≡ length c.loop-v.shared.items = c.shared_by.ensures.long ∙ lent in
    let g : RangeGraph = c.args.rows.now in
    let v : ℕ = c.loop-v.v in
    let above : g.first ≤ v = c.loop-v.invariant.above in
    let same : HasSameRows g c.loop-v.rows = c.loop-v.invariant.same in
    let test = c.loop-v-test.true in
    let last = c.end-v-end.ensures.end in
    let none = none-of c.in_ok-number.field-0 ((0 < length c.row-row.result.now) × (c.shared_by.new.made.items ≡ c.loop-v.made.items)) c.in_default.not-Some c.in_ok-number.ensures.none in
    let here : c.row-row.result.now ≡ map out_edge (row g.edges v) = c.row-row.ensures.row ∙ ap (λ es. map out_edge (row es v)) same.edges in
    let wide : length c.row-row.result.now ≡ length (row g.edges v) =
    ap (λ (l : List OutEdge). length l) here ∙ length-map (row g.edges v) out_edge in
    let made : length c.shared_by.new.made.items ≡ length c.loop-v.made.items = ap (λ (l : List (List ℕ)). length l) none.1 in
    let pushed : length c.push.new.self.items ≡ length c.loop-v.lone.items + 1 =
    ap (λ (l : List ℕ). length l) c.in_ok-push.ensures.items ∙ length_push c.loop-v.lone.items v in
    let some = none.0 in
    let edges : HasEdges g v = ((above, omega (arith, test, last)), omega (arith, wide, some)) in
    record {
      above = omega (arith, above);
      same = same;
      few = omega (arith, made, pushed, c.loop-v.invariant.few, above);
      wide = λ u low. rw (items, size) (c.loop-v.invariant.wide u low);
      shared = rw items c.in_ok-number.ensures.shared;
      lone = rw c.in_ok-push.ensures.items
          (All-append (HasEdges g) c.loop-v.lone.items (v ∷ []) c.loop-v.invariant.lone (All-cons (HasEdges g) v [] edges (All-nil (HasEdges g))));
      each = rw (none.1, c.in_ok-push.ensures.items)
          (each-listed c.loop-v.made.items c.loop-v.lone.items (λ u. length (row g.edges u)) (row_weights c.args.weighted g) (mark_of c.loop-v.rows) g.first v
          c.loop-v.invariant.each);
    }

pub loop-v-preserved : goal.loop-v-preserved
loop-v-preserved c =
    let lent : length c.deref_mut.result.now ≡ length c.loop-v.shared.items = ap (λ (l : List (Option ℕ)). length l) c.deref_mut.ensures.value in
    let kept : length c.shared_by.new.shared ≡ c.loop-v.shared.len = omega (arith, lent, c.shared_by.ensures.long) in
    let items : (with_items c.loop-v.shared c.shared_by.new.shared).items ≡ c.shared_by.new.shared = with_items_is c.loop-v.shared c.shared_by.new.shared kept in
    let size : length c.shared_by.new.shared ≡ length c.loop-v.shared.items = c.shared_by.ensures.long ∙ lent in
    let g : RangeGraph = c.args.rows.now in
    let v : ℕ = c.loop-v.v in
    let h : RangeGraph = c.set_mark.new.self in
    let above : g.first ≤ v = c.loop-v.invariant.above in
    let same : HasSameRows g c.loop-v.rows = c.loop-v.invariant.same in
    let next : HasSameRows c.loop-v.rows h = c.set_mark.ensures.rows in
    let first = same.first_is in
    let end = same.end_is in
    let test = c.loop-v-test.true in
    let last = c.end-v-end.ensures.end in
    let number : 0 < length c.row-row.result.now → HasTable c.shared_by.new.made.items c.in-Some.number (map (out_weight c.args.weighted) c.row-row.result.now) =
    rw c.in-Some.is at c.in_ok-number.ensures.number in
    let here : c.row-row.result.now ≡ map out_edge (row g.edges v) = c.row-row.ensures.row ∙ ap (λ es. map out_edge (row es v)) same.edges in
    let weights : map (out_weight c.args.weighted) c.row-row.result.now ≡ row_weights c.args.weighted g v =
    ap (map (out_weight c.args.weighted)) here ∙ out-weights c.args.weighted (row g.edges v) in
    let wide : length c.row-row.result.now ≡ length (row g.edges v) =
    ap (λ (l : List OutEdge). length l) here ∙ length-map (row g.edges v) out_edge in
    record {
      above = omega (arith, above);
      same = record {
        edges = next.edges ∙ same.edges;
        vertices = next.vertices ∙ same.vertices;
        first_is = next.first_is ∙ same.first_is;
        end_is = next.end_is ∙ same.end_is;
      };
      few = omega (arith, c.in_ok-number.ensures.few, c.loop-v.invariant.few, above);
      wide = λ u low. rw (items, size) (c.loop-v.invariant.wide u low);
      shared = rw items c.in_ok-number.ensures.shared;
      lone = c.loop-v.invariant.lone;
      each =
          each-known c.loop-v.made.items c.shared_by.new.made.items c.loop-v.lone.items (λ u. length (row g.edges u)) (row_weights c.args.weighted g)
          (mark_of c.loop-v.rows) (mark_of h) g.first v c.in_ok-number.ensures.keeps
          (λ u from low. c.set_mark.ensures.others u (omega (arith, from, first), omega (arith, low, test, last, end)) (λ e. omega (arith, e, low)))
          c.loop-v.invariant.each
          (λ some. rw c.set_mark.ensures.mark (rw weights at (number (rw wide some))));
    }

pub returns-clause-tables : goal.returns-clause-tables
returns-clause-tables c = λ u inside some.
    let same = c.loop-v.invariant.same in
    let first = same.first_is in
    let end = same.end_is in
    let last = c.end-v-end.ensures.end in
    let done = c.loop-v-test.false in
    let from = inside.0 in
    let low = inside.1 in
    rw same.edges (c.loop-v.invariant.each u (omega (arith, from, first)) (omega (arith, low, end, last, done)) (rw same.edges at some))
