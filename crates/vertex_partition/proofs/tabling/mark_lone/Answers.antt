use Rattle.std.proofs.Common.{◌<◌, ◌+◌, ℕ, Bool, List, length, get_or, refl, inl, inr, ◌∙◌, arith}
use Rattle.walk_model.specs.Graph.{row}
use Rattle.csr_store.specs.RowGraph.{RangeGraph, IsIn, HasSameRows, mark_of}
use Rattle.vertex_partition.specs.Tabled.{AreOwn, AreTablesBut, HasTable, row_weights}
use Rattle.vertex_partition.proofs.TablingLemmas.{each-numbered, none-left}
use Rattle.vertex_partition.proofs.tabling.mark_lone.Goals as goal

pub loop-place-preserved : goal.loop-place-preserved
loop-place-preserved c =
    let g : RangeGraph = c.args.rows.now in
    let h : RangeGraph = c.loop-place.rows in
    let h' : RangeGraph = c.set_mark.new.self in
    let same : HasSameRows g h = c.loop-place.invariant.same in
    let next : HasSameRows h h' = c.set_mark.ensures.rows in
    let first = next.first_is in
    let end = next.end_is in
    let place : ℕ = c.loop-place.place in
    let lone : List ℕ = c.args.lone.now in
    let v : ℕ = get_or lone place 0 in
    let low : place < length lone = omega (arith, c.loop-place-test.true) in
    let one : (weighted : Bool) (tables : List (List ℕ)) → AreTablesBut weighted g tables 0 lone → AreOwn weighted g tables c.args.first lone
    → AreTablesBut weighted h' tables (place + 1) lone =
    λ weighted tables but own u inside some.
    let from = inside.0 in
    let below = inside.1 in
    let has : HasTable tables (mark_of h' v) (row_weights weighted h v) = rw (c.set_mark.ensures.mark, same.edges) (own place low) in
    rw next.edges
    (each-numbered tables lone (IsIn h) (λ u. length (row h.edges u)) (row_weights weighted h) (mark_of h) (mark_of h') place v
    refl c.set_mark.ensures.others has (c.loop-place.invariant.each weighted tables but own) u (omega (arith, from, first), omega (arith, below, end))
    (rw next.edges at some))
    in
    record {
      same = record {
        edges = next.edges ∙ same.edges;
        vertices = next.vertices ∙ same.vertices;
        first_is = next.first_is ∙ same.first_is;
        end_is = next.end_is ∙ same.end_is;
      };
      each = one;
    }

pub returns-clause-tables : goal.returns-clause-tables
returns-clause-tables c = λ weighted tables but own v inside some.
    let done = c.loop-place-test.false in
    elim (c.loop-place.invariant.each weighted tables but own v inside some) [
      | inl has ↦ has
      | inr among ↦ absurd (none-left c.args.lone.now c.loop-place.place v (omega (arith, done)) among)
    ]
