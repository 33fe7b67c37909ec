use Rattle.std.proofs.Common.{◌+◌, ◌≤◌, ℕ, length, ap, sym, ◌∙◌, arith}
use Rattle.std.proofs.lemmas.List.{length_push}
use Rattle.csr_store.specs.RowGraph.{RowGraph, HoldsRange}
use Rattle.vertex_partition.specs.CutViews.{begin_of, end_of}
use Rattle.vertex_partition.specs.PartViews.{IsPart}
use Rattle.vertex_partition.proofs.PartLemmas.{part-copied, each-push}
use Rattle.vertex_partition.proofs.splitting.copied_parts.Goals as goal

pub loop-part-preserved : goal.loop-part-preserved
loop-part-preserved g c =
    let q : RowGraph = record { edges = c.args.rows.now.edges; vertices = c.args.rows.now.vertices } in
    let part : ℕ = c.loop-part.part in
    let count = c.parts-count.ensures.parts in
    let test = c.loop-part-test.true in
    let low : part ≤ length c.args.cuts.now.cuts = omega (arith, count, test) in
    let own : HoldsRange c.args.rows.now.edges c.args.rows.now.vertices (begin_of c.args.cuts.now.cuts part) (end_of c.args.cuts.now.vertices c.args.cuts.now.cuts part) c.in_ok-own.own =
    rw (c.begin.ensures.begin, c.end.ensures.end) at c.in_ok-own.ensures in
    let is : IsPart q c.args.weighted c.args.cuts.now.cuts part c.in_ok-of.field-0 =
    rw c.in_ok-of.ensures
    (part-copied c.args.rows.now.edges c.args.rows.now.vertices c.args.weighted c.args.cuts.now part c.in_ok-own.own c.parts-count.ensures.cuts low (sym c.requires.vertices) own) in
    record {
      count = rw c.in_ok-push.ensures.items (length_push c.loop-part.parts.items c.in_ok-of.field-0 ∙ ap (λ n. n + 1) c.loop-part.invariant.count);
      parts = rw c.in_ok-push.ensures.items
          (each-push (λ k p. IsPart q c.args.weighted c.args.cuts.now.cuts k p) c.loop-part.parts.items c.in_ok-of.field-0 part
          c.loop-part.invariant.count c.loop-part.invariant.parts is);
    }
