use Rattle.std.proofs.Common.{◌≡◌, ◌+◌, ◌-◌, ◌≤◌, ℕ, length, ap, ◌∙◌, arith}
use Rattle.std.proofs.lemmas.List.{length-map}
use Rattle.csr_store.specs.declared.out_edge.OutEdge.{OutEdge}
use Rattle.csr_store.specs.RowGraph.{RangeGraph}
use Rattle.csr_store.proofs.CopyLemmas.{IsCopy, bounds-copied, copy-stored, copy-holds}
use Rattle.csr_store.proofs.ranges.RowRange.copy_of.Goals as goal

pub start-from-requires : goal.start-from-requires
start-from-requires c =
    let k : ℕ = c.args.first - c.self.inside.first in
    let n : ℕ = c.args.end - c.args.first in
    let first : c.self.inside.first ≡ c.args.self.now.first = ap (λ (g : RangeGraph). g.first) c.self.view_is in
    let end : c.self.inside.end ≡ c.args.self.now.end = ap (λ (g : RangeGraph). g.end) c.self.view_is in
    let low : k + n ≤ c.self.inside.count = omega (arith, first, end, c.self.invariant.end_is, c.requires.from, c.requires.order, c.requires.to) in
    omega (arith, low, c.self.invariant.starts)

pub start-to-requires : goal.start-to-requires
start-to-requires c =
    let k : ℕ = c.args.first - c.self.inside.first in
    let n : ℕ = c.args.end - c.args.first in
    let first : c.self.inside.first ≡ c.args.self.now.first = ap (λ (g : RangeGraph). g.first) c.self.view_is in
    let end : c.self.inside.end ≡ c.args.self.now.end = ap (λ (g : RangeGraph). g.end) c.self.view_is in
    let low : k + n ≤ c.self.inside.count = omega (arith, first, end, c.self.invariant.end_is, c.requires.from, c.requires.order, c.requires.to) in
    omega (arith, low, c.self.invariant.starts)

pub copy_of-requires : goal.copy_of-requires
copy_of-requires c =
    let k : ℕ = c.args.first - c.self.inside.first in
    let n : ℕ = c.args.end - c.args.first in
    let first : c.self.inside.first ≡ c.args.self.now.first = ap (λ (g : RangeGraph). g.first) c.self.view_is in
    let end : c.self.inside.end ≡ c.args.self.now.end = ap (λ (g : RangeGraph). g.end) c.self.view_is in
    let low : k + n ≤ c.self.inside.count = omega (arith, first, end, c.self.invariant.end_is, c.requires.from, c.requires.order, c.requires.to) in
    omega (arith, low, c.self.invariant.starts)

pub slice_bounds-to_vec-count : goal.slice_bounds-to_vec-count
slice_bounds-to_vec-count c =
    let k : ℕ = c.args.first - c.self.inside.first in
    let n : ℕ = c.args.end - c.args.first in
    let first : c.self.inside.first ≡ c.args.self.now.first = ap (λ (g : RangeGraph). g.first) c.self.view_is in
    let end : c.self.inside.end ≡ c.args.self.now.end = ap (λ (g : RangeGraph). g.end) c.self.view_is in
    let low : k + n ≤ c.self.inside.count = omega (arith, first, end, c.self.invariant.end_is, c.requires.from, c.requires.order, c.requires.to) in
    let between = bounds-copied c.self.inside c.self.invariant k n c.start-from.result c.start-to.result low c.start-from.ensures c.start-to.ensures in
    between.0

pub slice_bounds-to_vec-start : goal.slice_bounds-to_vec-start
slice_bounds-to_vec-start c =
    let k : ℕ = c.args.first - c.self.inside.first in
    let n : ℕ = c.args.end - c.args.first in
    let first : c.self.inside.first ≡ c.args.self.now.first = ap (λ (g : RangeGraph). g.first) c.self.view_is in
    let end : c.self.inside.end ≡ c.args.self.now.end = ap (λ (g : RangeGraph). g.end) c.self.view_is in
    let low : k + n ≤ c.self.inside.count = omega (arith, first, end, c.self.invariant.end_is, c.requires.from, c.requires.order, c.requires.to) in
    let between = bounds-copied c.self.inside c.self.invariant k n c.start-from.result c.start-to.result low c.start-from.ensures c.start-to.ensures in
    between.0

pub slice_bounds-to_vec-end : goal.slice_bounds-to_vec-end
slice_bounds-to_vec-end c =
    let k : ℕ = c.args.first - c.self.inside.first in
    let n : ℕ = c.args.end - c.args.first in
    let first : c.self.inside.first ≡ c.args.self.now.first = ap (λ (g : RangeGraph). g.first) c.self.view_is in
    let end : c.self.inside.end ≡ c.args.self.now.end = ap (λ (g : RangeGraph). g.end) c.self.view_is in
    let low : k + n ≤ c.self.inside.count = omega (arith, first, end, c.self.invariant.end_is, c.requires.from, c.requires.order, c.requires.to) in
    let between = bounds-copied c.self.inside c.self.invariant k n c.start-from.result c.start-to.result low c.start-from.ensures c.start-to.ensures in
    let size : length c.deref.result.now ≡ length c.self.inside.out.items = ap length c.deref.ensures.value in
    omega (arith, size, between.1)

pub slice_bounds-to_vec-count-2 : goal.slice_bounds-to_vec-count-2
slice_bounds-to_vec-count-2 c =
    let k : ℕ = c.args.first - c.self.inside.first in
    let n : ℕ = c.args.end - c.args.first in
    let first : c.self.inside.first ≡ c.args.self.now.first = ap (λ (g : RangeGraph). g.first) c.self.view_is in
    let end : c.self.inside.end ≡ c.args.self.now.end = ap (λ (g : RangeGraph). g.end) c.self.view_is in
    let low : k + n ≤ c.self.inside.count = omega (arith, first, end, c.self.invariant.end_is, c.requires.from, c.requires.order, c.requires.to) in
    let between = bounds-copied c.self.inside c.self.invariant k n c.start-from.result c.start-to.result low c.start-from.ensures c.start-to.ensures in
    between.0

pub slice_bounds-to_vec-start-2 : goal.slice_bounds-to_vec-start-2
slice_bounds-to_vec-start-2 c =
    let k : ℕ = c.args.first - c.self.inside.first in
    let n : ℕ = c.args.end - c.args.first in
    let first : c.self.inside.first ≡ c.args.self.now.first = ap (λ (g : RangeGraph). g.first) c.self.view_is in
    let end : c.self.inside.end ≡ c.args.self.now.end = ap (λ (g : RangeGraph). g.end) c.self.view_is in
    let low : k + n ≤ c.self.inside.count = omega (arith, first, end, c.self.invariant.end_is, c.requires.from, c.requires.order, c.requires.to) in
    let between = bounds-copied c.self.inside c.self.invariant k n c.start-from.result c.start-to.result low c.start-from.ensures c.start-to.ensures in
    between.0

pub slice_bounds-to_vec-end-2 : goal.slice_bounds-to_vec-end-2
slice_bounds-to_vec-end-2 c =
    let k : ℕ = c.args.first - c.self.inside.first in
    let n : ℕ = c.args.end - c.args.first in
    let first : c.self.inside.first ≡ c.args.self.now.first = ap (λ (g : RangeGraph). g.first) c.self.view_is in
    let end : c.self.inside.end ≡ c.args.self.now.end = ap (λ (g : RangeGraph). g.end) c.self.view_is in
    let low : k + n ≤ c.self.inside.count = omega (arith, first, end, c.self.invariant.end_is, c.requires.from, c.requires.order, c.requires.to) in
    let between = bounds-copied c.self.inside c.self.invariant k n c.start-from.result c.start-to.result low c.start-from.ensures c.start-to.ensures in
    let size : length c.deref-2.result.now ≡ length c.self.inside.out.items = ap length (c.deref-2.ensures.value ∙ c.self.invariant.dsts) ∙ length-map c.self.inside.out.items (λ (e : OutEdge). e.dst) in
    omega (arith, size, between.1)

pub slice_bounds-to_vec-count-3 : goal.slice_bounds-to_vec-count-3
slice_bounds-to_vec-count-3 c =
    let k : ℕ = c.args.first - c.self.inside.first in
    let n : ℕ = c.args.end - c.args.first in
    let first : c.self.inside.first ≡ c.args.self.now.first = ap (λ (g : RangeGraph). g.first) c.self.view_is in
    let end : c.self.inside.end ≡ c.args.self.now.end = ap (λ (g : RangeGraph). g.end) c.self.view_is in
    let low : k + n ≤ c.self.inside.count = omega (arith, first, end, c.self.invariant.end_is, c.requires.from, c.requires.order, c.requires.to) in
    let between = bounds-copied c.self.inside c.self.invariant k n c.start-from.result c.start-to.result low c.start-from.ensures c.start-to.ensures in
    between.0

pub slice_bounds-to_vec-start-3 : goal.slice_bounds-to_vec-start-3
slice_bounds-to_vec-start-3 c =
    let k : ℕ = c.args.first - c.self.inside.first in
    let n : ℕ = c.args.end - c.args.first in
    let first : c.self.inside.first ≡ c.args.self.now.first = ap (λ (g : RangeGraph). g.first) c.self.view_is in
    let end : c.self.inside.end ≡ c.args.self.now.end = ap (λ (g : RangeGraph). g.end) c.self.view_is in
    let low : k + n ≤ c.self.inside.count = omega (arith, first, end, c.self.invariant.end_is, c.requires.from, c.requires.order, c.requires.to) in
    let between = bounds-copied c.self.inside c.self.invariant k n c.start-from.result c.start-to.result low c.start-from.ensures c.start-to.ensures in
    between.0

pub slice_bounds-to_vec-end-3 : goal.slice_bounds-to_vec-end-3
slice_bounds-to_vec-end-3 c =
    let k : ℕ = c.args.first - c.self.inside.first in
    let n : ℕ = c.args.end - c.args.first in
    let first : c.self.inside.first ≡ c.args.self.now.first = ap (λ (g : RangeGraph). g.first) c.self.view_is in
    let end : c.self.inside.end ≡ c.args.self.now.end = ap (λ (g : RangeGraph). g.end) c.self.view_is in
    let low : k + n ≤ c.self.inside.count = omega (arith, first, end, c.self.invariant.end_is, c.requires.from, c.requires.order, c.requires.to) in
    let between = bounds-copied c.self.inside c.self.invariant k n c.start-from.result c.start-to.result low c.start-from.ensures c.start-to.ensures in
    let size : length c.deref-3.result.now ≡ length c.self.inside.out.items = ap length (c.deref-3.ensures.value ∙ c.self.invariant.kinds) ∙ length-map c.self.inside.out.items (λ (e : OutEdge). e.kind) in
    omega (arith, size, between.1)

pub invariant_of-result : goal.invariant_of-result
invariant_of-result c =
    let k : ℕ = c.args.first - c.self.inside.first in
    let n : ℕ = c.args.end - c.args.first in
    let first : c.self.inside.first ≡ c.args.self.now.first = ap (λ (g : RangeGraph). g.first) c.self.view_is in
    let end : c.self.inside.end ≡ c.args.self.now.end = ap (λ (g : RangeGraph). g.end) c.self.view_is in
    let low : k + n ≤ c.self.inside.count = omega (arith, first, end, c.self.invariant.end_is, c.requires.from, c.requires.order, c.requires.to) in
    let between = bounds-copied c.self.inside c.self.invariant k n c.start-from.result c.start-to.result low c.start-from.ensures c.start-to.ensures in
    let place : c.args.first ≡ c.self.inside.first + k = omega (arith, first, c.requires.from) in
    let is : IsCopy c.self.inside k n c.args.first c.in_ok-heads.heads.starts c.in_ok-out.out.items c.in_ok-dsts.dsts.items c.in_ok-kinds.kinds.items =
    record {
      first_is = place;
      low = low;
      starts_are = c.in_ok-heads.ensures.starts;
      out_are = rw (← c.start-from.ensures, ← c.start-to.ensures, ← c.deref.ensures.value) (c.in_ok-out.ensures.items_if_clones_equal (λ x y h. h));
      dsts_are = rw (← c.start-from.ensures, ← c.start-to.ensures, ← c.deref-2.ensures.value) (c.in_ok-dsts.ensures.items_if_clones_equal (λ x y h. h));
      kinds_are = rw (← c.start-from.ensures, ← c.start-to.ensures, ← c.deref-3.ensures.value) (c.in_ok-kinds.ensures.items_if_clones_equal (λ x y h. h));
    } in
    let whole : c.args.first + n ≡ c.args.end = omega (arith, c.requires.order) in
    copy-stored c.self.inside c.self.invariant k n c.args.first c.args.end c.in_ok-heads.heads c.in_ok-out.out c.in_ok-dsts.dsts c.in_ok-kinds.kinds is c.in_ok-heads.ensures.long whole

pub returns : goal.returns
returns c =
    let k : ℕ = c.args.first - c.self.inside.first in
    let n : ℕ = c.args.end - c.args.first in
    let first : c.self.inside.first ≡ c.args.self.now.first = ap (λ (g : RangeGraph). g.first) c.self.view_is in
    let end : c.self.inside.end ≡ c.args.self.now.end = ap (λ (g : RangeGraph). g.end) c.self.view_is in
    let low : k + n ≤ c.self.inside.count = omega (arith, first, end, c.self.invariant.end_is, c.requires.from, c.requires.order, c.requires.to) in
    let between = bounds-copied c.self.inside c.self.invariant k n c.start-from.result c.start-to.result low c.start-from.ensures c.start-to.ensures in
    let place : c.args.first ≡ c.self.inside.first + k = omega (arith, first, c.requires.from) in
    let is : IsCopy c.self.inside k n c.args.first c.in_ok-heads.heads.starts c.in_ok-out.out.items c.in_ok-dsts.dsts.items c.in_ok-kinds.kinds.items =
    record {
      first_is = place;
      low = low;
      starts_are = c.in_ok-heads.ensures.starts;
      out_are = rw (← c.start-from.ensures, ← c.start-to.ensures, ← c.deref.ensures.value) (c.in_ok-out.ensures.items_if_clones_equal (λ x y h. h));
      dsts_are = rw (← c.start-from.ensures, ← c.start-to.ensures, ← c.deref-2.ensures.value) (c.in_ok-dsts.ensures.items_if_clones_equal (λ x y h. h));
      kinds_are = rw (← c.start-from.ensures, ← c.start-to.ensures, ← c.deref-3.ensures.value) (c.in_ok-kinds.ensures.items_if_clones_equal (λ x y h. h));
    } in
    let whole : c.args.first + n ≡ c.args.end = omega (arith, c.requires.order) in
    rw (← c.self.view_is)
    (copy-holds c.self.inside c.self.invariant k n c.args.first c.args.end c.in_ok-heads.heads c.in_ok-out.out c.in_ok-dsts.dsts c.in_ok-kinds.kinds is whole)
