use Rattle.std.proofs.Common.{◌≡◌, length, map, ap, sym, ◌∙◌, arith, subst, refl}
use Rattle.std.specs.Vec.{with_items}
use Rattle.std.specs.List.Sorted.{IsNonDecreasing}
use Rattle.std.proofs.lemmas.List.{with_items_is}
use Rattle.csr_store.specs.declared.out_edge.OutEdge.{OutEdge}
use Rattle.csr_store.proofs.StoreLemmas.{AreEdges, AreRows, AreRows-at, AreRows-same, AreRows-has, AreRows-length, stored, starts-rise, built}
use Rattle.csr_store.proofs.rows.stored.Goals as goal

pub sort_rows-requires-clause-rising : goal.sort_rows-requires-clause-rising
sort_rows-requires-clause-rising c =
    let long = c.in_ok-starts.ensures.len in
    let size : length c.deref_mut.result.now ≡ length c.in_ok-starts.starts.items = ap length c.deref_mut.ensures.value in
    let kept : length c.fill.new.ends ≡ c.in_ok-starts.starts.len = omega arith in
    let items : (with_items c.in_ok-starts.starts c.fill.new.ends).items ≡ c.fill.new.ends = with_items_is c.in_ok-starts.starts c.fill.new.ends kept in
    let up : IsNonDecreasing c.fill.new.ends = starts-rise c.deref-2.result.now c.fill.new.ends (λ v h. c.fill.ensures.starts v (omega arith)) in
    subst IsNonDecreasing (sym (c.deref-3.ensures.value ∙ items)) up

-- the places of the rows
starts_of : (c : goal.In_ok-heads) → (with_items c.in_ok-starts.starts c.fill.new.ends).items ≡ c.fill.new.ends
starts_of c =
    let long = c.in_ok-starts.ensures.len in
    let size : length c.deref_mut.result.now ≡ length c.in_ok-starts.starts.items = ap length c.deref_mut.ensures.value in
    let kept : length c.fill.new.ends ≡ c.in_ok-starts.starts.len = omega arith in
    with_items_is c.in_ok-starts.starts c.fill.new.ends kept

-- the edges as they are filled in
old_of : (c : goal.In_ok-heads) → (with_items c.in_ok-out.out c.fill.new.out).items ≡ c.fill.new.out
old_of c =
    let long = c.in_ok-out.ensures.len in
    let size : length c.deref_mut-2.result.now ≡ length c.in_ok-out.out.items = ap length c.deref_mut-2.ensures.value in
    let kept : length c.fill.new.out ≡ c.in_ok-out.out.len = omega arith in
    with_items_is c.in_ok-out.out c.fill.new.out kept

-- and as they are sorted
out_of : (c : goal.In_ok-heads) → (with_items (with_items c.in_ok-out.out c.fill.new.out) c.sort_rows.new.out).items ≡ c.sort_rows.new.out
out_of c =
    let long = c.in_ok-out.ensures.len in
    let value : length c.deref_mut-3.result.now ≡ length c.fill.new.out = ap length (c.deref_mut-3.ensures.value ∙ old_of c) in
    let size : length c.deref_mut-2.result.now ≡ length c.in_ok-out.out.items = ap length c.deref_mut-2.ensures.value in
    let kept : length c.sort_rows.new.out ≡ c.in_ok-out.out.len = omega arith in
    with_items_is (with_items c.in_ok-out.out c.fill.new.out) c.sort_rows.new.out kept

-- the rows that are stored
rows_of : (c : goal.In_ok-heads) → AreRows c.args.vertices c.args.edges.items
    c.in_ok-heads.heads.starts
    (with_items (with_items c.in_ok-out.out c.fill.new.out) c.sort_rows.new.out).items
rows_of c =
    let size : length c.deref_mut.result.now ≡ length c.in_ok-starts.starts.items = ap length c.deref_mut.ensures.value in
    let long = c.in_ok-starts.ensures.len in
    let are : AreEdges c.args.vertices c.args.edges.items = record { ends = c.requires.ends; weights = c.requires.weights } in
    AreRows-at c.args.vertices c.args.edges.items c.fill.new.ends _ c.sort_rows.new.out _ (c.in_ok-heads.ensures.starts ∙ c.deref-6.ensures.value ∙ starts_of c) (out_of c)
    (built c.args.vertices (length c.deref_mut.result.now) c.args.edges.items c.deref-2.result.now c.fill.new.ends c.deref-3.result.now
    c.fill.new.out c.deref_mut-3.result.now c.sort_rows.new.out c.deref-2.ensures.value (c.deref-3.ensures.value ∙ starts_of c)
    (c.deref_mut-3.ensures.value ∙ old_of c) (omega arith) (omega arith) c.fill.ensures.starts c.fill.ensures.rows
    c.in_ok-sort_rows.ensures.rows are)

pub invariant_of-result : goal.invariant_of-result
invariant_of-result c =
    let long = c.in_ok-out.ensures.len in
    let value : length c.deref_mut-3.result.now ≡ length c.fill.new.out = ap length (c.deref_mut-3.ensures.value ∙ old_of c) in
    let size : length c.deref_mut-2.result.now ≡ length c.in_ok-out.out.items = ap length c.deref_mut-2.ensures.value in
    let kept : length c.sort_rows.new.out ≡ length c.args.edges.items = omega arith in
    stored c.args.vertices _ _ _ _ c.args.edges.items (ap length (out_of c) ∙ kept) c.requires.few (rows_of c)
    (c.in_ok-heads.ensures.long ∙ ap length (sym c.in_ok-heads.ensures.starts))
    (c.in_ok-dsts.ensures ∙ ap (map (λ (e : OutEdge). e.dst)) c.deref-4.ensures.value)
    (c.in_ok-kinds.ensures ∙ ap (map (λ (e : OutEdge). e.kind)) c.deref-5.ensures.value)

pub returns : goal.returns
returns c = record {
  vertices = refl;
  first_is = refl;
  end_is = omega arith;
  edges = AreRows-length c.args.vertices c.args.edges.items _ _ (rows_of c.before);
  rows = AreRows-same c.args.vertices c.args.edges.items _ _ (rows_of c.before);
  has = AreRows-has c.args.vertices c.args.edges.items _ _ (rows_of c.before);
}
