use Rattle.std.proofs.Common.{◌≡◌, ◌+◌, ap, sym, ◌∙◌, arith}
use Rattle.std.specs.Prelude.{slice_index}
use Rattle.std.proofs.lemmas.List.Edits.{get_or-between, length-between}
use Rattle.vertex_names.specs.NameIndex.{bucket_of}
use Rattle.vertex_names.proofs.IndexLemmas.{part-rises, non_decreasing, increasing-part, rank_of-at, rank_of-none, missing}
use Rattle.vertex_names.proofs.indexing.find.Goals as goal

pub returns-then-bucket-starts-clause-rank : goal.returns-then-bucket-starts-clause-rank
returns-then-bucket-starts-clause-rank c =
    rank_of-none c.args.ids.now c.args.id (λ k h is.
    (let room = c.requires.whole k h in
    let own : bucket_of c.args.first c.args.shift (slice_index c.args.ids.now k) ≡ bucket_of c.args.first c.args.shift c.args.id =
    ap (bucket_of c.args.first c.args.shift) is in
    omega arith))

pub slice_bounds-part-count : goal.slice_bounds-part-count
slice_bounds-part-count c =
    part-rises c.args.first c.args.shift c.args.ids.now c.args.starts.now (bucket_of c.args.first c.args.shift c.args.id) (omega arith) c.requires.index

pub slice_bounds-part-start : goal.slice_bounds-part-start
slice_bounds-part-start c =
    part-rises c.args.first c.args.shift c.args.ids.now c.args.starts.now (bucket_of c.args.first c.args.shift c.args.id) (omega arith) c.requires.index

pub ids_below-place-requires : goal.ids_below-place-requires
ids_below-place-requires c =
    let top = c.requires.index.within (bucket_of c.args.first c.args.shift c.args.id + 1) (omega arith) in
    non_decreasing _ (increasing-part c.args.ids.now (slice_index c.args.starts.now (bucket_of c.args.first c.args.shift c.args.id))
    (slice_index c.args.starts.now (bucket_of c.args.first c.args.shift c.args.id + 1)) top c.requires.rising)

pub returns-then-place-part-clause-rank : goal.returns-then-place-part-clause-rank
returns-then-place-part-clause-rank c =
    rank_of-none c.args.ids.now c.args.id
    (missing c.args.first c.args.shift c.args.ids.now c.args.starts.now c.args.id c.ids_below-place.result c.requires.rising c.requires.index
    (omega arith) c.ids_below-place.ensures (λ inside is. absurd (omega arith)))

pub returns-else-part-place-clause-rank : goal.returns-else-part-place-clause-rank
returns-else-part-place-clause-rank c =
    rank_of-none c.args.ids.now c.args.id
    (missing c.args.first c.args.shift c.args.ids.now c.args.starts.now c.args.id c.ids_below-place.result c.requires.rising c.requires.index
    (omega arith) c.ids_below-place.ensures (λ inside is. c.if-part-place.false is))

pub returns-then-part-place-clause-rank : goal.returns-then-part-place-clause-rank
returns-then-part-place-clause-rank c =
    let top = c.requires.index.within (bucket_of c.args.first c.args.shift c.args.id + 1) (omega arith) in
    let from = slice_index c.args.starts.now (bucket_of c.args.first c.args.shift c.args.id) in
    let to = slice_index c.args.starts.now (bucket_of c.args.first c.args.shift c.args.id + 1) in
    let long = length-between c.args.ids.now from to top in
    let read = get_or-between c.args.ids.now from to c.ids_below-place.result 0 (omega arith) in
    rank_of-at c.args.ids.now _ c.args.id c.requires.rising (omega arith) (sym read ∙ c.if-part-place.true)
