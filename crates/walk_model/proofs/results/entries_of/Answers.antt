use Rattle.std.proofs.Common.{length, add-one, arith}
use Rattle.walk_model.proofs.BeginningLaws.{begin-lt-next}
use Rattle.walk_model.proofs.results.entries_of.Goals as goal

pub slice_bounds-result-count : goal.slice_bounds-result-count
slice_bounds-result-count c =
    let order = begin-lt-next c.args.begins.now (length c.args.entries.now) c.args.i c.requires.begins.rising c.requires.begins.below c.requires.within in
    rw (c.place_or_end-end.ensures, add-one) (omega (arith, order.0))

pub slice_bounds-result-start : goal.slice_bounds-result-start
slice_bounds-result-start c =
    let order = begin-lt-next c.args.begins.now (length c.args.entries.now) c.args.i c.requires.begins.rising c.requires.begins.below c.requires.within in
    rw (c.place_or_end-end.ensures, add-one) (omega (arith, order.0))
