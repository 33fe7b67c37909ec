use Rattle.std.proofs.Common.{◌^◌, length, sum, refl, arith}
use Rattle.factor_table.specs.Factors.{greatest_of}
use Rattle.dart_envelope.proofs.AreaLemmas.{parts-within, strip-within}
use Rattle.dart_envelope.proofs.board.Board.new.Goals as goal

pub overflow_cast-main : goal.overflow_cast-main
overflow_cast-main g c =
    let ws = c.args.table.now in
    let heights = c.heights_of-heights.ensures in
    let main = heights.within in
    let some = heights.some in
    let parts = parts-within (length ws) (sum ws) c.heights_of-heights.result.main (greatest_of c.args.factors.now) (2 ^ 62)
    c.weights-weights.ensures.range.some some (omega arith) c.requires.fits in
    rw (c.sum.ensures.value) (omega (arith, parts.0))

pub overflow_mul-main : goal.overflow_mul-main
overflow_mul-main g c =
    let ws = c.args.table.now in
    let heights = c.heights_of-heights.ensures in
    let main = heights.within in
    let some = heights.some in
    let parts = parts-within (length ws) (sum ws) c.heights_of-heights.result.main (greatest_of c.args.factors.now) (2 ^ 62)
    c.weights-weights.ensures.range.some some (omega arith) c.requires.fits in
    rw (c.weights-weights.ensures.value, c.sum.ensures.value) (omega (arith, parts.1))

pub overflow_mul-main-2 : goal.overflow_mul-main-2
overflow_mul-main-2 g c =
    let ws = c.args.table.now in
    let heights = c.heights_of-heights.ensures in
    let main = heights.within in
    let some = heights.some in
    let parts = parts-within (length ws) (sum ws) c.heights_of-heights.result.main (greatest_of c.args.factors.now) (2 ^ 62)
    c.weights-weights.ensures.range.some some (omega arith) c.requires.fits in
    rw (c.weights-weights.ensures.value, c.sum.ensures.value) (omega (arith, parts.2))

pub strip_places-requires-clause-sum : goal.strip_places-requires-clause-sum
strip_places-requires-clause-sum g c =
    let ws = c.args.table.now in
    let heights = c.heights_of-heights.ensures in
    let main = heights.within in
    let some = heights.some in
    let parts = parts-within (length ws) (sum ws) c.heights_of-heights.result.main (greatest_of c.args.factors.now) (2 ^ 62)
    c.weights-weights.ensures.range.some some (omega arith) c.requires.fits in
    rw (c.weights-weights.ensures.value) (omega (arith, parts.0))

pub strip_places-requires-clause-fits : goal.strip_places-requires-clause-fits
strip_places-requires-clause-fits g c =
    let ws = c.args.table.now in
    let heights = c.heights_of-heights.ensures in
    let main = heights.within in
    let some = heights.some in
    let parts = parts-within (length ws) (sum ws) c.heights_of-heights.result.main (greatest_of c.args.factors.now) (2 ^ 62)
    c.weights-weights.ensures.range.some some (omega arith) c.requires.fits in
    let strip = strip-within ws c.args.back c.heights_of-heights.result.main c.heights_of-heights.result.lift (greatest_of c.args.factors.now) heights.within c.requires.fits in
    rw (c.weights-weights.ensures.value) (omega (arith, strip))

pub overflow_add-result : goal.overflow_add-result
overflow_add-result g c =
    let ws = c.args.table.now in
    let heights = c.heights_of-heights.ensures in
    let main = heights.within in
    let some = heights.some in
    let parts = parts-within (length ws) (sum ws) c.heights_of-heights.result.main (greatest_of c.args.factors.now) (2 ^ 62)
    c.weights-weights.ensures.range.some some (omega arith) c.requires.fits in
    let strip = strip-within ws c.args.back c.heights_of-heights.result.main c.heights_of-heights.result.lift (greatest_of c.args.factors.now) heights.within c.requires.fits in
    rw (c.strip_places.ensures, c.weights-weights.ensures.value, c.sum.ensures.value) (omega (arith, strip))

pub invariant_of-result : goal.invariant_of-result
invariant_of-result g c =
    let ws = c.args.table.now in
    let heights = c.heights_of-heights.ensures in
    let main = heights.within in
    let some = heights.some in
    let parts = parts-within (length ws) (sum ws) c.heights_of-heights.result.main (greatest_of c.args.factors.now) (2 ^ 62)
    c.weights-weights.ensures.range.some some (omega arith) c.requires.fits in
    let strip = strip-within ws c.args.back c.heights_of-heights.result.main c.heights_of-heights.result.lift (greatest_of c.args.factors.now) heights.within c.requires.fits in
    let fs = c.as_slice.ensures in
    rw (fs.value)
    (record {
      board = record {
        row = c.weights-weights.ensures.range;
        classes = fs.classes;
        long = c.requires.long;
        known = c.requires.known;
        fits = c.requires.fits;
        run = c.requires.run;
        high = rw (← heights.main) heights.some;
      };
      above_is = heights.main;
      least_is = heights.low;
      lift_is = rw (← heights.main) heights.lift;
      main_is = rw (c.weights-weights.ensures.value, c.sum.ensures.value, heights.main) refl;
      places_is = rw (c.strip_places.ensures, c.weights-weights.ensures.value, c.sum.ensures.value, heights.lift, heights.main) refl;
    })
