use Rattle.std.proofs.Common.{◌≡◌, ◌≤◌, ◌<◌, ◌^◌, ℕ, List, true, false, map, ap, ◌∙◌, arith}
use Rattle.std.specs.Prelude.{slice_index, ◌==◌}
use Rattle.std.proofs.lemmas.Bool.Decides.{nat_tests}
use Rattle.walk_model.specs.Words.{word}
use Rattle.dart_envelope.specs.ClassBoards.{class_board, board_by}
use Rattle.dart_envelope.specs.Scans.{total_of, scan_of}
use Rattle.traveller.proofs.DartLemmas.{answers-are, total-fits, scanned-none, scanned-some}
use Rattle.traveller.proofs.throwing.scan_row.Goals as goal

pub scan_total-total-requires-clause-fits : goal.scan_total-total-requires-clause-fits
scan_total-total-requires-clause-fits g c =
    let classes : List ℕ = g.C.RowClasses.classes c.args.classes.now in
    let fits : total_of c.args.table.now (map (slice_index c.args.factors.now) classes) ≤ 2 ^ 62 =
    total-fits c.args.table.now c.args.factors.now classes c.requires.row.fits (λ edge low. c.requires.row.suits.below edge (let e = c.requires.row.suits.long in omega (arith, low, e))) in (
      map (slice_index c.args.factors.now) classes,
      answers-are _ c.weights-weights.result.now c.args.table.now c.as_slice-by_class.result.now c.args.factors.now classes
          c.weights-weights.ensures.value c.as_slice-by_class.ensures.value c.requires.row.suits.long (λ edge factor said. said),
      rw c.weights-weights.ensures.value fits,
    )

pub returns-then-total-eq0-clause-edge : goal.returns-then-total-eq0-clause-edge
returns-then-total-eq0-clause-edge g c =
    let classes : List ℕ = g.C.RowClasses.classes c.args.classes.now in
    let fs : List ℕ = map (slice_index c.args.factors.now) classes in
    let whole : c.scan_total-total.result ≡ total_of c.args.table.now fs =
    c.scan_total-total.ensures.total fs
    (answers-are _ c.weights-weights.result.now c.args.table.now c.as_slice-by_class.result.now c.args.factors.now classes
    c.weights-weights.ensures.value c.as_slice-by_class.ensures.value c.requires.row.suits.long (λ edge factor said. said))
    ∙ ap (λ (ws : List ℕ). total_of ws fs) c.weights-weights.ensures.value in
    let none : (c.scan_total-total.result == 0) ≡ true = (let e = c.if-total-eq0.true in grind (arith, nat_tests)) in
    scanned-none (board_by (class_board c.args.table.now c.args.factors.now (g.C.Classes.known_classes c.args.classes.now) (g.C.RowClasses.back c.args.classes.now)) classes)
    (word c.args.reader.now.seed c.args.reader.now.walker) c.args.reader.now.place c.scan_total-total.result whole none

pub draw-requires-clause-bound : goal.draw-requires-clause-bound
draw-requires-clause-bound g c =
    let classes : List ℕ = g.C.RowClasses.classes c.args.classes.now in
    let fs : List ℕ = map (slice_index c.args.factors.now) classes in
    let whole : c.scan_total-total.result ≡ total_of c.args.table.now fs =
    c.scan_total-total.ensures.total fs
    (answers-are _ c.weights-weights.result.now c.args.table.now c.as_slice-by_class.result.now c.args.factors.now classes
    c.weights-weights.ensures.value c.as_slice-by_class.ensures.value c.requires.row.suits.long (λ edge factor said. said))
    ∙ ap (λ (ws : List ℕ). total_of ws fs) c.weights-weights.ensures.value in
    let fits : total_of c.args.table.now fs ≤ 2 ^ 62 =
    total-fits c.args.table.now c.args.factors.now classes c.requires.row.fits (λ edge low. c.requires.row.suits.below edge (let e = c.requires.row.suits.long in omega (arith, low, e))) in
    omega (arith, whole, fits)

pub scan-requires-clause-fits : goal.scan-requires-clause-fits
scan-requires-clause-fits g c =
    let classes : List ℕ = g.C.RowClasses.classes c.args.classes.now in
    let fs : List ℕ = map (slice_index c.args.factors.now) classes in
    let whole : c.scan_total-total.result ≡ total_of c.weights-weights.result.now fs =
    c.scan_total-total.ensures.total fs
    (answers-are _ c.weights-weights.result.now c.args.table.now c.as_slice-by_class.result.now c.args.factors.now classes
    c.weights-weights.ensures.value c.as_slice-by_class.ensures.value c.requires.row.suits.long (λ edge factor said. said)) in
    let fits : total_of c.args.table.now fs ≤ 2 ^ 62 =
    total-fits c.args.table.now c.args.factors.now classes c.requires.row.fits (λ edge low. c.requires.row.suits.below edge (let e = c.requires.row.suits.long in omega (arith, low, e))) in
    let low : c.draw.result < c.scan_total-total.result = c.draw.ensures.within in (
      fs,
      answers-are _ c.weights-weights.result.now c.args.table.now c.as_slice-by_class.result.now c.args.factors.now classes
          c.weights-weights.ensures.value c.as_slice-by_class.ensures.value c.requires.row.suits.long (λ edge factor said. said),
      rw c.weights-weights.ensures.value fits,
      λ some. omega (arith, low, whole),
    )

pub returns-clause-edge : goal.returns-clause-edge
returns-clause-edge g c =
    let classes : List ℕ = g.C.RowClasses.classes c.args.classes.now in
    let fs : List ℕ = map (slice_index c.args.factors.now) classes in
    let whole : c.scan_total-total.result ≡ total_of c.args.table.now fs =
    c.scan_total-total.ensures.total fs
    (answers-are _ c.weights-weights.result.now c.args.table.now c.as_slice-by_class.result.now c.args.factors.now classes
    c.weights-weights.ensures.value c.as_slice-by_class.ensures.value c.requires.row.suits.long (λ edge factor said. said))
    ∙ ap (λ (ws : List ℕ). total_of ws fs) c.weights-weights.ensures.value in
    let some : (c.scan_total-total.result == 0) ≡ false = (let e = c.if-total-eq0.false in grind (arith, nat_tests)) in
    let found : c.scan.result ≡ scan_of c.args.table.now fs c.draw.result =
    c.scan.ensures.edge fs
    (answers-are _ c.weights-weights.result.now c.args.table.now c.as_slice-by_class.result.now c.args.factors.now classes
    c.weights-weights.ensures.value c.as_slice-by_class.ensures.value c.requires.row.suits.long (λ edge factor said. said))
    ∙ ap (λ (ws : List ℕ). scan_of ws fs c.draw.result) c.weights-weights.ensures.value in
    scanned-some (board_by (class_board c.args.table.now c.args.factors.now (g.C.Classes.known_classes c.args.classes.now) (g.C.RowClasses.back c.args.classes.now)) classes)
    (word c.args.reader.now.seed c.args.reader.now.walker) c.args.reader.now.place c.draw.result c.draw.new.self.place c.scan_total-total.result c.scan.result whole some
    c.draw.ensures.value found

pub returns-clause-within : goal.returns-clause-within
returns-clause-within g c = rw (← c.weights-weights.ensures.value) c.scan.ensures.within
