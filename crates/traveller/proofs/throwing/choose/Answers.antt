use Rattle.std.proofs.Common.{◌≡◌, ◌+◌, ℕ, List, Some, None, ap, ◌∙◌, arith}
use Rattle.std.specs.Prelude.{option_map}
use Rattle.walk_model.specs.Words.{word}
use Rattle.walk_model.specs.Dart.{hit, scanned}
use Rattle.dart_envelope.specs.ClassBoards.{ClassBoard, class_board, board_by}
use Rattle.traveller.proofs.DartLemmas.{dart-taken, dart-passed, darts-scanned}
use Rattle.traveller.proofs.TickLemmas.{ticks-taken, ticks-passed, ticks-spent}
use Rattle.traveller.specs.Ticks.{dart_column}
use Rattle.traveller.proofs.throwing.choose.Goals as goal

pub returns-in-Some-clause-edge : goal.returns-in-Some-clause-edge
returns-in-Some-clause-edge g c =
    let words : ℕ → ℕ = word c.args.reader.now.seed c.args.reader.now.walker in
    let classes : List ℕ = g.C.RowClasses.classes c.args.classes.now in
    let board : ClassBoard = class_board c.args.table.now c.args.factors.now (g.C.Classes.known_classes c.args.classes.now) (g.C.RowClasses.back c.args.classes.now) in
    let made : c.new-board.result ≡ board =
    c.new-board.ensures ∙ ap (class_board c.args.table.now c.args.factors.now (g.C.Classes.known_classes c.args.classes.now)) c.back.ensures in
    let told : c.next-word.result ≡ words c.loop.reader.place =
    rw (← c.loop.invariant.seed, ← c.loop.invariant.walker) c.next-word.ensures.word in
    let step : c.next-word.new.self.place ≡ c.loop.reader.place + 1 = ap (λ r. r.place) c.next-word.ensures.moved in
    let hits : Some c.in-Some.edge ≡ hit (board_by board classes) (words c.loop.reader.place) =
    c.in-Some.ensures.edge ∙ ap (λ b. hit (board_by b classes) c.next-word.result) made ∙ ap (hit (board_by board classes)) told in
    dart-taken c.args.retries c.loop.counter (board_by board classes) words c.args.reader.now.place c.loop.reader.place c.next-word.new.self.place c.in-Some.edge
    c.loop-test.true c.loop.invariant.rest hits step

pub loop-preserved : goal.loop-preserved
loop-preserved g c =
    let words : ℕ → ℕ = word c.args.reader.now.seed c.args.reader.now.walker in
    let classes : List ℕ = g.C.RowClasses.classes c.args.classes.now in
    let board : ClassBoard = class_board c.args.table.now c.args.factors.now (g.C.Classes.known_classes c.args.classes.now) (g.C.RowClasses.back c.args.classes.now) in
    let made : c.new-board.result ≡ board =
    c.new-board.ensures ∙ ap (class_board c.args.table.now c.args.factors.now (g.C.Classes.known_classes c.args.classes.now)) c.back.ensures in
    let told : c.next-word.result ≡ words c.loop.reader.place =
    rw (← c.loop.invariant.seed, ← c.loop.invariant.walker) c.next-word.ensures.word in
    let step : c.next-word.new.self.place ≡ c.loop.reader.place + 1 = ap (λ r. r.place) c.next-word.ensures.moved in
    let misses : None ≡ hit (board_by board classes) (words c.loop.reader.place) =
    c.in-None.ensures.edge ∙ ap (λ b. hit (board_by b classes) c.next-word.result) made ∙ ap (hit (board_by board classes)) told in
    let tick : c.taken.new.steps ≡ c.loop.steps + dart_column (board_by board classes) (words c.loop.reader.place) =
    c.in-None.ensures.ticks ∙ ap (λ b. c.loop.steps + dart_column (board_by b classes) c.next-word.result) made
    ∙ ap (λ w. c.loop.steps + dart_column (board_by board classes) w) told in
    record {
      seed = ap (λ r. r.seed) c.next-word.ensures.moved ∙ c.loop.invariant.seed;
      walker = ap (λ r. r.walker) c.next-word.ensures.moved ∙ c.loop.invariant.walker;
      place = let before = c.loop.invariant.place in omega arith;
      rest = dart-passed c.args.retries c.loop.counter (board_by board classes) words c.args.reader.now.place c.loop.reader.place c.next-word.new.self.place
          c.loop-test.true c.loop.invariant.rest misses step;
      ticks = ticks-passed c.args.retries c.loop.counter (board_by board classes) words c.args.reader.now.place c.loop.reader.place c.next-word.new.self.place
          c.args.steps.now c.loop.steps c.taken.new.steps c.loop-test.true c.loop.invariant.ticks misses tick step;
    }

pub returns-clause-edge : goal.returns-clause-edge
returns-clause-edge g c =
    let words : ℕ → ℕ = word c.args.reader.now.seed c.args.reader.now.walker in
    let classes : List ℕ = g.C.RowClasses.classes c.args.classes.now in
    let board : ClassBoard = class_board c.args.table.now c.args.factors.now (g.C.Classes.known_classes c.args.classes.now) (g.C.RowClasses.back c.args.classes.now) in
    let found : option_map (λ edge. (edge, c.scan_row.new.reader.place)) c.scan_row.result ≡ scanned (board_by board classes) words c.loop.reader.place =
    rw (← c.loop.invariant.seed, ← c.loop.invariant.walker) c.scan_row.ensures.edge in
    darts-scanned c.args.retries c.loop.counter (board_by board classes) words c.args.reader.now.place c.loop.reader.place
    (option_map (λ edge. (edge, c.scan_row.new.reader.place)) c.scan_row.result) c.loop-test.false c.loop.invariant.rest found

pub returns-in-Some-clause-ticks : goal.returns-in-Some-clause-ticks
returns-in-Some-clause-ticks g c =
    let words : ℕ → ℕ = word c.args.reader.now.seed c.args.reader.now.walker in
    let classes : List ℕ = g.C.RowClasses.classes c.args.classes.now in
    let board : ClassBoard = class_board c.args.table.now c.args.factors.now (g.C.Classes.known_classes c.args.classes.now) (g.C.RowClasses.back c.args.classes.now) in
    let made : c.new-board.result ≡ board =
    c.new-board.ensures ∙ ap (class_board c.args.table.now c.args.factors.now (g.C.Classes.known_classes c.args.classes.now)) c.back.ensures in
    let told : c.next-word.result ≡ words c.loop.reader.place =
    rw (← c.loop.invariant.seed, ← c.loop.invariant.walker) c.next-word.ensures.word in
    let hits : Some c.in-Some.edge ≡ hit (board_by board classes) (words c.loop.reader.place) =
    c.in-Some.ensures.edge ∙ ap (λ b. hit (board_by b classes) c.next-word.result) made ∙ ap (hit (board_by board classes)) told in
    let tick : c.taken.new.steps ≡ c.loop.steps + dart_column (board_by board classes) (words c.loop.reader.place) =
    c.in-Some.ensures.ticks ∙ ap (λ b. c.loop.steps + dart_column (board_by b classes) c.next-word.result) made
    ∙ ap (λ w. c.loop.steps + dart_column (board_by board classes) w) told in
    ticks-taken c.args.retries c.loop.counter (board_by board classes) words c.args.reader.now.place c.loop.reader.place c.in-Some.edge
    c.args.steps.now c.loop.steps c.taken.new.steps c.loop-test.true c.loop.invariant.ticks hits tick

pub returns-clause-ticks : goal.returns-clause-ticks
returns-clause-ticks g c =
    let words : ℕ → ℕ = word c.args.reader.now.seed c.args.reader.now.walker in
    let classes : List ℕ = g.C.RowClasses.classes c.args.classes.now in
    let board : ClassBoard = class_board c.args.table.now c.args.factors.now (g.C.Classes.known_classes c.args.classes.now) (g.C.RowClasses.back c.args.classes.now) in
    ticks-spent c.args.retries c.loop.counter (board_by board classes) words c.args.reader.now.place c.loop.reader.place
    c.args.steps.now c.loop.steps c.loop-test.false c.loop.invariant.ticks
