use Rattle.std.proofs.Common.{◌≡◌, ◌+◌, ◌-◌, None}
use Rattle.walk_model.specs.Words.{word}
use Rattle.walk_model.specs.Dart.{darts}
use Rattle.dart_envelope.specs.ClassBoards.{class_board, board_by}
use Rattle.traveller.specs.Ticks.{columns}
use Rattle.traveller.proofs.throwing.choose.Given as goal

abbrev pub invariant-loop : goal.invariant-loop
invariant-loop g l = record {
  seed : l.reader.seed ≡ l.initial.reader.seed;
  walker : l.reader.walker ≡ l.initial.reader.walker;
  place : l.reader.place ≡ l.initial.reader.place + l.counter;
  rest : darts (l.retries - l.counter) (board_by (class_board l.table l.factors (g.C.Classes.known_classes l.classes) (g.C.RowClasses.back l.classes)) (g.C.RowClasses.classes l.classes)) (word l.initial.reader.seed l.initial.reader.walker) l.reader.place
      ≡ darts l.retries (board_by (class_board l.table l.factors (g.C.Classes.known_classes l.classes) (g.C.RowClasses.back l.classes)) (g.C.RowClasses.classes l.classes)) (word l.initial.reader.seed l.initial.reader.walker) l.initial.reader.place;
  ticks : l.steps + columns (l.retries - l.counter) None (board_by (class_board l.table l.factors (g.C.Classes.known_classes l.classes) (g.C.RowClasses.back l.classes)) (g.C.RowClasses.classes l.classes)) (word l.initial.reader.seed l.initial.reader.walker) l.reader.place
      ≡ l.initial.steps + columns l.retries None (board_by (class_board l.table l.factors (g.C.Classes.known_classes l.classes) (g.C.RowClasses.back l.classes)) (g.C.RowClasses.classes l.classes)) (word l.initial.reader.seed l.initial.reader.walker) l.initial.reader.place;
}
