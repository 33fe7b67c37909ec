use Rattle.std.proofs.Common.{◌≡◌, ◌≤◌, ◌+◌, ℕ, List, Some}
use Rattle.walk_model.specs.Words.{word}
use Rattle.dart_envelope.specs.ClassBoards.{Suits, board_by}
use Rattle.walk_model.specs.Letters.{Asker}
use Rattle.traveller.specs.Far.{TellsAll}
use Rattle.traveller.specs.Ticks.{columns}
use Rattle.traveller.specs.Turns.{throws}
use Rattle.traveller.proofs.far_throwing.throw_far.Given as goal

abbrev pub invariant-loop-left : goal.invariant-loop-left
invariant-loop-left g l = record {
  seed : l.reader.seed ≡ l.initial.reader.seed;
  walker : l.reader.walker ≡ l.initial.reader.walker;
  place : l.reader.place + l.left ≡ l.initial.reader.place + l.initial.left;
  low : l.left ≤ l.initial.left;
  rest : (a : Asker) (classes : List ℕ) → Suits l.board classes → TellsAll l.board a classes
      → throws l.left (Some a) (board_by l.board classes) (word l.initial.reader.seed l.initial.reader.walker) l.reader.place
      ≡ throws l.initial.left (Some a) (board_by l.board classes) (word l.initial.reader.seed l.initial.reader.walker) l.initial.reader.place;
  ticks : (a : Asker) (classes : List ℕ) → Suits l.board classes → TellsAll l.board a classes
      → l.steps + columns l.left (Some a) (board_by l.board classes) (word l.initial.reader.seed l.initial.reader.walker) l.reader.place
      ≡ l.initial.steps + columns l.initial.left (Some a) (board_by l.board classes) (word l.initial.reader.seed l.initial.reader.walker) l.initial.reader.place;
}

abbrev pub decreases-loop-left : goal.decreases-loop-left
decreases-loop-left g l = l.left
