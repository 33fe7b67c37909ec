-- Darts on a board whose classes another part knows.
use Rattle.std.specs.Prelude.{◌≡◌, ℕ, ◌<◌, ◌==◌, ⊤, if◌then◌else◌, List, slice_index, Option, Some, None}
use Rattle.walk_model.specs.declared.messages.Question.{Question}
use Rattle.walk_model.specs.declared.messages.Question.TheVariants as question
use Rattle.walk_model.specs.Dart.{Board, scanned}
use Rattle.walk_model.specs.Letters.{Asker}
use Rattle.dart_envelope.specs.ClassBoards.{ClassBoard, class_board, board_by}
use Rattle.dart_envelope.specs.Verdicts.{verdict_of}
use Rattle.dart_envelope.specs.declared.verdict.Verdict.{Verdict}
use Rattle.dart_envelope.specs.declared.verdict.Verdict.TheVariants as verdict
use Rattle.traveller.specs.declared.modes.Mode.{Mode}
use Rattle.traveller.specs.declared.modes.Mode.TheVariants.{Asked, AskedRow, Chosen}
use Rattle.traveller.specs.declared.far_throwing.Far.{Far}
use Rattle.traveller.specs.declared.far_throwing.Far.TheVariants as far
use Rattle.node2vec_walk.specs.Destinations.{known_of, classes_to}
use Rattle.node2vec_walk.specs.declared.destinations.NearClasses.{NearClasses}
use Rattle.traveller.specs.Choices.{IsChoice}
use Rattle.traveller.specs.Turns.{chosen_or_over, edge_question, row_question, scan_mode}

-- a verdict tells of the question that a dart needs: about its edge where its class would have to be
-- known, and else none
abbrev pub Tells : Asker → Option Question → Verdict → Type 0
Tells a asks verdict.Miss = asks ≡ None
Tells a asks verdict.Turned = asks ≡ None
Tells a asks (verdict.Take edge) = asks ≡ None
Tells a asks (verdict.Need edge height) = asks ≡ Some (question.Edge a.before (slice_index a.ends edge))

-- each verdict on a board of classes does, whatever the classes are
abbrev pub TellsAll : ClassBoard → Asker → List ℕ → Type 0
TellsAll cb a classes = (w : ℕ) → Tells a (edge_question (Some a) (board_by cb classes) w) (verdict_of cb w)

-- the mode that darts come to, the next word being at a place
abbrev pub far_mode : Asker → Board → (ℕ → ℕ) → Far → ℕ → Mode
far_mode a b words (far.Take edge) place = Chosen edge place
far_mode a b words (far.Ask left edge) place = Asked left place (question.Edge a.before (slice_index a.ends edge))
far_mode a b words far.Spent place = scan_mode (row_question (Some a)) (scanned b words place) place

-- an edge of the row, with fewer darts left than before
abbrev pub IsFarWithin : ℕ → ℕ → Far → Type 0
IsFarWithin count before (far.Take edge) = edge < count
IsFarWithin count before (far.Ask left edge) = (edge < count) × (left < before)
IsFarWithin count before far.Spent = ⊤

-- a row can be chosen from by the classes that its destinations tell
abbrev pub IsNearChoice : List ℕ → List ℕ → NearClasses → Type 0
IsNearChoice weights factors c =
    IsChoice 3 weights factors (known_of c.back c.dsts.now) (classes_to c.before.now c.back c.dsts.now) (Some c.run)

-- its board
abbrev pub near_board : List ℕ → List ℕ → NearClasses → Board
near_board weights factors c =
    board_by (class_board weights factors (known_of c.back c.dsts.now) (Some c.run)) (classes_to c.before.now c.back c.dsts.now)

-- what a scan comes to after a step from t: where a near edge has another factor than a far one, the
-- row of t has to be known
abbrev pub far_scan : List ℕ → ℕ → Board → (ℕ → ℕ) → ℕ → Mode
far_scan factors t b words place =
    if slice_index factors 1 == slice_index factors 2 then chosen_or_over (scanned b words place)
    else AskedRow place (question.Row t)
