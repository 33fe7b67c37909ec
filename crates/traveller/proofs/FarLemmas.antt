-- Darts one after the other, as verdicts tell of them.
use Rattle.std.proofs.Common.{◌≡◌, ℕ, zero, suc, ◌+◌, List, Some, None, refl, ap, sym, ◌∙◌}
use Rattle.std.specs.Prelude.{option_map, option_and_then}
use Rattle.walk_model.specs.declared.messages.Question.{Question}
use Rattle.walk_model.specs.declared.messages.Question.TheVariants as question
use Rattle.walk_model.specs.Dart.{Board, hit, scanned}
use Rattle.walk_model.specs.Letters.{Asker, needed_at}
use Rattle.walk_model.specs.Words.{fold_word}
use Rattle.factor_table.proofs.FlatBoardLaws.{flat_board, area-flat, hit-flat}
use Rattle.traveller.specs.declared.modes.Mode.TheVariants.{Asked, Chosen}
use Rattle.traveller.specs.Turns.{edge_question, row_question, scan_mode, dart_mode, throws}

-- a dart that hits an edge
pub far-take : (n left : ℕ) (a : Asker) (b : Board) (words : ℕ → ℕ) (place edge : ℕ) → n ≡ suc left
    → edge_question (Some a) b (words place) ≡ None → hit b (words place) ≡ Some edge
    → throws n (Some a) b words place ≡ Chosen edge (place + 1)
unfolding throws
far-take n left a b words place edge is asks hits =
    rw is (ap (λ q. dart_mode q (hit b (words place)) left place (throws left (Some a) b words (place + 1))) asks
    ∙ ap (λ o. dart_mode None o left place (throws left (Some a) b words (place + 1))) hits)

-- one that hits nothing
pub far-passed : (n left : ℕ) (a : Asker) (b : Board) (words : ℕ → ℕ) (place : ℕ) → n ≡ suc left
    → edge_question (Some a) b (words place) ≡ None → hit b (words place) ≡ None
    → throws n (Some a) b words place ≡ throws left (Some a) b words (place + 1)
unfolding throws
far-passed n left a b words place is asks hits =
    rw is (ap (λ q. dart_mode q (hit b (words place)) left place (throws left (Some a) b words (place + 1))) asks
    ∙ ap (λ o. dart_mode None o left place (throws left (Some a) b words (place + 1))) hits)

-- one that has to ask
pub far-ask : (n left : ℕ) (a : Asker) (b : Board) (words : ℕ → ℕ) (place : ℕ) (q : Question) → n ≡ suc left
    → edge_question (Some a) b (words place) ≡ Some q → throws n (Some a) b words place ≡ Asked left place q
unfolding throws
far-ask n left a b words place q is asks =
    rw is (ap (λ o. dart_mode o (hit b (words place)) left place (throws left (Some a) b words (place + 1))) asks)

-- and none left
pub far-spent : (n : ℕ) (a : Asker) (b : Board) (words : ℕ → ℕ) (place : ℕ) → n ≡ 0
    → throws n (Some a) b words place ≡ scan_mode (row_question (Some a)) (scanned b words place) place
unfolding throws
far-spent n a b words place is = rw is refl

-- where the return factor doesn't rise, it doesn't matter which edges go back
pub question-flat : (a : Asker) (ws fs : List ℕ) (h from count w : ℕ)
    → edge_question (Some a) (flat_board ws fs h from count) w ≡ edge_question (Some a) (flat_board ws fs h 0 0) w
unfolding needed_at
question-flat a ws fs h from count w =
    let b = flat_board ws fs h from count in
    let c = flat_board ws fs h 0 0 in
    ap (λ n. option_map (question.Edge a.before) (option_and_then (needed_at a b) (fold_word n w))) (area-flat ws fs h from count)
    ∙ sym (ap (λ n. option_map (question.Edge a.before) (option_and_then (needed_at a c) (fold_word n w))) (area-flat ws fs h 0 0))

pub throws-flat : (n : ℕ) (a : Asker) (ws fs : List ℕ) (h from count : ℕ) (words : ℕ → ℕ) (place : ℕ)
    → throws n (Some a) (flat_board ws fs h from count) words place ≡ throws n (Some a) (flat_board ws fs h 0 0) words place
unfolding throws scanned
throws-flat zero a ws fs h from count words place = refl
throws-flat (suc n) a ws fs h from count words place =
    rw (
      question-flat a ws fs h from count (words place),
      hit-flat ws fs h from count (words place),
      throws-flat n a ws fs h from count words (place + 1),
    ) refl
