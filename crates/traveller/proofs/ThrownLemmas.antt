-- What is known of a walker that darts have brought to a question.
use Rattle.std.proofs.Common.{◌≡◌, ℕ, zero, suc, ◌+◌, ◌<◌, Option, Some, None, refl, arith}
use Rattle.walk_model.specs.declared.messages.Question.{Question}
use Rattle.walk_model.specs.Dart.{Board, hit, scanned}
use Rattle.walk_model.specs.Letters.{Asker}
use Rattle.traveller.specs.declared.modes.Mode.{Mode}
use Rattle.traveller.specs.declared.modes.Mode.TheVariants.{Fresh, Darts, Asked, AskedRow, Chosen, Over}
use Rattle.traveller.specs.Turns.{edge_question, row_question, scan_mode, dart_mode, throws}

-- a mode that so many darts from a place on can come to
abbrev pub IsThrown : ℕ → Option Asker → Board → (ℕ → ℕ) → ℕ → Mode → Type 0
IsThrown n r b words from (Asked left place question) =
    (left < n) × (place + left + 1 ≡ from + n) × (edge_question r b (words place) ≡ Some question)
IsThrown n r b words from (AskedRow place question) = (place ≡ from + n) × (row_question r ≡ Some question)
IsThrown n r b words from (Chosen edge place) = Unit {0}
IsThrown n r b words from Over = Unit {0}
IsThrown n r b words from Fresh = ⊥
IsThrown n r b words from (Darts left place) = ⊥

-- what the darts after one come to
thrown-later : (n : ℕ) (r : Option Asker) (b : Board) (words : ℕ → ℕ) (from : ℕ) (m : Mode) → IsThrown n r b words (from + 1) m
    → IsThrown (suc n) r b words from m
thrown-later n r b words from (Asked left place q) h = let low = h.0 in let at = h.1 in (omega (arith, low), omega (arith, at), h.2)
thrown-later n r b words from (AskedRow place q) h = let at = h.0 in (omega (arith, at), h.1)
thrown-later n r b words from (Chosen edge place) h = tt
thrown-later n r b words from Over h = tt
thrown-later n r b words from Fresh h = absurd h
thrown-later n r b words from (Darts left place) h = absurd h

pub throws-thrown : (n : ℕ) (r : Option Asker) (b : Board) (words : ℕ → ℕ) (from : ℕ) → IsThrown n r b words from (throws n r b words from)
unfolding throws
throws-thrown zero r b words from = spent (row_question r) refl (scanned b words from)
  where
    spent : (q : Option Question) → row_question r ≡ q → (o : Option (ℕ × ℕ)) → IsThrown 0 r b words from (scan_mode q o from)
    spent None is None = tt
    spent None is (Some taken) = tt
    spent (Some q) is o = (omega arith, is)
throws-thrown (suc n) r b words from = next (edge_question r b (words from)) refl (hit b (words from)) (throws-thrown n r b words (from + 1))
  where
    next : (q : Option Question) → edge_question r b (words from) ≡ q → (o : Option ℕ) → IsThrown n r b words (from + 1) (throws n r b words (from + 1))
        → IsThrown (suc n) r b words from (dart_mode q o n from (throws n r b words (from + 1)))
    next (Some q) is o later = (omega arith, omega arith, is)
    next None is (Some edge) later = tt
    next None is None later = thrown-later n r b words from (throws n r b words (from + 1)) later
