-- How many columns darts read.
use Rattle.std.proofs.Common.{◌≡◌, ℕ, zero, suc, ◌+◌, ◌-◌, ◌<◌, ◌≤◌, List, Some, None, refl, ap, sym, ◌∙◌, arith}
use Rattle.walk_model.specs.Words.{fold_word}
use Rattle.walk_model.specs.Dart.{Board, area, hit}
use Rattle.factor_table.proofs.FlatBoardLaws.{flat_board, hit-flat}
use Rattle.dart_envelope.specs.ClassBoards.{ClassBoard, board_by, frame}
use Rattle.dart_envelope.specs.Verdicts.{columns_read}
use Rattle.traveller.specs.Ticks.{column_at, dart_column, later_columns, columns}

-- the column of a dart is the same whatever the classes are
pub column-read : (b : ClassBoard) (classes : List ℕ) (w : ℕ) → columns_read b (fold_word (area (frame b)) w) ≡ dart_column (board_by b classes) w
unfolding columns_read dart_column
column-read b classes w =
    elim (fold_word (area (frame b)) w) as (λ o. columns_read b o ≡ column_at (board_by b classes) o) [
      | None ↦ refl
      | Some x ↦ refl
    ]

-- without darts none is read
columns-spent : (n : ℕ) (b : Board) (words : ℕ → ℕ) (place : ℕ) → n ≡ 0 → columns n None b words place ≡ 0
unfolding columns
columns-spent n b words place e = rw e refl

-- a dart that hits is the last one
columns-hit : (n more : ℕ) (b : Board) (words : ℕ → ℕ) (place edge : ℕ) → n ≡ suc more → hit b (words place) ≡ Some edge
    → columns n None b words place ≡ dart_column b (words place)
unfolding columns
columns-hit n more b words place edge e h =
    let own : dart_column b (words place) + 0 ≡ dart_column b (words place) = omega arith in
    rw e (ap (λ o. dart_column b (words place) + later_columns None o (columns more None b words (place + 1))) h ∙ own)

-- after another come the rest
columns-missed : (n more : ℕ) (b : Board) (words : ℕ → ℕ) (place : ℕ) → n ≡ suc more → hit b (words place) ≡ None
    → columns n None b words place ≡ dart_column b (words place) + columns more None b words (place + 1)
unfolding columns
columns-missed n more b words place e h =
    rw e (ap (λ o. dart_column b (words place) + later_columns None o (columns more None b words (place + 1))) h)

-- a dart among others that hits
pub ticks-taken : (n i : ℕ) (b : Board) (words : ℕ → ℕ) (from place edge before now next : ℕ) → i < n
    → now + columns (n - i) None b words place ≡ before + columns n None b words from → Some edge ≡ hit b (words place)
    → next ≡ now + dart_column b (words place) → next ≡ before + columns n None b words from
ticks-taken n i b words from place edge before now next more rest hits tick =
    let own = columns-hit (n - i) (n - suc i) b words place edge (omega arith) (sym hits) in
    omega (arith, own, rest, tick)

-- a dart among others that hits nothing
pub ticks-passed : (n i : ℕ) (b : Board) (words : ℕ → ℕ) (from place after before now next : ℕ) → i < n
    → now + columns (n - i) None b words place ≡ before + columns n None b words from → None ≡ hit b (words place)
    → next ≡ now + dart_column b (words place) → after ≡ place + 1
    → next + columns (n - (i + 1)) None b words after ≡ before + columns n None b words from
ticks-passed n i b words from place after before now next more rest misses tick step =
    let own = columns-missed (n - i) (n - (i + 1)) b words place (omega arith) (sym misses) in
    rw step (omega (arith, own, rest, tick))

-- all darts
pub ticks-spent : (n i : ℕ) (b : Board) (words : ℕ → ℕ) (from place before now : ℕ) → n ≤ i
    → now + columns (n - i) None b words place ≡ before + columns n None b words from → now ≡ before + columns n None b words from
ticks-spent n i b words from place before now spent rest =
    let none = columns-spent (n - i) b words place (omega arith) in
    omega (arith, none, rest)

-- boards on which each dart takes the same edge and reads as many columns
pub columns-same : (n : ℕ) (b c : Board) (words : ℕ → ℕ) (place : ℕ) → ((w : ℕ) → hit b w ≡ hit c w) → ((w : ℕ) → dart_column b w ≡ dart_column c w)
    → columns n None b words place ≡ columns n None c words place
unfolding columns
columns-same zero b c words place hits reads = refl
columns-same (suc more) b c words place hits reads =
    rw (hits (words place), reads (words place), columns-same more b c words (place + 1) hits reads) refl

-- where nothing rises, no run of edges changes the columns
pub column-flat : (ws fs : List ℕ) (h from count w : ℕ) → dart_column (flat_board ws fs h from count) w ≡ dart_column (flat_board ws fs h 0 0) w
unfolding dart_column
column-flat ws fs h from count w =
    let same : area (flat_board ws fs h from count) ≡ area (flat_board ws fs h 0 0) = omega arith in
    ap (λ n. column_at (flat_board ws fs h 0 0) (fold_word n w)) same

pub columns-flat : (n : ℕ) (ws fs : List ℕ) (h from count : ℕ) (words : ℕ → ℕ) (place : ℕ)
    → columns n None (flat_board ws fs h from count) words place ≡ columns n None (flat_board ws fs h 0 0) words place
columns-flat n ws fs h from count words place =
    columns-same n (flat_board ws fs h from count) (flat_board ws fs h 0 0) words place (hit-flat ws fs h from count) (column-flat ws fs h from count)
