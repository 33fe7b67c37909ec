-- What a dart finds where the class of an edge may be unknown.
use Rattle.std.specs.Prelude.{◌≡◌, ℕ, ◌+◌, ◌-◌, ◌/◌, ◌%◌, ◌<◌, ◌≤◌, ⊤, nat_lt, if◌then◌else◌, List, length, slice_index, Option, Some, None}
use Rattle.walk_model.specs.Words.{fold_word}
use Rattle.walk_model.specs.Lists.{first_above}
use Rattle.walk_model.specs.Alias.{piece}
use Rattle.walk_model.specs.Dart.{back_weights, main_area, area, edge_at, hit}
use Rattle.dart_envelope.specs.ClassBoards.{ClassBoard, height, low, frame, known_at, board_by, Suits}
use Rattle.dart_envelope.specs.declared.verdict.Verdict.{Verdict}
use Rattle.dart_envelope.specs.declared.verdict.Verdict.TheVariants.{Miss, Take, Turned, Need}

-- an edge is taken where the height lies under the factor of its class; without the class only where
-- it lies under the factor of any class that the edge may have
unfoldable pub judged : ClassBoard → Option ℕ → ℕ → ℕ → Verdict
judged b (Some class) edge height = if nat_lt height (slice_index b.factors class) then Take edge else Turned
judged b None edge height = if nat_lt height (low b) then Take edge else Need edge height

-- the verdict at a place of the board: in the main part that on the edge of its column, at its
-- height; in the strip it takes a return edge
unfoldable pub verdict_at : ClassBoard → ℕ → Verdict
verdict_at b x =
    if nat_lt x (main_area (frame b)) then
    (let edge = piece b.weights (x / height b) in judged b (known_at b edge) edge (x % height b))
    else Take ((frame b).back_from + first_above ((x - main_area (frame b)) / (frame b).lift / length b.weights) (back_weights (frame b)))

-- the verdict at the place that a word folds to, if it does
abbrev pub verdict_or_miss : ClassBoard → Option ℕ → Verdict
verdict_or_miss b None = Miss
verdict_or_miss b (Some x) = verdict_at b x

-- the verdict of the dart with this word
unfoldable pub verdict_of : ClassBoard → ℕ → Verdict
verdict_of b w = verdict_or_miss b (fold_word (area (frame b)) w)

-- how many columns a dart reads: one in the main part
unfoldable pub columns_read : ClassBoard → Option ℕ → ℕ
columns_read b None = 0
columns_read b (Some x) = if nat_lt x (main_area (frame b)) then 1 else 0

-- the edge that a verdict takes once the classes of the edges are known
unfoldable pub settled : ClassBoard → List ℕ → Verdict → Option ℕ
settled b classes Miss = None
settled b classes (Take edge) = Some edge
settled b classes Turned = None
settled b classes (Need edge height) =
    if nat_lt height (slice_index b.factors (slice_index classes edge)) then Some edge else None

-- a verdict speaks of an edge of the row, if of any
abbrev pub IsWithin : ℕ → Verdict → Type 0
IsWithin count Miss = ⊤
IsWithin count (Take edge) = edge < count
IsWithin count Turned = ⊤
IsWithin count (Need edge height) = edge < count

-- whatever classes the edges may have, the verdict settles to the edge that takes the place
abbrev pub SettlesAt : ClassBoard → ℕ → Verdict → Type 0
SettlesAt b x verdict = (classes : List ℕ) → Suits b classes → edge_at (board_by b classes) x ≡ settled b classes verdict

-- whatever classes the edges may have, the verdict settles to the edge that the dart hits
abbrev pub SettlesTo : ClassBoard → ℕ → Verdict → Type 0
SettlesTo b w verdict = (classes : List ℕ) → Suits b classes → hit (board_by b classes) w ≡ settled b classes verdict

-- a dart that takes no edge: it misses the board, or its edge is rejected at its height
abbrev pub IsVain : ClassBoard → List ℕ → Verdict → Type 0
IsVain b classes Miss = ⊤
IsVain b classes (Take edge) = ⊥
IsVain b classes Turned = ⊤
IsVain b classes (Need edge height) = slice_index b.factors (slice_index classes edge) ≤ height

-- whatever classes the edges may have, a dart that hits no edge is in vain by this verdict
abbrev pub IsElseVain : ClassBoard → ℕ → Verdict → Type 0
IsElseVain b w verdict = (classes : List ℕ) → Suits b classes → hit (board_by b classes) w ≡ None → IsVain b classes verdict
