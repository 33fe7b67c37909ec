-- What a graph answers to questions, and what a walker makes of a reply.
use Rattle.std.specs.Prelude.{ℕ, ◌+◌, ◌==◌, if◌then◌else◌, Bool, List, [], ◌∷◌, map, Option, Some, None}
use Rattle.std.specs.List.{list_any}
use Rattle.walk_model.specs.declared.graph.Edge.{Edge}
use Rattle.walk_model.specs.declared.messages.Ask.{Ask}
use Rattle.walk_model.specs.declared.messages.Reply.{Reply}
use Rattle.walk_model.specs.declared.messages.Question.{Question}
use Rattle.walk_model.specs.declared.messages.Question.TheVariants as question
use Rattle.walk_model.specs.declared.messages.Found.{Found}
use Rattle.walk_model.specs.declared.messages.Found.TheVariants as found
use Rattle.walk_model.specs.Graph.{row, has_edge, ends_of, with_number}
use Rattle.walk_model.specs.Factor.{return_factor, common_factor, far_factor}
use Rattle.walk_model.specs.Dart.{Board, hit, scanned}
use Rattle.walk_model.specs.Letters.{Asker}
use Rattle.traveller.specs.declared.modes.Mode.{Mode}
use Rattle.traveller.specs.declared.modes.Mode.TheVariants.{Darts, Asked, AskedRow, Chosen}
use Rattle.traveller.specs.PartedRuns.{PartedRun, journey_from}
use Rattle.traveller.specs.Walkers.{Walker}
use Rattle.traveller.specs.Turns.{asker_at, board_at, chosen_or_over}

-- numbers in rising order, each once
unfoldable pub rising : List ℕ → List ℕ
rising [] = []
rising (x ∷ xs) = with_number x (rising xs)

-- what a graph answers to a question
abbrev pub found_in : List Edge → Question → Found
found_in edges (question.Edge t x) = found.Edge (has_edge edges t x)
found_in edges (question.Row t) = found.Row (rising (ends_of (row edges t)))

-- the reply to an ask
abbrev pub reply_to : List Edge → Ask → Reply
reply_to edges ask = record { ask = ask; found = found_in edges ask.question }

-- a reply has the form of its question
abbrev pub Answers : Question → Found → Type 0
Answers (question.Edge t x) (found.Edge near) = Unit {0}
Answers (question.Row t) (found.Row ends) = Unit {0}
Answers _ _ = ⊥

-- which ends a reply tells to be near: by an edge, the one that was asked about, whichever it is
abbrev pub near_by : Found → ℕ → Bool
near_by (found.Edge near) x = near
near_by (found.Row ends) x = list_any (λ y. y == x) ends

-- the factor of an edge to x, by which ends are near
abbrev pub told_factor : Asker → (ℕ → Bool) → ℕ → ℕ
told_factor a near x =
    if x == a.before then return_factor a.p a.q
    else (if near x then common_factor a.p a.q else far_factor a.p a.q)

-- the board as a reply tells it
abbrev pub told_board : Asker → Board → (ℕ → Bool) → Board
told_board a b near = record b { factors = map (told_factor a near) a.ends }

-- what a dart comes to once its edge is told: the edge, or the darts after it
abbrev pub edge_mode : Option ℕ → ℕ → ℕ → Mode
edge_mode None left place = Darts left (place + 1)
edge_mode (Some edge) left place = Chosen edge (place + 1)

-- what a waiting walker comes to by what was found
abbrev pub heard_mode : Option Asker → Board → (ℕ → ℕ) → Mode → (ℕ → Bool) → Mode
heard_mode (Some a) b words (Asked left place q) near = edge_mode (hit (told_board a b near) (words place)) left place
heard_mode (Some a) b words (AskedRow place q) near = chosen_or_over (scanned (told_board a b near) words place)
heard_mode _ b words m near = m

-- the walker after a reply
abbrev pub hear : PartedRun → Walker → Found → Walker
hear g v answer =
    let j = journey_from g v.number v.start in
    record v { mode = heard_mode (asker_at j v.state) (board_at j v.state) j.course.words v.mode (near_by answer) }
