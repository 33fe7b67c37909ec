-- What a graph answers to questions.
use Rattle.std.specs.Prelude.{ℕ, List, [], ◌∷◌}
use Rattle.walk_model.specs.declared.graph.Edge.{Edge}
use Rattle.walk_model.specs.declared.messages.Ask.{Ask}
use Rattle.walk_model.specs.declared.messages.Reply.{Reply}
use Rattle.walk_model.specs.declared.messages.Question.{Question}
use Rattle.walk_model.specs.declared.messages.Question.TheVariants as question
use Rattle.walk_model.specs.declared.messages.Found.{Found}
use Rattle.walk_model.specs.declared.messages.Found.TheVariants as found
use Rattle.walk_model.specs.Graph.{row, has_edge, ends_of, with_number}

-- numbers in rising order, each once
unfoldable pub rising : List ℕ → List ℕ
rising [] = []
rising (x ∷ xs) = with_number x (rising xs)

-- what a graph answers to a question
abbrev pub found_in : List Edge → Question → Found
found_in edges (question.Edge t x) = found.Edge (has_edge edges t x)
found_in edges (question.Row t) = found.Row (rising (ends_of (row edges t)))

-- the reply to an ask
abbrev pub reply_to : List Edge → Ask → Reply
reply_to edges ask = record { ask = ask; found = found_in edges ask.question }
