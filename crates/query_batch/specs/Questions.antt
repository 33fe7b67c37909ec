-- The questions of asks: which of them a part can answer, and how many there are.
use Rattle.std.specs.Prelude.{ℕ, ◌+◌, ◌<◌, ◌==◌, Bool, false, ◌&&◌, if◌then◌else◌, List, [], ◌∷◌}
use Rattle.std.specs.List.{list_any}
use Rattle.walk_model.specs.declared.messages.Ask.{Ask}
use Rattle.walk_model.specs.declared.messages.Question.{Question}
use Rattle.walk_model.specs.declared.messages.Question.TheVariants as question
use Rattle.vertex_partition.specs.PartViews.{PartView, Owns}

-- two questions are the same
abbrev pub same_question : Question → Question → Bool
same_question (question.Edge t x) (question.Edge u y) = t == u && x == y
same_question (question.Row t) (question.Row u) = t == u
same_question _ _ = false

-- one of the asks has a question
abbrev pub is_asked : List Ask → Question → Bool
is_asked asks q = list_any (λ a. same_question a.question q) asks

-- how many distinct questions asks have, each counted where it comes last
unfoldable pub distinct_questions : List Ask → ℕ
distinct_questions [] = 0
distinct_questions (a ∷ asks) = (if is_asked asks a.question then 0 else 1) + distinct_questions asks

-- a part can answer a question: it owns the vertex whose edges are asked for, and the other one is a vertex
abbrev pub CanAnswer : PartView → Question → Type 0
CanAnswer p (question.Edge t x) = Owns p t × (x < p.vertices)
CanAnswer p (question.Row t) = Owns p t
