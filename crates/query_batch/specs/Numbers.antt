-- Questions as numbers.
use Rattle.std.specs.Prelude.{ℕ, ◌+◌, ◌*◌, ◌<◌}
use Rattle.walk_model.specs.declared.messages.Question.{Question}
use Rattle.walk_model.specs.declared.messages.Question.TheVariants as question

-- a question asks about vertices, of which there are so many
abbrev pub IsWithin : ℕ → Question → Type 0
IsWithin vertices (question.Edge t x) = (t < vertices) × (x < vertices)
IsWithin vertices (question.Row t) = t < vertices

-- a question as one number: the vertex whose edges are asked for, and behind it 0 for all of them, or one more
-- than the vertex that is asked about
abbrev pub number_of : ℕ → Question → ℕ
number_of vertices (question.Edge t x) = t * (vertices + 1) + (x + 1)
number_of vertices (question.Row t) = t * (vertices + 1)
