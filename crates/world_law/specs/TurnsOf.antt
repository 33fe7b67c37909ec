-- What a turn comes to, by the steps and the letters of the plain walk.
use Rattle.std.specs.Prelude.{◌≡◌, ℕ, ◌<◌, [], ◌∷◌, ◌++◌, Some, None}
use Rattle.walk_model.specs.declared.messages.Question.{Question}
use Rattle.walk_model.specs.Letters.{move_letters}
use Rattle.traveller.specs.declared.modes.Mode.{Mode}
use Rattle.traveller.specs.declared.modes.Mode.TheVariants.{Fresh, Over}
use Rattle.traveller.specs.PartedRuns.{PartedRun, journey_from}
use Rattle.traveller.specs.Replies.{reply_to}
use Rattle.traveller.specs.Walkers.{Walker, question_of, asked_vertex, ask_with}
use Rattle.world_law.specs.Items.{Asks, Replies, letter_of}
use Rattle.world_law.specs.LettersLeft.{letters_from}
use Rattle.world_law.specs.Truth.{next_within}

-- what a turn of a true walker comes to: a step of its walk, which is all that it still had to decide and whose
-- letter, if it has one, is the next; a question, whose letter and whose reply's letter are the next; or the end
-- of its walk, after which no letter comes
pub data TurnOf (g : PartedRun) (v w : Walker) : Type 0 where
  moved : w.mode ≡ Fresh → next_within (journey_from g v.number v.start) v.length v.state ≡ Some w.state
      → letters_from g v ≡ move_letters (journey_from g v.number v.start) v.state w.state ++ letters_from g w
      → TurnOf g v w
  asked : (q : Question) → question_of w.mode ≡ Some q → w.state ≡ v.state
      → letters_from g v
      ≡ letter_of (Asks (ask_with g.owner w q) (g.owner (asked_vertex q)))
      ∷ letter_of (Replies (reply_to g.edges (ask_with g.owner w q)) (g.owner (asked_vertex q))) ∷ letters_from g w
      → TurnOf g v w
  ended : w.mode ≡ Over → w.state ≡ v.state → next_within (journey_from g v.number v.start) v.length v.state ≡ None
      → letters_from g v ≡ [] → TurnOf g v w

-- within a step the walk may still make one
abbrev pub HasStepLeft : ℕ → ℕ → Mode → Type 0
HasStepLeft steps length Fresh = Unit {0}
HasStepLeft steps length Over = Unit {0}
HasStepLeft steps length _ = steps < length
