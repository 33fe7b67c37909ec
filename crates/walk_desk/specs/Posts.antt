-- What stands behind the desk's lock, client by client, and what is seen of a desk.
use Rattle.std.specs.Prelude.{◌≡◌, ℕ, List, ◌++◌, Option, option_to_list, length}
use Rattle.walk_desk.specs.declared.asks.WalkAsk.{WalkAsk}
use Rattle.walk_desk.specs.declared.asks.WalkAnswer.{WalkAnswer}
use Rattle.walk_desk.specs.Answers.{answers_from}

-- the desk's side of a client: its place, the asks received and the answers sent, each in order, and the ask that was taken and not
-- answered yet
pub record Post : Type 0 where
  pub place : ℕ
  pub asks : List WalkAsk
  pub answers : List WalkAnswer
  pub taken : Option WalkAsk

-- the answers to the asks received are those sent and then the one to the ask that was taken
abbrev pub IsAnswered : (WalkAsk → Option (List ℕ)) → List WalkAsk → List WalkAnswer → Option WalkAsk → Type 0
IsAnswered walk asks answers taken = answers_from walk 0 asks ≡ answers ++ answers_from walk (length answers) (option_to_list taken)

-- a desk that is open: who answers, and how many clients it has
pub record Opened (E : Type 0) : Type 0 where
  pub engine : E
  pub clients : ℕ
