-- The answers to asks.
use Rattle.std.specs.Prelude.{ℕ, suc, List, [], ◌∷◌, Option}
use Rattle.walk_desk.specs.declared.asks.WalkAsk.{WalkAsk}
use Rattle.walk_desk.specs.declared.asks.WalkAnswer.{WalkAnswer}

-- each ask in order, with the numbers from n on and its one walk
abbrev pub answers_from : (WalkAsk → Option (List ℕ)) → ℕ → List WalkAsk → List WalkAnswer
answers_from walk n [] = []
answers_from walk n (a ∷ more) = record { number = n; ask = a; walk = walk a } ∷ answers_from walk (suc n) more
