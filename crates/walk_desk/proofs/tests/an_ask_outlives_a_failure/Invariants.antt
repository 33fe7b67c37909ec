use Rattle.std.proofs.Common.{[], ◌∷◌, Some}
use Rattle.walk_desk.specs.Opening.{lines_of}
use Rattle.walk_desk.specs.declared.asks.WalkAsk.{WalkAsk}
use Rattle.walk_desk.proofs.tests.an_ask_outlives_a_failure.Given as goal

abbrev pub ghosts-failing : goal.ghosts-failing
ghosts-failing g a = record { lines = lines_of a.rings; walk = λ (w : WalkAsk). Some (w.start ∷ w.length ∷ []) }
