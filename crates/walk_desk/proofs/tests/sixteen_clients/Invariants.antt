use Rattle.std.proofs.Common.{[], ◌∷◌, Some}
use Rattle.walk_desk.specs.Opening.{lines_of}
use Rattle.walk_desk.specs.declared.asks.WalkAsk.{WalkAsk}
use Rattle.walk_desk.proofs.tests.sixteen_clients.Given as goal

abbrev pub ghosts-sixteen : goal.ghosts-sixteen
ghosts-sixteen g a = record { lines = lines_of a.rings; walk = λ (w : WalkAsk). Some (w.start ∷ w.length ∷ []) }
