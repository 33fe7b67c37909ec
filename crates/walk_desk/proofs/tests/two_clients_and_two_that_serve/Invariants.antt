use Rattle.std.proofs.Common.{[], ◌∷◌, Some}
use Rattle.walk_desk.specs.Opening.{lines_of}
use Rattle.walk_desk.specs.declared.asks.WalkAsk.{WalkAsk}
use Rattle.walk_desk.proofs.tests.two_clients_and_two_that_serve.Given as goal

abbrev pub ghosts-side_by_side : goal.ghosts-side_by_side
ghosts-side_by_side g a = record { lines = lines_of a.rings; walk = λ (w : WalkAsk). Some (w.start ∷ w.length ∷ []) }
