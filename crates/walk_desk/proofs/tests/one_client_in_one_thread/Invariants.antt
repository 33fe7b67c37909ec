use Rattle.std.proofs.Common.{[], ◌∷◌, Some}
use Rattle.walk_desk.specs.Opening.{lines_of}
use Rattle.walk_desk.specs.declared.asks.WalkAsk.{WalkAsk}
use Rattle.walk_desk.proofs.tests.one_client_in_one_thread.Given as goal

abbrev pub ghosts-one_client : goal.ghosts-one_client
ghosts-one_client g a = record { lines = lines_of a.rings; walk = λ (w : WalkAsk). Some (w.start ∷ w.length ∷ []) }
