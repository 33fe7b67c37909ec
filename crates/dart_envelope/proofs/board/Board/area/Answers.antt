use Rattle.dart_envelope.proofs.AreaLemmas.{area-some, area-bound}
use Rattle.dart_envelope.proofs.HitLaws.{fair-hits}
use Rattle.dart_envelope.proofs.board.Board.area.Goals as goal

pub returns-clause-some : goal.returns-clause-some
returns-clause-some g c = rw (c.self.invariant.places_is) (area-some _ _ c.self.invariant.board)

pub returns-clause-bound : goal.returns-clause-bound
returns-clause-bound g c = rw (c.self.invariant.places_is) (area-bound _ _ c.self.invariant.board)

pub returns-clause-fair : goal.returns-clause-fair
returns-clause-fair g c =
    let made = rw c.self.view_is at c.self.invariant in
    rw made.places_is (fair-hits _ c.args.self.now made.board)
