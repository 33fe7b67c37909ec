use Rattle.dart_envelope.proofs.AreaLemmas.{area-some, area-bound}
use Rattle.dart_envelope.proofs.board.Board.place_of.Goals as goal

pub fold_rest-requires-clause-some : goal.fold_rest-requires-clause-some
fold_rest-requires-clause-some g c = rw (c.self.invariant.places_is) (area-some _ _ c.self.invariant.board)

pub fold_rest-requires-clause-bound : goal.fold_rest-requires-clause-bound
fold_rest-requires-clause-bound g c = rw (c.self.invariant.places_is) (area-bound _ _ c.self.invariant.board)

pub fold-requires-clause-some : goal.fold-requires-clause-some
fold-requires-clause-some g c = rw (c.self.invariant.places_is) (area-some _ _ c.self.invariant.board)

pub fold-requires-clause-bound : goal.fold-requires-clause-bound
fold-requires-clause-bound g c = rw (c.self.invariant.places_is) (area-bound _ _ c.self.invariant.board)
