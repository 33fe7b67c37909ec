use Rattle.traveller.proofs.tests.lane_turn.Goals as goal

pub returns-in-Some-print : goal.returns-in-Some-print
returns-in-Some-print g c =
    c.go.ensures.stands c.decide.ensures.stands
    ((rw c.part.ensures at (c.is_whole.ensures c.if-not-is_whole.false)) c.go.new.self.state.at c.go.ensures.within.at)

pub returns-in-None : goal.returns-in-None
returns-in-None g c =
    c.go.ensures.stands c.decide.ensures.stands
    ((rw c.part.ensures at (c.is_whole.ensures c.if-not-is_whole.false)) c.go.new.self.state.at c.go.ensures.within.at)
