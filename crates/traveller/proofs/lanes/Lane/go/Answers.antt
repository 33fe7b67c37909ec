use Rattle.std.proofs.Common.{◌≡◌}
use Rattle.traveller.proofs.lanes.Lane.go.Goals as goal

pub returns-clause-stands : goal.returns-clause-stands
returns-clause-stands c =
    let run : c.run.result.now ≡ c.args.here.now.run = c.run.ensures.run in
    let part : c.part.result.now ≡ c.args.here.now.part = c.part.ensures in
    let stands = rw (run, part) at c.go.ensures.stands in
    rw (← c.self.view_is) stands
