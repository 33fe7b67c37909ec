use Rattle.std.proofs.Common.{◌≡◌, ◌+◌, Some, sym, subst}
use Rattle.traveller.specs.declared.modes.Mode.TheVariants.{Fresh}
use Rattle.traveller.specs.Deciding.{gone}
use Rattle.traveller.specs.Standing.{CanGo, IsWithin, journey_on}
use Rattle.traveller.specs.Walkers.{Walker}
use Rattle.traveller.proofs.StepLemmas.{gone-along}
use Rattle.traveller.proofs.travellers.Traveller.go.Goals as goal

pub returns-in-Chosen-clause-data : goal.returns-in-Chosen-clause-data
returns-in-Chosen-clause-data c = λ graph of.
    let w : Walker = record { number = c.self.inside.number; start = c.self.inside.start; length = c.self.inside.length; state = c.self.inside.state; mode = c.self.inside.mode } in
    let going : CanGo c.args.part.now w w.mode = subst (λ (v : Walker). CanGo c.args.part.now v v.mode) (sym c.self.view_is) c.requires.goes in
    let can = subst (CanGo c.args.part.now w) c.in-Chosen.is going in
    let within : IsWithin c.args.part.now.vertices w = subst (IsWithin c.args.part.now.vertices) (sym c.self.view_is) c.requires.within in
    subst (λ (v : Walker). record w {
      state = record { at = c.end-to.result; previous = Some w.state.at; phase = w.state.phase + 1; steps = w.state.steps + 1; place = c.in-Chosen.place };
      mode = Fresh;
    } ≡ gone (journey_on graph c.args.run.now c.args.part.now.cuts v) v) c.self.view_is
    (gone-along graph c.args.run.now c.args.part.now w c.in-Chosen.edge c.in-Chosen.place c.end-to.result of
    (record { below = within.at; owner_is = can.0 }) c.in-Chosen.is can.1 c.end-to.ensures.end)
