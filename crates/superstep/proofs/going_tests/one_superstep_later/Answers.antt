use Rattle.std.proofs.Common.{◌<◌, ◌≤◌, ◌+◌, ◌^◌, ◌∙◌, length, get_or, map, arith, subst, ap, refl}
use Rattle.superstep.specs.Boxes.{addressed_of}
use Rattle.superstep.specs.Moments.{most_letters}
use Rattle.superstep.proofs.EndLemmas.{start-going, start-stands, flight-from, shards-few}
use Rattle.superstep.proofs.FlightLemmas.{flight-sound}
use Rattle.superstep.proofs.going_tests.one_superstep_later.Goals as goal

pub set_out-requires-clause-few : goal.set_out-requires-clause-few
set_out-requires-clause-few g c κs within =
    shards-few c.args.world c.requires.sound
    (λ s. subst (λ l. length (get_or l 0 s).part.cuts + 1 ≤ 256) c.as_slice.ensures.value (c.look_up.ensures.parts s))

pub set_out-requires-clause-from : goal.set_out-requires-clause-from
set_out-requires-clause-from g c κs within = flight-from c.args.world c.requires.sound

pub set_out-requires-clause-going : goal.set_out-requires-clause-going
set_out-requires-clause-going g c κs within =
    start-going c.args.world _ _ c.requires.sound (omega (arith, c.new-carrier.ensures.count))
    (λ s. subst (λ l. most_letters (get_or l 0 s).run < 2 ^ 63) c.as_slice.ensures.value (c.look_up.ensures.letters s))

pub returns-clause-sound : goal.returns-clause-sound
returns-clause-sound g c =
    let h = c.requires.sound in
    let l = c.in_ok-_afloat.ensures.passes.leads h.graph h.run h.cuts (start-stands h.graph h.run h.cuts c.args.world _ _ h.sound) in
    record {
      graph = h.graph;
      run = h.run;
      cuts = h.cuts;
      sound =
          flight-sound h.graph h.run h.cuts (record { shards = c.set_out.new.shards; flight = c.in_ok-flight.flight }) c.set_out.new.shards.items c.set_out.new.carrier.held _ _
          refl (c.in_ok-flight.ensures ∙ ap (map addressed_of) c.in_ok-parcels.ensures.all) c.in_ok-_afloat.ensures.addressed l.stands;
    }
