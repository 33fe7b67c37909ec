use Rattle.std.proofs.Common.{◌<◌, ◌≤◌, ◌+◌, ◌^◌, ◌∙◌, length, get_or, arith, subst}
use Rattle.superstep.specs.Moments.{most_letters}
use Rattle.superstep.proofs.EndLemmas.{start-going, flight-from, shards-few}
use Rattle.superstep.proofs.going_tests.shards_at_the_end.Goals as goal

pub walk_through-requires-clause-few : goal.walk_through-requires-clause-few
walk_through-requires-clause-few g c κs within =
    shards-few c.args.world c.requires.sound
    (λ s. subst (λ l. length (get_or l 0 s).part.cuts + 1 ≤ 256) c.as_slice.ensures.value (c.look_up.ensures.parts s))

pub walk_through-requires-clause-from : goal.walk_through-requires-clause-from
walk_through-requires-clause-from g c κs within = flight-from c.args.world c.requires.sound

pub walk_through-requires-clause-going : goal.walk_through-requires-clause-going
walk_through-requires-clause-going g c κs within =
    start-going c.args.world _ _ c.requires.sound (omega (arith, c.new-carrier.ensures.count))
    (λ s. subst (λ l. most_letters (get_or l 0 s).run < 2 ^ 63) c.as_slice.ensures.value (c.look_up.ensures.letters s))
