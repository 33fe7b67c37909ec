-- Where a walker's next word stands in its stream.
use Rattle.std.specs.Prelude.{ℕ}
use Rattle.traveller.specs.declared.modes.Mode.{Mode}
use Rattle.traveller.specs.declared.modes.Mode.TheVariants.{Fresh, Darts, Asked, AskedRow, Chosen, Over}
use Rattle.traveller.specs.Walkers.{Walker}

-- the place that a mode names, within a step, or else the one where the step begins
abbrev pub place_in : Mode → ℕ → ℕ
place_in Fresh begins = begins
place_in (Darts left place) begins = place
place_in (Asked left place question) begins = place
place_in (AskedRow place question) begins = place
place_in (Chosen edge place) begins = place
place_in Over begins = begins

-- the place of the next word that a walker takes
abbrev pub next_place : Walker → ℕ
next_place v = place_in v.mode v.state.place
