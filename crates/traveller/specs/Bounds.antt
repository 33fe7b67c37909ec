-- What a traveller keeps of its numbers.
use Rattle.std.specs.Prelude.{◌+◌, ◌*◌, ◌≤◌, ◌<◌, ⊤}
use Rattle.traveller.specs.declared.modes.Mode.{Mode}
use Rattle.traveller.specs.declared.modes.Mode.TheVariants.{Fresh, Darts, Asked, AskedRow, Chosen, Over}
use Rattle.traveller.specs.Walkers.{Walker}

-- within a step a walker has a step left, and the next word lies not far behind the place where the
-- step began: two coins take up to 128 words, darts 1000, and the scan 64
abbrev pub IsModeBounded : Walker → Mode → Type 0
IsModeBounded w Fresh = ⊤
IsModeBounded w (Darts left place) = (w.state.steps < w.length) × (left ≤ 1000) × (place + left ≤ w.state.place + 1128)
IsModeBounded w (Asked left place question) = (w.state.steps < w.length) × (left < 1000) × (place + left + 1 ≤ w.state.place + 1128)
IsModeBounded w (AskedRow place question) = (w.state.steps < w.length) × (place ≤ w.state.place + 1128)
IsModeBounded w (Chosen edge place) = (w.state.steps < w.length) × (place ≤ w.state.place + 1192)
IsModeBounded w Over = ⊤

pub record IsBounded (w : Walker) : Type 0 where
  pub length : w.length ≤ 1048576
  pub steps : w.state.steps ≤ w.length
  pub phase : w.state.phase ≤ w.state.steps
  pub place : w.state.place ≤ 1192 * w.state.steps
  pub mode : IsModeBounded w w.mode
