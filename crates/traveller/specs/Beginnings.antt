-- What the beginning of a step can decide.
use Rattle.std.specs.Prelude.{◌+◌, ◌≤◌}
use Rattle.walk_model.specs.declared.states.State.{State}
use Rattle.walk_model.specs.Letters.{Journey}
use Rattle.traveller.specs.declared.deciding.Decision.{Decision}
use Rattle.traveller.specs.declared.deciding.Decision.TheVariants as decision
use Rattle.traveller.specs.Decided.{IsDecided}

-- two coins take up to 128 words, and the darts up to 1000 more
abbrev pub IsBegun : Journey → State → Decision → Type 0
IsBegun j s (decision.Back next) = next ≤ s.place + 128
IsBegun j s (decision.Comes mode) = IsDecided j s j.course.plan.retries (s.place + 1128) mode
