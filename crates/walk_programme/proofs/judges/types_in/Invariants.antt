use Rattle.std.proofs.Common.{◌≡◌, drop}
use Rattle.toml.specs.View.{items_view}
use Rattle.walk_programme.specs.Judges.{types_in}
use Rattle.walk_programme.proofs.TypeLemmas.{in_front}
use Rattle.walk_programme.proofs.judges.types_in.Given as goal

abbrev pub invariant-loop-value : goal.invariant-loop-value
invariant-loop-value l = types_in (items_view l.value-items) ≡ in_front l.types.items (types_in (items_view (drop l.value-index l.value-items)))
