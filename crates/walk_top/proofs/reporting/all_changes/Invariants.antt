use Rattle.std.proofs.Common.{◌≡◌, take}
use Rattle.std.specs.Prelude.{sum_by}
use Rattle.walk_model.specs.Cuts.{owner}
use Rattle.walk_top.specs.Changes.{changes}
use Rattle.walk_top.proofs.reporting.all_changes.Given as goal

abbrev pub invariant-loop-i : goal.invariant-loop-i
invariant-loop-i l = l.count ≡ sum_by (changes (owner l.cuts.cuts)) (take l.i l.walks)
