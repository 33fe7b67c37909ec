use Rattle.std.proofs.Common.{◌≡◌, ◌+◌, drop}
use Rattle.walk_model.specs.Cuts.{owner}
use Rattle.walk_top.specs.Changes.{changes_from}
use Rattle.walk_top.proofs.reporting.changes_from.Given as goal

abbrev pub invariant-loop-v : goal.invariant-loop-v
invariant-loop-v l =
    l.count + changes_from (owner l.cuts.cuts) l.before (drop l.v-index l.entries) ≡ changes_from (owner l.cuts.cuts) l.first l.entries
