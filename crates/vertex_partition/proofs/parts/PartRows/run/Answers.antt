use Rattle.std.proofs.Common.{sym, subst}
use Rattle.vertex_partition.specs.PartViews.{PartView, Owns}
use Rattle.vertex_partition.proofs.PartLemmas.{held}
use Rattle.vertex_partition.proofs.parts.PartRows.run.Goals as goal

pub run-requires-clause-from : goal.run-requires-clause-from
run-requires-clause-from c =
    held c.self.inside.part c.self.inside.weighted c.self.inside.cuts c.self.inside.rows _ c.args.v c.self.invariant
    (subst (λ (p : PartView). Owns p c.args.v) (sym c.self.view_is) c.requires.from)
