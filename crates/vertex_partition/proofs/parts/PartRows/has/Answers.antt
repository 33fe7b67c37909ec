use Rattle.std.proofs.Common.{sym, subst}
use Rattle.vertex_partition.specs.PartViews.{PartView, Owns}
use Rattle.vertex_partition.proofs.PartLemmas.{held}
use Rattle.vertex_partition.proofs.parts.PartRows.has.Goals as goal

pub has-requires-clause-from : goal.has-requires-clause-from
has-requires-clause-from c =
    held c.self.inside.part c.self.inside.weighted c.self.inside.cuts c.self.inside.rows _ c.args.t c.self.invariant
    (subst (λ (p : PartView). Owns p c.args.t) (sym c.self.view_is) c.requires.from)
