use Rattle.std.proofs.Common.{sym, subst}
use Rattle.vertex_partition.specs.PartViews.{PartView, Owns}
use Rattle.vertex_partition.proofs.PartLemmas.{held}
use Rattle.vertex_partition.proofs.parts.PartRows.kind.Goals as goal

pub kind_of-requires-clause-vertex : goal.kind_of-requires-clause-vertex
kind_of-requires-clause-vertex c =
    held c.self.inside.part c.self.inside.weighted c.self.inside.cuts c.self.inside.rows _ c.args.v c.self.invariant
    (subst (λ (p : PartView). Owns p c.args.v) (sym c.self.view_is) c.requires.vertex)
