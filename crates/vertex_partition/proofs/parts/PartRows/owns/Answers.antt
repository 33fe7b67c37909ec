use Rattle.std.proofs.Common.{◌≡◌, ◌<◌, true, false, ap, sym, subst, ◌∙◌, arith}
use Rattle.std.specs.Prelude.{nat_le, nat_lt}
use Rattle.std.proofs.lemmas.Bool.Decides.{nat_tests}
use Rattle.vertex_partition.specs.PartViews.{PartView}
use Rattle.vertex_partition.proofs.PartLemmas.{owns-is}
use Rattle.vertex_partition.proofs.parts.PartRows.owns.Goals as goal

pub returns-then-first-v : goal.returns-then-first-v
returns-then-first-v c =
    let low : c.args.v < c.self.inside.rows.vertices = subst (λ (p : PartView). c.args.v < p.vertices) (sym c.self.view_is) c.requires in
    let all = owns-is c.self.inside.part c.self.inside.weighted c.self.inside.cuts c.self.inside.rows _ c.args.v c.self.invariant low in
    let below = c.if-first-v.true in
    let first = c.first.ensures.first in
    let from : nat_le c.self.inside.rows.first c.args.v ≡ true = grind (arith, nat_tests) in
    rw (← c.self.view_is) (ap (nat_lt c.args.v) c.end.ensures.end ∙ rw from at all)

pub returns-else-first-v : goal.returns-else-first-v
returns-else-first-v c =
    let low : c.args.v < c.self.inside.rows.vertices = subst (λ (p : PartView). c.args.v < p.vertices) (sym c.self.view_is) c.requires in
    let all = owns-is c.self.inside.part c.self.inside.weighted c.self.inside.cuts c.self.inside.rows _ c.args.v c.self.invariant low in
    let above = c.if-first-v.false in
    let first = c.first.ensures.first in
    let from : nat_le c.self.inside.rows.first c.args.v ≡ false = grind (arith, nat_tests) in
    let here : nat_le c.first.result c.args.v ≡ false = grind (arith, nat_tests) in
    rw (← c.self.view_is) (here ∙ rw from at all)
