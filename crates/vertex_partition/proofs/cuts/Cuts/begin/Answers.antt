use Rattle.std.proofs.Common.{◌≡◌, ◌≤◌, sym, subst}
use Rattle.std.specs.Prelude.{length}
use Rattle.vertex_partition.specs.CutViews.{CutView, begin_of, end_of}
use Rattle.vertex_partition.proofs.CutLemmas.{begin-at, begins-before}
use Rattle.vertex_partition.proofs.cuts.Cuts.begin.Goals as goal

pub returns-else-part-eq0-clause-order : goal.returns-else-part-eq0-clause-order
returns-else-part-eq0-clause-order c =
    let low : c.args.part ≤ length c.self.inside.cuts.items = subst (λ (v : CutView). c.args.part ≤ length v.cuts) (sym c.self.view_is) c.requires in
    let is : c.index.result.now ≡ begin_of c.self.inside.cuts.items c.args.part =
    begin-at c.self.inside.cuts.items c.args.part c.index.result.now c.if-part-eq0.false low c.index.ensures in
    rw (← c.self.view_is)
    (subst (λ n. n ≤ end_of c.self.inside.vertices c.self.inside.cuts.items c.args.part) (sym is)
    (begins-before c.self.inside.vertices c.self.inside.cuts.items c.args.part c.self.invariant low))
