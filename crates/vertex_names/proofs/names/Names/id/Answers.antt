use Rattle.std.proofs.Common.{◌<◌, ap, sym, ◌∙◌, length, subst, get_or}
use Rattle.std.specs.List.Sorted.{IsStrictlyIncreasing}
use Rattle.std.proofs.lemmas.List.{get_or_default}
use Rattle.vertex_names.proofs.IndexLemmas.{rank_of-at}
use Rattle.vertex_names.proofs.names.Names.id.Goals as goal

pub returns-clause-rank : goal.returns-clause-rank
returns-clause-rank c =
    let inside : c.args.rank < length c.args.self.now = c.requires in
    let read = get_or_default c.args.self.now c.args.rank 0 c.index.result.now inside in
    let up : IsStrictlyIncreasing c.args.self.now = subst IsStrictlyIncreasing c.self.view_is c.self.invariant.rising in
    sym (rank_of-at c.args.self.now c.args.rank c.index.result.now up inside
    (read ∙ ap (λ l. get_or l c.args.rank c.index.result.now) (sym c.self.view_is) ∙ sym c.index.ensures))
