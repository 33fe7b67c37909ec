use Rattle.std.proofs.Common.{◌<◌, ◌-◌, ap, ◌∙◌, length, arith}
use Rattle.vertex_names.specs.Ranks.{rank_of}
use Rattle.vertex_names.proofs.IndexLemmas.{rank_of-at, rank_of-none}
use Rattle.vertex_names.proofs.names.Names.rank.Goals as goal

pub returns-then-id-self-clause-rank : goal.returns-then-id-self-clause-rank
returns-then-id-self-clause-rank c =
    rank_of-none _ c.args.id (λ k h is.
    (let least = c.self.invariant.least k 0 h in omega arith))
    ∙ ap (λ l. rank_of l c.args.id) c.self.view_is

pub returns-then-offset-len-clause-rank : goal.returns-then-offset-len-clause-rank
returns-then-offset-len-clause-rank c =
    let inside : c.args.id - c.self.inside.first < length c.self.inside.ids.items = omega arith in
    let at = c.self.invariant.close c.if-self.true (c.args.id - c.self.inside.first) inside in
    rank_of-at c.self.inside.ids.items (c.args.id - c.self.inside.first) c.args.id c.self.invariant.rising inside (omega arith)
    ∙ ap (λ l. rank_of l c.args.id) c.self.view_is

pub returns-else-offset-len-clause-rank : goal.returns-else-offset-len-clause-rank
returns-else-offset-len-clause-rank c =
    rank_of-none c.self.inside.ids.items c.args.id (λ k h is.
    (let at = c.self.invariant.close c.if-self.true k h in omega arith))
    ∙ ap (λ l. rank_of l c.args.id) c.self.view_is
