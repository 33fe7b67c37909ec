use Rattle.std.proofs.Common.{◌≡◌, ◌<◌, List, ℕ, ap, sym, subst, ◌∙◌}
use Rattle.std.specs.Prelude.{All}
use Rattle.walk_model.specs.Graph.{row, ends_of}
use Rattle.vertex_partition.specs.PartViews.{PartView}
use Rattle.shard_core.proofs.LeaveLemmas.{asked-within}
use Rattle.shard_core.proofs.leaving.asks_within.Goals as goal

pub returns : goal.returns
returns c = λ q asks.
    let p : PartView = c.args.here.now.part in
    let same : c.dsts-ends.result.now ≡ ends_of (row p.edges c.args.traveller.now.state.at) =
    c.dsts-ends.ensures.ends ∙ ap (λ (r : PartView). ends_of (row r.edges c.at.result)) c.part.ensures
    ∙ ap (λ n. ends_of (row p.edges n)) c.at.ensures in
    let below : All (λ t. t < p.vertices) c.dsts-ends.result.now = rw c.part.ensures at c.dsts-ends.ensures.below in
    asked-within c.args.here.now.run p c.args.traveller.now q c.requires (subst (All (λ t. t < p.vertices)) same below) asks
