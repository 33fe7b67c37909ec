use Rattle.std.proofs.Common.{◌≡◌, ℕ, List, Some, None, map, sym, ap, ◌∙◌}
use Rattle.std.specs.Prelude.{option_map, slice_index}
use Rattle.request_replies.specs.PartWalks.{part_walk, rank_walk}
use Rattle.request_replies.proofs.engine.PartEngineEngine.walk.Goals as goal

pub returns-in_default : goal.returns-in_default
unfolding part_walk
returns-in_default c =
    let F : ℕ → List ℕ = λ rank. map (slice_index c.args.self.now.names.now) (rank_walk c.args.self.now.here c.args.ask.now.stream rank c.args.ask.now.length) in
    ap (option_map F) (sym c.in_default.is ∙ c.rank.ensures.rank)

pub returns : goal.returns
unfolding part_walk
returns c =
    let F : ℕ → List ℕ = λ rank. map (slice_index c.args.self.now.names.now) (rank_walk c.args.self.now.here c.args.ask.now.stream rank c.args.ask.now.length) in
    ap (λ (w : List ℕ). Some w) (c.of.ensures ∙ c.in_ok-entries.ensures) ∙ ap (option_map F) (sym c.in-Some.is ∙ c.rank.ensures.rank)
