use Rattle.std.proofs.Common.{ap, ◌∙◌, map}
use Rattle.shard_core.specs.Offers.{sent_home}
use Rattle.shard_core.proofs.ArriveLemmas.{answers-sent}
use Rattle.shard_core.proofs.arriving.answer_all.Goals as goal

pub returns-clause-replies : goal.returns-clause-replies
returns-clause-replies g c =
    c.in_ok-out.ensures ∙ ap (λ n. map (sent_home n) c.in_ok-replies.replies.items) c.part.ensures.part
    ∙ answers-sent c.args.part.now c.args.asks.items c.in_ok-replies.replies.items c.in_ok-replies.ensures.replies
