use Rattle.std.proofs.Common.{◌≡◌, subst, sym}
use Rattle.std.specs.Prelude.{All}
use Rattle.std.proofs.lemmas.List.Elements.{All-push}
use Rattle.walk_model.specs.Cuts.{owner}
use Rattle.traveller.specs.Standing.{IsWithin}
use Rattle.shard_core.specs.KeptShards.{IsReadyIn}
use Rattle.shard_core.specs.Shards.{ShardView}
use Rattle.shard_core.proofs.BeginLemmas.{ready-in}
use Rattle.shard_core.proofs.shards.Shard.admit.Goals as goal

pub invariant_of-self-2 : goal.invariant_of-self-2
invariant_of-self-2 c =
    let kept = c.self.invariant in
    let within = subst (λ (s : ShardView). IsWithin s.run.vertices c.args.traveller) (sym c.self.view_is) c.requires.within in
    let owned = subst (λ (s : ShardView). owner s.part.cuts c.args.traveller.state.at ≡ s.part.part) (sym c.self.view_is) c.requires.owned in
    let ready : All (IsReadyIn c.self.inside.run c.self.inside.part) c.push-2.new.self.items =
    subst (All (IsReadyIn c.self.inside.run c.self.inside.part)) (sym c.in_ok-push.ensures.items)
    (All-push (IsReadyIn c.self.inside.run c.self.inside.part) c.self.inside.ready.items c.args.traveller kept.ready
    (ready-in c.self.inside.run c.self.inside.part c.args.traveller kept.suits within owned c.requires.fresh)) in
    assumption (ready, kept)
