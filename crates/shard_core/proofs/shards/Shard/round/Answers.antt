use Rattle.std.proofs.Common.{map, ap, subst}
use Rattle.csr_store.specs.RowGraph.{RowGraph}
use Rattle.vertex_partition.specs.PartViews.{IsPartOf}
use Rattle.traveller.specs.Standing.{parted}
use Rattle.world_law.specs.Rounds.{IsRound}
use Rattle.shard_core.specs.declared.rounds.Crowd.{Crowd}
use Rattle.shard_core.specs.Crowds.{crowd_data}
use Rattle.shard_core.specs.Items.{item_of}
use Rattle.shard_core.specs.Shards.{ShardView, shard_of}
use Rattle.shard_core.specs.SoundWorlds.{flight_of}
use Rattle.shard_core.proofs.RoundLemmas.{round-kept}
use Rattle.shard_core.proofs.shards.Shard.round.Goals as goal

pub returns-clause-round : goal.returns-clause-round
returns-clause-round c =
    let s = c.self.inside in
    let before : Crowd = record { ready = c.replace.result; waiting = c.replace-2.result; ended = c.replace-3.result; aside = c.replace-4.result } in
    let made : (g : RowGraph) → IsPartOf g s.part
    → IsRound (parted g s.run s.part.cuts) (crowd_data s.part before s.prints.prints) (map item_of c.args.arrivals.items)
    (crowd_data s.part c.in_ok-crowd.crowd c.make_round.new.prints.prints) (flight_of c.in_ok-crowd.out.items) =
    rw c.of-here.ensures at c.in_ok-crowd.ensures.round in
    subst (λ (v : ShardView). (g : RowGraph) → IsPartOf g v.part
    → IsRound (parted g v.run v.part.cuts) (shard_of v) (map item_of c.args.arrivals.items)
    (crowd_data s.part c.in_ok-crowd.crowd c.make_round.new.prints.prints) (flight_of c.in_ok-crowd.out.items)) c.self.view_is
    (λ g of.
    round-kept g s.run s.part s.ready.items s.waiting.items s.ended.items s.aside.items before s.prints.prints (map item_of c.args.arrivals.items)
    (crowd_data s.part c.in_ok-crowd.crowd c.make_round.new.prints.prints) (flight_of c.in_ok-crowd.out.items)
    (ap (λ v. v.items) c.replace.ensures.value) (ap (λ v. v.items) c.replace-2.ensures.value) (ap (λ v. v.items) c.replace-3.ensures.value)
    (ap (λ v. v.items) c.replace-4.ensures.value) (made g of))
