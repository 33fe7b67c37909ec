use Rattle.std.proofs.Common.{◌≡◌, ◌<◌, ◌≤◌, ℕ, List, length, map, replicate, ap, sym, subst, ◌∙◌, arith, rules}
use Rattle.std.specs.Prelude.{All, sum_by}
use Rattle.std.specs.List.{flat_map}
use Rattle.std.proofs.lemmas.List.{length-map, length-replicate}
use Rattle.std.proofs.lemmas.List.Elements.{All-replicate}
use Rattle.std.proofs.lemmas.Result.{IfOk-weaker}
use Rattle.traveller.specs.PartedRuns.{PartedRun}
use Rattle.traveller.specs.Standing.{parted}
use Rattle.traveller.specs.Walkers.{Walker}
use Rattle.shard_core.specs.Counted.{count_walks}
use Rattle.shard_core.specs.Gathered.{AreAllPrints}
use Rattle.shard_core.specs.Shards.{ShardView}
use Rattle.shard_core.specs.SoundWorlds.{IsSameRun, world_data}
use Rattle.shard_core.specs.Walks.{walks_in}
use Rattle.shard_core.proofs.EntryLemmas.{counts-walks, length-count_walks, prints-seen, residents-seen, some-count_walks, world-all}
use Rattle.shard_core.proofs.FinishLemmas.{whole-write}
use Rattle.shard_core.proofs.worlds.World.finish.Goals as goal

pub finish-requires : goal.finish-requires
finish-requires c =
    let n : ℕ = c.walkers_of.result in
    let vs : List Walker = flat_map (λ (s : ShardView). s.residents) c.deref-2.result.now in
    let ones : c.in_ok-counts.counts.items ≡ replicate n 1 = search rules in
    let made : c.count_in_shards.new.counts ≡ count_walks (replicate n 1) vs =
    c.count_in_shards.ensures ∙ ap (λ (l : List ℕ). count_walks l vs) (c.deref_mut.ensures.value ∙ ones) in
    let size : length c.count_in_shards.new.counts ≡ c.in_ok-counts.counts.len =
    ap length made ∙ length-count_walks (replicate n 1) vs ∙ length-replicate n 1 ∙ sym c.in_ok-counts.ensures.len in
    let now : c.deref-3.result.now ≡ count_walks (replicate n 1) vs =
    c.deref-3.ensures.value ∙ whole-write c.in_ok-counts.counts.len c.count_in_shards.new.counts c.in_ok-counts.counts.items size ∙ made in
    subst (All (λ k. 1 ≤ k)) (sym now) (some-count_walks (replicate n 1) vs (All-replicate (λ k. 1 ≤ k) n 1 (omega arith)))

pub returns : goal.returns
returns c =
    let n : ℕ = c.walkers_of.result in
    let vs : List Walker = flat_map (λ (s : ShardView). s.residents) c.deref-2.result.now in
    let ones : c.in_ok-counts.counts.items ≡ replicate n 1 = search rules in
    let made : c.count_in_shards.new.counts ≡ count_walks (replicate n 1) vs =
    c.count_in_shards.ensures ∙ ap (λ (l : List ℕ). count_walks l vs) (c.deref_mut.ensures.value ∙ ones) in
    let size : length c.count_in_shards.new.counts ≡ c.in_ok-counts.counts.len =
    ap length made ∙ length-count_walks (replicate n 1) vs ∙ length-replicate n 1 ∙ sym c.in_ok-counts.ensures.len in
    let now : c.deref-3.result.now ≡ count_walks (replicate n 1) vs =
    c.deref-3.ensures.value ∙ whole-write c.in_ok-counts.counts.len c.count_in_shards.new.counts c.in_ok-counts.counts.items size ∙ made in
    IfOk-weaker c.finish.result _ _
    (λ f is g run cuts sound over.
    (let r : PartedRun = parted g run cuts in
    let ss : List ShardView = c.args.self.shards.items in
    let some : 0 < length ss =
    (let count = sound.shards.parts.count in let many = length-map ss (λ (s : ShardView). s.part) in omega (arith, count, many)) in
    let long : length (replicate n 1) ≡ r.walkers =
    length-replicate n 1
    ∙ c.walkers_of.ensures run (subst (λ (l : List ShardView). 0 < length l) (sym c.deref.ensures.value) some)
    (subst (All (λ (s : ShardView). IsSameRun s.run run)) (sym c.deref.ensures.value) sound.shards.runs) in
    let all : AreAllPrints (walks_in r) (flat_map (λ k. k.prints) c.in_ok-kept.kept.items) =
    λ h. ap (sum_by h) (c.in_ok-kept.ensures ∙ sym (prints-seen ss)) ∙ world-all r (world_data c.args.self) sound.sound over h in
    is (walks_in r) all
    (counts-walks r (world_data c.args.self) (replicate n 1) sound.sound over long ∙ ap (count_walks (replicate n 1)) (residents-seen ss)
    ∙ ap (λ (l : List ShardView). count_walks (replicate n 1) (flat_map (λ (s : ShardView). s.residents) l)) (sym c.deref-2.ensures.value)
    ∙ sym now)))
    c.finish.ensures
