use Rattle.std.proofs.Common.{◌≡◌, ◌≤◌, ◌<◌, ◌+◌, ◌++◌, ◌∷◌, [], ℕ, List, length, map, set, subst, sym, ap, ◌∙◌, arith}
use Rattle.std.specs.Prelude.{sum_by}
use Rattle.walk_model.specs.Cuts.{owner}
use Rattle.walk_model.specs.Walk.{walker_count}
use Rattle.traveller.specs.Ahead.{print_of}
use Rattle.traveller.specs.PartedRuns.{PartedRun}
use Rattle.traveller.specs.Standing.{IsWithin, parted}
use Rattle.traveller.specs.Walkers.{Walker}
use Rattle.world_law.specs.Histories.{starters}
use Rattle.world_law.specs.Worlds.{Same, all_pieces}
use Rattle.shard_core.specs.Shards.{ShardView, shard_of}
use Rattle.shard_core.specs.SoundWorlds.{IsSameRun}
use Rattle.shard_core.proofs.BeginLemmas.{cuts-told, owner-low, owner-told, shard-at, shards-set, started-none, started-more, true-at, world-begun}
use Rattle.shard_core.proofs.worlds.World.begin.Goals as goal

pub loop-number-init : goal.loop-number-init
loop-number-init c = record {
  shards = c.in_ok-shards.ensures.shards;
  starts = λ g cuts of. started-none (parted g c.args.run cuts) c.in_ok-shards.shards.items c.in_ok-shards.ensures.empty;
}

pub index_mut-requires : goal.index_mut-requires
index_mut-requires c =
    let k : ℕ = c.owner-owner.result in
    let most = subst (λ (s : ShardView). k ≤ length s.part.cuts) c.behind-shards.view_is c.owner-owner.ensures.part in
    let low = owner-low c.args.parts.items c.requires.parts c.loop-number.shards.items k c.index.result.now c.loop-number.invariant.shards.parts c.index.ensures most in
    omega (arith, low, c.loop-number.shards.ok.0)

pub admit-requires-clause-within : goal.admit-requires-clause-within
admit-requires-clause-within c =
    let k : ℕ = c.owner-owner.result in
    let ss : List ShardView = c.loop-number.shards.items in
    let most = subst (λ (s : ShardView). k ≤ length s.part.cuts) c.behind-shards.view_is c.owner-owner.ensures.part in
    let low = owner-low c.args.parts.items c.requires.parts ss k c.index.result.now c.loop-number.invariant.shards.parts c.index.ensures most in
    let same = true-at (λ (s : ShardView). IsSameRun s.run c.args.run) ss k c.index_mut.result.now low c.index_mut.ensures.value c.loop-number.invariant.shards.runs in
    subst (λ n. IsWithin n c.traveller_of-traveller.result) (sym same.vertices) c.traveller_of-traveller.ensures.within

pub admit-requires-clause-owned : goal.admit-requires-clause-owned
admit-requires-clause-owned c =
    let k : ℕ = c.owner-owner.result in
    let ss : List ShardView = c.loop-number.shards.items in
    let parts = c.loop-number.invariant.shards.parts in
    let most = subst (λ (s : ShardView). k ≤ length s.part.cuts) c.behind-shards.view_is c.owner-owner.ensures.part in
    let told = subst (λ (s : ShardView). k ≡ owner s.part.cuts c.at.result) c.behind-shards.view_is c.owner-owner.ensures.owner in
    let low = owner-low c.args.parts.items c.requires.parts ss k c.index.result.now parts c.index.ensures most in
    let here = shard-at c.args.parts.items c.requires.parts ss k c.index_mut.result.now parts low c.index_mut.ensures.value in
    ap (λ cuts. owner cuts c.traveller_of-traveller.result.state.at) here.1
    ∙ ap (owner c.requires.parts.cuts) (sym c.at.ensures)
    ∙ sym (owner-told c.args.parts.items c.requires.parts ss k c.at.result c.index.result.now parts c.index.ensures told)
    ∙ sym here.0

pub loop-number-preserved : goal.loop-number-preserved
loop-number-preserved c =
    let k : ℕ = c.owner-owner.result in
    let n : ℕ = c.loop-number.number in
    let ss : List ShardView = c.loop-number.shards.items in
    let old : ShardView = c.index_mut.result.now in
    let new : ShardView = c.admit.new.self in
    let shards = c.loop-number.invariant.shards in
    let admitted = c.in_ok-admit.ensures in
    let first = c.traveller_of-traveller.ensures.first in
    let most = subst (λ (s : ShardView). k ≤ length s.part.cuts) c.behind-shards.view_is c.owner-owner.ensures.part in
    let told = subst (λ (s : ShardView). k ≡ owner s.part.cuts c.at.result) c.behind-shards.view_is c.owner-owner.ensures.owner in
    let low = owner-low c.args.parts.items c.requires.parts ss k c.index.result.now shards.parts c.index.ensures most in
    let here = shard-at c.args.parts.items c.requires.parts ss k old shards.parts low c.index_mut.ensures.value in
    record {
      shards = shards-set c.args.run c.args.parts.items ss k old new low c.index_mut.ensures.value admitted.run admitted.part admitted.whole admitted.aside shards;
      starts = λ g cuts of.
          let r : PartedRun = parted g c.args.run cuts in
          let owned : owner cuts (r.start n) ≡ k =
          ap (λ cs. owner cs (r.start n)) (sym (cuts-told g c.args.run.plan.weighted cuts c.args.parts.items c.requires.parts of))
          ∙ ap (λ (w : Walker). owner c.requires.parts.cuts w.state.at) (sym first)
          ∙ ap (owner c.requires.parts.cuts) (sym c.at.ensures)
          ∙ sym (owner-told c.args.parts.items c.requires.parts ss k c.at.result c.index.result.now shards.parts c.index.ensures told) in
          subst (λ (w : Walker). ((f : Walker → ℕ) → sum_by f new.residents ≡ sum_by f old.residents + f w) → new.prints ≡ old.prints ++ print_of w ∷ []
          → Same (all_pieces (map shard_of (set ss k new))) (starters r (n + 1))) (sym first)
          (λ residents prints. started-more r n k ss old new low c.index_mut.ensures.value here.0 owned admitted.part admitted.aside residents prints
          (c.loop-number.invariant.starts g cuts of))
          admitted.residents admitted.prints;
    }

pub returns : goal.returns
returns c = λ g cuts of.
    (let r : PartedRun = parted g c.args.run cuts in
    let all : c.loop-number.number ≡ walker_count c.args.run.plan.start c.args.run.vertices =
    omega (arith, c.loop-number-test.false, c.loop-number.auto.number-end) ∙ c.walkers-number-end.ensures in
    world-begun g c.args.run cuts c.args.parts.items (record { shards = c.loop-number.shards; flight = c.new.result }) of c.loop-number.invariant.shards c.new.ensures.items
    (subst (λ n. Same (all_pieces (map shard_of c.loop-number.shards.items)) (starters r n)) all (c.loop-number.invariant.starts g cuts of)))
