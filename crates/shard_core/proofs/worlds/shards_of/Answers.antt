use Rattle.std.proofs.Common.{subst, sym, ap, ◌∙◌}
use Rattle.std.specs.Prelude.{All}
use Rattle.std.proofs.lemmas.List.Elements.{All-push}
use Rattle.shard_core.specs.FirstShards.{AreShardsWith, IsEmpty}
use Rattle.shard_core.proofs.BeginLemmas.{shards-more}
use Rattle.shard_core.proofs.worlds.shards_of.Goals as goal

pub loop-part-preserved : goal.loop-part-preserved
loop-part-preserved c =
    let so_far = c.loop-part.invariant in
    let new = c.new.ensures in
    let own = c.in_ok-own.ensures in
    rw c.in_ok-push.ensures.items (record {
      shards = shards-more c.args.run.now c.loop-part.yielded c.loop-part.shards.items c.in-Some.part c.new.result so_far.shards new.part
          (record {
            plan = ap (λ r. r.plan) new.run ∙ own.plan;
            seed = ap (λ r. r.seed) new.run ∙ own.seed;
            vertices = ap (λ r. r.vertices) new.run ∙ own.vertices;
            start = ap (λ r. r.start) new.run ∙ own.start;
          }) new.whole new.aside;
      empty = All-push IsEmpty c.loop-part.shards.items c.new.result so_far.empty (new.residents, new.aside, new.prints);
    })
