use Rattle.std.proofs.Common.{◌<◌, ◌∙◌, length, get_or, arith}
use Rattle.shard_core.proofs.AbreastLemmas.{turn-halves}
use Rattle.shard_core.proofs.abreast.turn_each.Goals as goal

pub returns-clause-turned : goal.returns-clause-turned
returns-clause-turned g c =
    let decided = rw c.look_ahead.ensures at c.decide_each.ensures in
    let gone = c.go_each.ensures in (
      gone.0 ∙ decided.0,
      λ k d low.
          (let there : k < length c.decide_each.new.lanes = omega (arith, low, decided.0) in
          turn-halves c.args.here.now.run c.args.here.now.part (get_or c.args.lanes.now k d) (get_or c.decide_each.new.lanes k d) (get_or c.go_each.new.lanes k d)
          (c.requires.ready k d low) (decided.1 k d low) (gone.1 k d there)),
    )
