use Rattle.std.proofs.Common.{refl}
use Rattle.shard_core.specs.declared.leaving.Left.{Left}
use Rattle.shard_core.proofs.LeaveLemmas.{over-stands, ended-left, ended-same}
use Rattle.shard_core.proofs.leaving.Left.end.Goals as goal

pub returns-clause-left : goal.returns-clause-left
returns-clause-left c =
    let next : Left = record { waiting = c.args.self.now.waiting; ended = c.push.new.self; out = c.args.self.now.out } in
    ended-left c.args.here.now.run c.args.here.now.part c.args.self.now next c.args.traveller
    (record { stands = over-stands c.args.here.now.run c.args.here.now.part c.args.traveller c.requires.turned c.requires.over; over = c.requires.over })
    refl c.in_ok-push.ensures.items refl c.requires.left

pub returns-clause-same : goal.returns-clause-same
returns-clause-same c =
    let next : Left = record { waiting = c.args.self.now.waiting; ended = c.push.new.self; out = c.args.self.now.out } in
    ended-same c.args.here.now.run c.args.here.now.part c.args.self.now next c.args.traveller c.requires.over refl c.in_ok-push.ensures.items refl
