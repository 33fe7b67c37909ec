use Rattle.shard_core.specs.declared.worlds.World.{World}
use Rattle.std.proofs.Common.{refl}
use Rattle.superstep.proofs.EndLemmas.{end-sound, end-finished}
use Rattle.superstep.proofs.running.finish.Goals as goal

pub returns : goal.returns
returns c h run cuts carried log stands =
    let w : World = record { shards = c.args.shards; flight = c.new.result } in
    c.in_ok-finished.ensures h run cuts
    (end-sound h run cuts w c.args.shards.items carried log refl c.new.ensures.items c.requires stands)
    (end-finished h run cuts w c.args.shards.items carried log refl c.new.ensures.items c.requires stands)
