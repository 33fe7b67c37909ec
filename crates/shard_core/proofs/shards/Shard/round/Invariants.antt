use Rattle.shard_core.proofs.shards.Shard.round.Given as goal

abbrev pub ghosts-make_round : goal.ghosts-make_round
ghosts-make_round a = record { name = a.blank.name; parts = a.blank.parts }
