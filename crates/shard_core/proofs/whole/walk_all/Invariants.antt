use Rattle.shard_core.proofs.whole.walk_all.Given as goal

abbrev pub ghosts-all_walks : goal.ghosts-all_walks
ghosts-all_walks a = record { name = a.blank.name; parts = a.blank.parts }
