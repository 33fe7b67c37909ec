use Rattle.shard_core.proofs.whole.walk_all.Goals as goal

pub all_walks-requires-clause-all : goal.all_walks-requires-clause-all
all_walks-requires-clause-all c = rw c.of-here.ensures c.requires.all

pub returns : goal.returns
returns c = rw c.of-here.ensures at c.all_walks.ensures
