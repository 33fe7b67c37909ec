use Rattle.world_law.proofs.FinishLemmas.{unfinished-le, unfinished_of-le, kept-prints, prints-over, finish-prints, world-prints}
use Rattle.world_law.proofs.laws.finish_law.Goals as goal

pub returns-clause-onward : goal.returns-clause-onward
returns-clause-onward c = unfinished-le

pub returns-clause-prints : goal.returns-clause-prints
returns-clause-prints c = finish-prints

pub returns-clause-kept : goal.returns-clause-kept
returns-clause-kept c = kept-prints

pub returns-clause-over : goal.returns-clause-over
returns-clause-over c = prints-over

pub returns-clause-world : goal.returns-clause-world
returns-clause-world c = world-prints

pub returns-clause-each : goal.returns-clause-each
returns-clause-each c = unfinished_of-le
