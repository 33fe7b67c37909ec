use Rattle.vertex_partition.proofs.TablingLemmas.{ones, ones-unweighted}
use Rattle.vertex_partition.proofs.tabling.are_ones.Goals as goal

pub returns-then-not-weighted : goal.returns-then-not-weighted
returns-then-not-weighted c = ones-unweighted c.args.weighted c.args.row.now

pub returns-else-not-weighted : goal.returns-else-not-weighted
returns-else-not-weighted c = λ yes. ones c.args.weighted c.args.row.now (c.have_ones.ensures.0 yes)
