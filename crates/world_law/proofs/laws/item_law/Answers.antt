use Rattle.world_law.proofs.ItemLaws.{aside-first, comes-first, goes-first}
use Rattle.world_law.proofs.laws.item_law.Goals as goal

pub returns-clause-aside : goal.returns-clause-aside
returns-clause-aside c = aside-first

pub returns-clause-comes : goal.returns-clause-comes
returns-clause-comes c = comes-first

pub returns-clause-goes : goal.returns-clause-goes
returns-clause-goes c = goes-first
