use Rattle.walker_mail.specs.Packing.{IsPacking}
use Rattle.walker_mail.proofs.packing.add_all.Given as goal

abbrev pub invariant-loop-addressed : goal.invariant-loop-addressed
invariant-loop-addressed g l = IsPacking l.from l.limit l.yielded l.packing.full.items l.packing.last.items
