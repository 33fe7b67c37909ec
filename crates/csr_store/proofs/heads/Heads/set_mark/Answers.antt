use Rattle.std.proofs.Common.{ap}
use Rattle.std.proofs.lemmas.List.{map-set}
use Rattle.csr_store.specs.declared.heads.Head.{Head}
use Rattle.csr_store.proofs.HeadLemmas.{starts-kept}
use Rattle.csr_store.proofs.heads.Heads.set_mark.Goals as goal

pub returns-clause-starts : goal.returns-clause-starts
returns-clause-starts c =
    rw (← c.self.view_is)
    (starts-kept c.self.inside.heads.items c.args.row (record { start = c.index.result.now.start; mark = c.args.mark }) c.index.result.now
    (ap (λ (h : Head). h.start) c.index.ensures))

pub returns-clause-marks : goal.returns-clause-marks
returns-clause-marks c =
    rw (← c.self.view_is)
    (map-set (λ (h : Head). h.mark) c.self.inside.heads.items c.args.row (record { start = c.index.result.now.start; mark = c.args.mark }))
