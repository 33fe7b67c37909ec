use Rattle.std.proofs.Common.{◌≡◌, sym, ◌∙◌}
use Rattle.walk_cli.proofs.run.Goals as goal

pub returns-in-Ok-clause-fault : goal.returns-in-Ok-clause-fault
returns-in-Ok-clause-fault g c = rw (c.in-Ok.is, ← c.deref.ensures.value)
    (λ no bad. (let h = c.run_words.ensures.fault no (λ z. bad (c.from.ensures ∙ z)) in (h.0, h.1 ∙ sym c.from.ensures, h.2, h.3)))
