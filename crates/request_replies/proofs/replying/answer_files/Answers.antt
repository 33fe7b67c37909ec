use Rattle.request_replies.proofs.replying.answer_files.Goals as goal

pub invariant_of-engine : goal.invariant_of-engine
invariant_of-engine g c = record { all = rw c.of.ensures c.requires.all; named = rw c.of.ensures c.requires.named }
