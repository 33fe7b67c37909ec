use Rattle.std.proofs.Common.{map, ap, ◌∙◌}
use Rattle.csr_store.specs.declared.heads.Head.{Head}
use Rattle.csr_store.proofs.HeadLemmas.{starts-made}
use Rattle.csr_store.proofs.heads.Heads.of.Goals as goal

pub returns-clause-starts : goal.returns-clause-starts
returns-clause-starts c =
    ap (map (λ (h : Head). h.start)) c.in_ok-heads.ensures ∙ starts-made c.args.starts.now
