use Rattle.std.proofs.Common.{◌≡◌, ◌+◌, ◌-◌, ◌<◌, ℕ, List, length, map, take, drop, ap, ◌∙◌, arith}
use Rattle.csr_store.specs.declared.heads.Head.{Head}
use Rattle.csr_store.specs.HeadLists.{HeadLists, fresh_head}
use Rattle.csr_store.proofs.HeadLemmas.{start-at, starts-copied}
use Rattle.csr_store.proofs.heads.Heads.copy_of.Goals as goal

pub returns-clause-starts : goal.returns-clause-starts
returns-clause-starts c =
    let heads : List Head = c.self.inside.heads.items in
    let k : ℕ = c.args.first in
    let n : ℕ = c.args.count in
    let from : ℕ = c.index.result.now.start in
    let long = ap (λ (h : HeadLists). length h.starts) c.self.view_is in
    let low : k < length (map (λ (h : Head). h.start) heads) = omega (arith, long, c.requires) in
    let size : k + n + 1 - k ≡ n + 1 = omega arith in
    let piece = ap (λ m. take m (drop k c.deref.result.now)) size ∙ ap (λ (l : List Head). take (n + 1) (drop k l)) c.deref.ensures.value in
    rw (← c.self.view_is)
    (ap (map (λ (h : Head). h.start)) (c.in_ok-heads.ensures ∙ ap (map (λ (h : Head). fresh_head (h.start - from))) piece)
    ∙ starts-copied heads k n from (start-at heads k c.index.result.now low c.index.ensures))
