-- Heads, and the lists that are seen of them.
use Rattle.std.proofs.Common.{◌≡◌, ℕ, ◌+◌, ◌-◌, ◌<◌, List, length, map, set, get_or, take, drop, arith, ap, sym, ◌∙◌}
use Rattle.std.specs.Prelude.{slice_index}
use Rattle.std.proofs.lemmas.List.{length-map, get_or-map, take-map, drop-map}
use Rattle.std.proofs.Math.Seq.{map-set_same}
use Rattle.csr_store.specs.declared.heads.Head.{Head}
use Rattle.csr_store.specs.HeadLists.{fresh_head, starts_from}
use Rattle.csr_store.proofs.ListLemmas.{map-map, map-itself}

-- heads made of starts have these
pub starts-made : (starts : List ℕ) → map (λ (h : Head). h.start) (map fresh_head starts) ≡ starts
starts-made starts =
    map-map (λ (h : Head). h.start) fresh_head starts ∙ map-itself (λ (p : ℕ). p) (λ p _. p) starts

-- heads made of others have their starts, counted from a place
moved : (heads : List Head) (from : ℕ)
    → map (λ (h : Head). h.start) (map (λ (h : Head). fresh_head (h.start - from)) heads)
    ≡ map (λ p. p - from) (map (λ (h : Head). h.start) heads)
moved heads from =
    map-map (λ (h : Head). h.start) (λ (h : Head). fresh_head (h.start - from)) heads
    ∙ sym (map-map (λ p. p - from) (λ (h : Head). h.start) heads)

-- the start of a head is that of its place
pub start-at : (heads : List Head) (i : ℕ) (h : Head) → i < length (map (λ (e : Head). e.start) heads) → h ≡ get_or heads i h
    → h.start ≡ slice_index (map (λ (e : Head). e.start) heads) i
start-at heads i h low is =
    ap (λ (e : Head). e.start) is
    ∙ sym (get_or-map (λ (e : Head). e.start) heads i h 0 (let long = length-map heads (λ (e : Head). e.start) in omega (arith, low, long)))

-- the starts of some heads made of others
pub starts-copied : (heads : List Head) (k n from : ℕ) → from ≡ slice_index (map (λ (h : Head). h.start) heads) k
    → map (λ (h : Head). h.start) (map (λ (h : Head). fresh_head (h.start - from)) (take (n + 1) (drop k heads)))
    ≡ starts_from (map (λ (h : Head). h.start) heads) k n
starts-copied heads k n from is =
    moved (take (n + 1) (drop k heads)) from
    ∙ ap (map (λ p. p - from)) (sym (take-map (λ (h : Head). h.start) (n + 1) (drop k heads)))
    ∙ ap (λ l. map (λ p. p - from) (take (n + 1) l)) (sym (drop-map (λ (h : Head). h.start) k heads))
    ∙ ap (λ m. map (λ p. p - m) (take (n + 1) (drop k (map (λ (h : Head). h.start) heads)))) is

-- a head with another mark leaves the starts
pub starts-kept : (heads : List Head) (i : ℕ) (h d : Head) → h.start ≡ (get_or heads i d).start
    → map (λ (e : Head). e.start) (set heads i h) ≡ map (λ (e : Head). e.start) heads
starts-kept heads i h d same = map-set_same (λ (e : Head). e.start) heads i h d same
