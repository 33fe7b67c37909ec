-- Where rows start, and what is marked beside them.
use Rattle.std.specs.Prelude.{ℕ, ◌+◌, ◌-◌, List, map, take, drop, slice_index}
use Rattle.csr_store.specs.declared.heads.Head.{Head}

-- where each row starts and the last one ends, and the mark beside each
pub record HeadLists : Type 0 where
  pub starts : List ℕ
  pub marks : List ℕ

-- the starts and the marks of heads
abbrev pub lists_of : List Head → HeadLists
lists_of heads = record { starts = map (λ h. h.start) heads; marks = map (λ h. h.mark) heads }

-- a head whose mark isn't set yet
abbrev pub fresh_head : ℕ → Head
fresh_head start = record { start = start; mark = 0 }

-- the starts of n rows from row k on, counted from the first of them
abbrev pub starts_from : List ℕ → ℕ → ℕ → List ℕ
starts_from starts k n = map (λ p. p - slice_index starts k) (take (n + 1) (drop k starts))
