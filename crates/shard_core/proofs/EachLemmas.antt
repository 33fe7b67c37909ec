-- Walkers of a list that become others, one after another.
use Rattle.std.proofs.Common.{◌≡◌, ◌<◌, ◌≤◌, ◌+◌, ℕ, List, length, set, get_or, refl, sym, ◌∙◌, inl, inr, arith}
use Rattle.std.proofs.lemmas.Bool.{cases_eq}
use Rattle.std.proofs.lemmas.List.{get_or-set_same, get_or-set_other, get_or_default, length-set}
use Rattle.traveller.specs.Walkers.{Walker}
use Rattle.shard_core.specs.Abreast.{EachBecomes}

-- each walker before a place has become another, and those from it on are as they were
pub record AreSoFar (R : Walker → Walker → Type 0) (i : ℕ) (olds news : List Walker) : Type 0 where
  pub long : length news ≡ length olds
  pub before : (k : ℕ) (d : Walker) → k < i → k < length olds → R (get_or olds k d) (get_or news k d)
  pub behind : (k : ℕ) (d : Walker) → i ≤ k → get_or news k d ≡ get_or olds k d

-- at first none has
pub so-far-none : (R : Walker → Walker → Type 0) (ws : List Walker) → AreSoFar R 0 ws ws
so-far-none R ws = record {
  long = refl;
  before = λ k d low there. absurd (omega (arith, low));
  behind = λ k d late. refl;
}

-- one more
pub so-far-more : (R : Walker → Walker → Type 0) (i : ℕ) (olds news : List Walker) (w d : Walker) → i < length olds
    → AreSoFar R i olds news → R (get_or news i d) w → AreSoFar R (i + 1) olds (set news i w)
so-far-more R i olds news w e low so_far one =
    let there : i < length news = rw so_far.long low in
    record {
      long = length-set news i w ∙ so_far.long;
      before = λ k d early inside.
          elim (cases_eq k i) [
            | inl same ↦
                let at : get_or (set news i w) k d ≡ w = rw same (get_or-set_same news i w d there) in
                let old : get_or olds k d ≡ get_or news i e = rw same (sym (so_far.behind i d (omega arith)) ∙ get_or_default news i d e there) in
                rw (at, old) one
            | inr other ↦
                let at : get_or (set news i w) k d ≡ get_or news k d = get_or-set_other news i k w d other in
                rw at (so_far.before k d (omega (arith, early, other)) inside)
          ];
      behind = λ k d late. get_or-set_other news i k w d (omega (arith, late)) ∙ so_far.behind k d (omega (arith, late));
    }

-- at last all have
pub so-far-all : (R : Walker → Walker → Type 0) (i : ℕ) (olds news : List Walker) → length olds ≤ i → AreSoFar R i olds news → EachBecomes R olds news
so-far-all R i olds news past so_far = (so_far.long, λ k d low. so_far.before k d (omega (arith, past, low)) low)
