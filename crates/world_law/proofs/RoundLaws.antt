-- Rounds of several shards, side by side.
use Rattle.std.proofs.Common.{◌≡◌, ℕ, suc, ◌+◌, ◌≤◌, Bool, true, false, List, [], ◌∷◌, ◌++◌, map, refl, arith, subst}
use Rattle.std.specs.Prelude.{sum_by, All, ◌==◌, if◌then◌else◌}
use Rattle.std.proofs.lemmas.List.{append_assoc}
use Rattle.std.proofs.lemmas.List.Sums.{sum_by-append, sum_by-cons}
use Rattle.traveller.specs.PartedRuns.{PartedRun}
use Rattle.traveller.specs.Walkers.{Walker, is_ready}
use Rattle.world_law.specs.Items.{Item}
use Rattle.world_law.specs.Worlds.{Piece, Resident, Aside, Printed, Comes, Goes, shard_pieces, Same, Each}
use Rattle.world_law.specs.Soundness.{of_walker, IsTruePiece, IsSound}
use Rattle.world_law.specs.LettersAhead.{piece_ahead, of_come, of_gone}
use Rattle.world_law.specs.Finishing.{unfinished_of, ready_of}
use Rattle.world_law.specs.Rounds.{Rounded, rounds_before, rounds_after}
use Rattle.world_law.proofs.LeadLemmas.{sound-same, each-front, each-back, becomes-given}
use Rattle.world_law.proofs.FinishLemmas.{unfinished_of-le}
use Rattle.world_law.proofs.BecomeLemmas.{becomes-sound}

-- rounds of several shards side by side keep a sound world sound, with all that stays beside them
pub rounds-sound : (g : PartedRun) (rs : List (Rounded g)) (others : List Piece) → IsSound g (rounds_before rs ++ others)
    → IsSound g (rounds_after rs ++ others)
rounds-sound g [] others h = h
rounds-sound g (r ∷ rs) others h =
    let before = shard_pieces r.before ++ map Comes r.arrivals in
    let after = shard_pieces r.after ++ map Goes r.out in
    let first : IsSound g (before ++ (rounds_before rs ++ others)) =
    subst (IsSound g) (append_assoc before (rounds_before rs) others) h in
    let made = becomes-sound g r.before.part before after (rounds_before rs ++ others) r.round.becomes first in
    let turned : Same (after ++ (rounds_before rs ++ others)) (rounds_before rs ++ (after ++ others)) = λ w.
    omega (
      arith,
      sum_by-append w after (rounds_before rs ++ others),
      sum_by-append w (rounds_before rs) others,
      sum_by-append w (rounds_before rs) (after ++ others),
      sum_by-append w after others,
    ) in
    let later = rounds-sound g rs (after ++ others) (sound-same g _ _ turned made) in
    sound-same g _ _
    (λ w. omega (
      arith,
      sum_by-append w (rounds_after rs) (after ++ others),
      sum_by-append w after others,
      sum_by-append w (after ++ rounds_after rs) others,
      sum_by-append w after (rounds_after rs),
    ))
    later

-- together they give out as many letters of a walker as there are fewer ahead that have not come
pub rounds-given : (g : PartedRun) (i : ℕ) (rs : List (Rounded g)) → Each (IsTruePiece g) (rounds_before rs)
    → sum_by (piece_ahead g i) (rounds_after rs) + sum_by (of_come i) (rounds_before rs)
    ≡ sum_by (piece_ahead g i) (rounds_before rs) + sum_by (of_come i) (rounds_after rs)
rounds-given g i [] h = refl
rounds-given g i (r ∷ rs) h =
    let before = shard_pieces r.before ++ map Comes r.arrivals in
    let after = shard_pieces r.after ++ map Goes r.out in
    let mine = becomes-given g r.before.part i before after r.round.becomes (each-front g before (rounds_before rs) h) in
    let later = rounds-given g i rs (each-back g before (rounds_before rs) h) in
    omega (
      arith,
      sum_by-append (piece_ahead g i) before (rounds_before rs),
      sum_by-append (piece_ahead g i) after (rounds_after rs),
      sum_by-append (of_come i) before (rounds_before rs),
      sum_by-append (of_come i) after (rounds_after rs),
    )

-- residents of whom none can go on, and pieces of other kinds
unready-none : (i k : ℕ) (vs : List Walker) → All (λ v. is_ready v.mode ≡ false) vs → sum_by (ready_of i) (map (Resident k) vs) ≡ 0
unready-none i k [] h = refl
unready-none i k (v ∷ vs) h =
    let first : ready_of i (Resident k v) ≡ 0 = none (v.number == i) (is_ready v.mode) (h 0 v (omega arith)) in
    let later = unready-none i k vs (λ j d less. h (suc j) d (omega (arith, less))) in
    omega (arith, sum_by-cons (ready_of i) (Resident k v) (map (Resident k) vs), first, later)
  where
    none : (b c : Bool) → c ≡ false → ◌≡◌ {A = ℕ} (if b then (if c then 1 else 0) else 0) 0
    none b true e = absurd (cc)
    none true false e = refl
    none false false e = refl

no_walker-none : {X : Type 0} (i : ℕ) (f : X → Piece) (xs : List X) → ((x : X) → ready_of i (f x) ≡ 0) → sum_by (ready_of i) (map f xs) ≡ 0
no_walker-none i f [] h = refl
no_walker-none i f (x ∷ xs) h = omega (arith, h x, no_walker-none i f xs h, sum_by-cons (ready_of i) (f x) (map f xs))

-- after rounds no resident can go on
rounds-unready : (g : PartedRun) (i : ℕ) (rs : List (Rounded g)) → sum_by (ready_of i) (rounds_after rs) ≡ 0
rounds-unready g i [] = refl
rounds-unready g i (r ∷ rs) =
    let s = r.after in
    let kept = map (Aside s.part) s.aside ++ map (Printed s.part) s.prints in
    omega (
      arith,
      sum_by-append (ready_of i) (shard_pieces s ++ map Goes r.out) (rounds_after rs),
      sum_by-append (ready_of i) (shard_pieces s) (map Goes r.out),
      sum_by-append (ready_of i) (map (Resident s.part) s.residents) kept,
      sum_by-append (ready_of i) (map (Aside s.part) s.aside) (map (Printed s.part) s.prints),
      unready-none i s.part s.residents r.round.unready,
      no_walker-none i (Aside s.part) s.aside (λ m. refl),
      no_walker-none i (Printed s.part) s.prints (λ p. refl),
      no_walker-none i Goes r.out (λ m. refl),
      rounds-unready g i rs,
    )

-- after rounds of all shards each unfinished walker has an item of its own
pub rounds-onward : (g : PartedRun) (i : ℕ) (rs : List (Rounded g)) (held : List Item) → IsSound g (rounds_before rs ++ map Comes held)
    → sum_by (of_walker (unfinished_of i)) (rounds_after rs ++ map Comes held)
    ≤ sum_by (of_come i) (rounds_after rs ++ map Comes held) + sum_by (of_gone i) (rounds_after rs ++ map Comes held)
rounds-onward g i rs held h =
    let after = rounds-sound g rs (map Comes held) h in
    omega (
      arith,
      unfinished_of-le g i (rounds_after rs ++ map Comes held) after,
      sum_by-append (ready_of i) (rounds_after rs) (map Comes held),
      rounds-unready g i rs,
      no_walker-none i Comes held (λ m. refl),
    )
