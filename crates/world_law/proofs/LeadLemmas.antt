-- Lists of events: what no event changes, a list of events doesn't change.
use Rattle.std.proofs.Common.{◌≡◌, ℕ, ◌+◌, ◌≤◌, Bool, true, false, List, [], ◌∷◌, ◌++◌, refl, sym, ◌∙◌, arith, inl, inr}
use Rattle.std.specs.Prelude.{sum_by, ◌==◌, if◌then◌else◌}
use Rattle.std.proofs.lemmas.List.Sums.{sum_by-cons, sum_by-append}
use Rattle.traveller.specs.PartedRuns.{PartedRun}
use Rattle.traveller.specs.declared.modes.Mode.{Mode}
use Rattle.traveller.specs.declared.modes.Mode.TheVariants.{Fresh, Darts, Asked, AskedRow, Chosen, Over}
use Rattle.traveller.specs.Walkers.{Walker}
use Rattle.traveller.specs.Turns.{advance}
use Rattle.traveller.specs.Replies.{reply_to, hear}
use Rattle.traveller.specs.Ahead.{print_of}
use Rattle.world_law.specs.Items.{Travels, Asks, Replies}
use Rattle.world_law.specs.Worlds.{Piece, Resident, Aside, Printed, Comes, Goes, Same, Each}
use Rattle.world_law.specs.Events.{Event, Arrives, Turns, Enters, Answered, Hears, May, taken_by, given_by, turn_pieces, Leads, Becomes, letter_in}
use Rattle.world_law.specs.Soundness.{of_walker, of_open, of_sent, of_print, steps_made, IsTruePiece, IsSound}
use Rattle.world_law.specs.LettersAhead.{count_ahead, piece_ahead, count_in, of_come}
use Rattle.world_law.proofs.TellLemmas.{Tells, tells_piece}
use Rattle.world_law.proofs.EventLemmas.{event-numbers, event-asks, event-prints}
use Rattle.world_law.proofs.SoundLemmas.{event-true}
use Rattle.world_law.proofs.AheadLemmas.{event-ahead}

-- no event of a part raises the difference of two weights
abbrev pub Lowers : PartedRun → ℕ → (Piece → ℕ) → (Piece → ℕ) → Type 0
Lowers g k h l = (e : Event) → May g k e
    → sum_by h (given_by g k e) + sum_by l (taken_by k e) ≤ sum_by h (taken_by k e) + sum_by l (given_by g k e)

-- no event of a part changes the difference of two weights
abbrev pub Keeps : PartedRun → ℕ → (Piece → ℕ) → (Piece → ℕ) → Type 0
Keeps g k h l = (e : Event) → May g k e
    → sum_by h (given_by g k e) + sum_by l (taken_by k e) ≡ sum_by h (taken_by k e) + sum_by l (given_by g k e)

-- some pieces are worth no more than others by the difference of two weights
abbrev pub IsLower : (Piece → ℕ) → (Piece → ℕ) → List Piece → List Piece → Type 0
IsLower h l before after = sum_by h after + sum_by l before ≤ sum_by h before + sum_by l after

abbrev pub IsKept : (Piece → ℕ) → (Piece → ℕ) → List Piece → List Piece → Type 0
IsKept h l before after = sum_by h after + sum_by l before ≡ sum_by h before + sum_by l after

-- what no event raises, no list of events raises
pub leads-lower : (g : PartedRun) (k : ℕ) (h l : Piece → ℕ) → Lowers g k h l
    → (es : List Event) (before after : List Piece) → Leads g k es before after → IsLower h l before after
unfolding Leads
leads-lower g k h l low [] before after same = omega (arith, same h, same l)
leads-lower g k h l low (e ∷ es) before after step =
    let others = step.0 in
    let rest = leads-lower g k h l low es (given_by g k e ++ others) after step.3 in
    omega (
      arith,
      low e step.1,
      step.2 h,
      step.2 l,
      sum_by-append h (taken_by k e) others,
      sum_by-append l (taken_by k e) others,
      sum_by-append h (given_by g k e) others,
      sum_by-append l (given_by g k e) others,
    )

-- what no event changes, no list of events changes
pub leads-kept : (g : PartedRun) (k : ℕ) (h l : Piece → ℕ) → Keeps g k h l
    → (es : List Event) (before after : List Piece) → Leads g k es before after → IsKept h l before after
unfolding Leads
leads-kept g k h l kept [] before after same = omega (arith, same h, same l)
leads-kept g k h l kept (e ∷ es) before after step =
    let others = step.0 in
    let rest = leads-kept g k h l kept es (given_by g k e ++ others) after step.3 in
    omega (
      arith,
      kept e step.1,
      step.2 h,
      step.2 l,
      sum_by-append h (taken_by k e) others,
      sum_by-append l (taken_by k e) others,
      sum_by-append h (given_by g k e) others,
      sum_by-append l (given_by g k e) others,
    )

-- a round passes its law on by weights
pub becomes-lower : (g : PartedRun) (k : ℕ) (h l : Piece → ℕ) (before after : List Piece) → Lowers g k h l
    → Becomes g k before after → IsLower h l before after
becomes-lower g k h l before after low b = leads-lower g k h l low b.events before after b.leads

pub becomes-kept : (g : PartedRun) (k : ℕ) (h l : Piece → ℕ) (before after : List Piece) → Keeps g k h l
    → Becomes g k before after → IsKept h l before after
becomes-kept g k h l before after kept b = leads-kept g k h l kept b.events before after b.leads

-- 1 where a piece is false
pub false_if : {P : Type 0} → Tells P → ℕ
false_if (inl p) = 0
false_if (inr n) = 1

abbrev pub is_false : PartedRun → Piece → ℕ
is_false g p = false_if (tells_piece g p)

-- two ways to tell the same tell the same
pub false-same : {P : Type 0} (t u : Tells P) → false_if t ≡ false_if u
unfolding false_if
false-same (inl p) (inl q) = refl
false-same (inl p) (inr n) = absurd (n p)
false-same (inr m) (inl q) = absurd (m q)
false-same (inr m) (inr n) = refl

true_of_zero : {P : Type 0} (t : Tells P) → false_if t ≡ 0 → P
unfolding false_if
true_of_zero (inl p) e = p
true_of_zero (inr n) e = absurd (omega arith)

zero_of_true : {P : Type 0} (t : Tells P) → P → false_if t ≡ 0
unfolding false_if
zero_of_true (inl p) h = refl
zero_of_true (inr n) h = absurd (n h)

-- every piece is true exactly where the false ones count to nothing
pub each-from_none : (g : PartedRun) (ps : List Piece) → sum_by (is_false g) ps ≡ 0 → Each (IsTruePiece g) ps
each-from_none g [] e = tt
each-from_none g (p ∷ ps) e =
    let parts = sum_by-cons (is_false g) p ps in
    (true_of_zero (tells_piece g p) (omega arith), each-from_none g ps (omega arith))

pub none-from_each : (g : PartedRun) (ps : List Piece) → Each (IsTruePiece g) ps → sum_by (is_false g) ps ≡ 0
none-from_each g [] h = refl
none-from_each g (p ∷ ps) h =
    let parts = sum_by-cons (is_false g) p ps in
    let here = zero_of_true (tells_piece g p) h.0 in
    let later = none-from_each g ps h.1 in
    omega arith

-- the same pieces in another order are as sound
pub sound-same : (g : PartedRun) (xs ys : List Piece) → Same xs ys → IsSound g xs → IsSound g ys
sound-same g xs ys same h = record {
  numbers = λ f. sym (same (of_walker (λ v. f v.number))) ∙ h.numbers f;
  asks = λ f. sym (same (of_open g.owner f)) ∙ h.asks f ∙ same (of_sent f);
  prints = λ f. sym (same (of_print f)) ∙ h.prints f ∙ same (of_walker (steps_made f));
  pieces = each-from_none g ys (sym (same (is_false g)) ∙ none-from_each g xs h.pieces);
}

-- what is true of each piece of two lists
pub each-front : (g : PartedRun) (xs ys : List Piece) → Each (IsTruePiece g) (xs ++ ys) → Each (IsTruePiece g) xs
each-front g [] ys h = tt
each-front g (x ∷ xs) ys h = (h.0, each-front g xs ys h.1)

pub each-back : (g : PartedRun) (xs ys : List Piece) → Each (IsTruePiece g) (xs ++ ys) → Each (IsTruePiece g) ys
each-back g [] ys h = h
each-back g (x ∷ xs) ys h = each-back g xs ys h.1

pub each-both : (g : PartedRun) (xs ys : List Piece) → Each (IsTruePiece g) xs → Each (IsTruePiece g) ys → Each (IsTruePiece g) (xs ++ ys)
each-both g [] ys h k = k
each-both g (x ∷ xs) ys h k = (h.0, each-both g xs ys h.1 k)

-- one event keeps a sound world sound
pub sound-event : (g : PartedRun) (k : ℕ) (e : Event) (others : List Piece) → May g k e
    → IsSound g (taken_by k e ++ others) → IsSound g (given_by g k e ++ others)
sound-event g k e others may h = record {
  numbers = λ f.
      let w = of_walker (λ v. f v.number) in
      omega (arith, event-numbers g k e f may, h.numbers f, sum_by-append w (taken_by k e) others, sum_by-append w (given_by g k e) others);
  asks = λ f.
      omega (
        arith,
        event-asks g k e f may (each-front g (taken_by k e) others h.pieces),
        h.asks f,
        sum_by-append (of_open g.owner f) (taken_by k e) others,
        sum_by-append (of_open g.owner f) (given_by g k e) others,
        sum_by-append (of_sent f) (taken_by k e) others,
        sum_by-append (of_sent f) (given_by g k e) others,
      );
  prints = λ f.
      omega (
        arith,
        event-prints g k e f may,
        h.prints f,
        sum_by-append (of_print f) (taken_by k e) others,
        sum_by-append (of_print f) (given_by g k e) others,
        sum_by-append (of_walker (steps_made f)) (taken_by k e) others,
        sum_by-append (of_walker (steps_made f)) (given_by g k e) others,
      );
  pieces = each-both g (given_by g k e) others
      (event-true g k e may (each-front g (taken_by k e) others h.pieces)) (each-back g (taken_by k e) others h.pieces);
}

-- every list of events keeps a sound world sound
pub sound-leads : (g : PartedRun) (k : ℕ) (es : List Event) (before after : List Piece) → Leads g k es before after
    → IsSound g before → IsSound g after
unfolding Leads
sound-leads g k [] before after same h = sound-same g before after same h
sound-leads g k (e ∷ es) before after step h =
    sound-leads g k es (given_by g k e ++ step.0) after step.3
    (sound-event g k e step.0 step.1 (sound-same g before (taken_by k e ++ step.0) step.2 h))

-- an event takes in one letter of those that are still to come, and no other
pub event-one : (g : PartedRun) (k i : ℕ) (e : Event) (others : List Piece) → May g k e
    → IsSound g (taken_by k e ++ others)
    → count_ahead g i (taken_by k e ++ others) ≡ count_ahead g i (given_by g k e ++ others) + count_in i (letter_in e)
event-one g k i e others may h =
    let counted = event-ahead g k i e may (each-front g (taken_by k e) others h.pieces) in
    omega (arith, sum_by-append (piece_ahead g i) (taken_by k e) others, sum_by-append (piece_ahead g i) (given_by g k e) others)

-- what an event does to two weights where its pieces are true
abbrev pub KeepsTrue : PartedRun → ℕ → (Piece → ℕ) → (Piece → ℕ) → Type 0
KeepsTrue g k h l = (e : Event) → May g k e → Each (IsTruePiece g) (taken_by k e)
    → sum_by h (given_by g k e) + sum_by l (taken_by k e) ≡ sum_by h (taken_by k e) + sum_by l (given_by g k e)

-- truth passes on from piece to piece, whatever the order
pub each-same : (g : PartedRun) (xs ys : List Piece) → Same xs ys → Each (IsTruePiece g) xs → Each (IsTruePiece g) ys
each-same g xs ys same h = each-from_none g ys (sym (same (is_false g)) ∙ none-from_each g xs h)

pub leads-true : (g : PartedRun) (k : ℕ) (es : List Event) (before after : List Piece) → Leads g k es before after
    → Each (IsTruePiece g) before → Each (IsTruePiece g) after
unfolding Leads
leads-true g k [] before after same h = each-same g before after same h
leads-true g k (e ∷ es) before after step h =
    let here = each-same g before (taken_by k e ++ step.0) step.2 h in
    leads-true g k es (given_by g k e ++ step.0) after step.3
    (each-both g (given_by g k e) step.0
    (event-true g k e step.1 (each-front g (taken_by k e) step.0 here)) (each-back g (taken_by k e) step.0 here))

pub leads-kept_true : (g : PartedRun) (k : ℕ) (h l : Piece → ℕ) → KeepsTrue g k h l
    → (es : List Event) (before after : List Piece) → Leads g k es before after → Each (IsTruePiece g) before → IsKept h l before after
unfolding Leads
leads-kept_true g k h l kept [] before after same true_before = omega (arith, same h, same l)
leads-kept_true g k h l kept (e ∷ es) before after step true_before =
    let others = step.0 in
    let here = each-same g before (taken_by k e ++ others) step.2 true_before in
    let taken = each-front g (taken_by k e) others here in
    let next = each-both g (given_by g k e) others (event-true g k e step.1 taken) (each-back g (taken_by k e) others here) in
    let rest = leads-kept_true g k h l kept es (given_by g k e ++ others) after step.3 next in
    omega (
      arith,
      kept e step.1 taken,
      step.2 h,
      step.2 l,
      sum_by-append h (taken_by k e) others,
      sum_by-append l (taken_by k e) others,
      sum_by-append h (given_by g k e) others,
      sum_by-append l (given_by g k e) others,
    )

turn-come : (g : PartedRun) (k i : ℕ) (w : Walker) (m : Mode) → sum_by (of_come i) (turn_pieces g k w m) ≡ 0
turn-come g k i w Fresh = by (k == g.owner w.state.at)
  where
    by : (b : Bool) → sum_by (of_come i) (Printed k (print_of w) ∷ (if b then Resident k w else Goes (Travels w k (g.owner w.state.at))) ∷ []) ≡ 0
    by true = refl
    by false = refl
turn-come g k i w (Asked left place q) = refl
turn-come g k i w (AskedRow place q) = refl
turn-come g k i w (Darts left place) = refl
turn-come g k i w (Chosen edge place) = refl
turn-come g k i w Over = refl

-- an event takes in each letter by taking away one item that has come
event-come : (g : PartedRun) (k i : ℕ) (e : Event) → sum_by (of_come i) (taken_by k e) ≡ sum_by (of_come i) (given_by g k e) + count_in i (letter_in e)
event-come g k i (Arrives m) = omega (arith, sum_by-cons (of_come i) (Comes m) [], sum_by-cons (of_come i) (Aside k m) [])
event-come g k i (Turns v) = omega (arith, sum_by-cons (of_come i) (Resident k v) [], turn-come g k i (advance g v) (advance g v).mode)
event-come g k i (Enters v from to) =
    omega (arith, sum_by-cons (of_come i) (Aside k (Travels v from to)) [], sum_by-cons (of_come i) (Resident k v) [])
event-come g k i (Answered ask to) =
    omega (arith, sum_by-cons (of_come i) (Aside k (Asks ask to)) [], sum_by-cons (of_come i) (Goes (Replies (reply_to g.edges ask) k)) [])
event-come g k i (Hears v reply from) =
    omega (
      arith,
      sum_by-cons (of_come i) (Resident k v) (Aside k (Replies reply from) ∷ []),
      sum_by-cons (of_come i) (Aside k (Replies reply from)) [],
      sum_by-cons (of_come i) (Resident k (hear g v reply.found)) [],
    )

-- the letters of walker i that are still to come, less the items of it that have come, are kept by events:
-- so as many letters of it were given out as there were fewer of those left
pub becomes-given : (g : PartedRun) (k i : ℕ) (before after : List Piece) → Becomes g k before after
    → Each (IsTruePiece g) before → IsKept (piece_ahead g i) (of_come i) before after
becomes-given g k i before after b h =
    leads-kept_true g k (piece_ahead g i) (of_come i)
    (λ e may taken. omega (arith, event-ahead g k i e may taken, event-come g k i e)) b.events before after b.leads h

-- what becomes of true pieces is true
pub becomes-true : (g : PartedRun) (k : ℕ) (before after : List Piece) → Becomes g k before after
    → Each (IsTruePiece g) before → Each (IsTruePiece g) after
becomes-true g k before after b h = leads-true g k b.events before after b.leads h
