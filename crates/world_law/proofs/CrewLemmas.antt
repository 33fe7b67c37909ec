-- A crew hands back a sound world.
use Rattle.std.proofs.Common.{◌≡◌, ℕ, zero, suc, ◌+◌, ◌-◌, ◌≤◌, Bool, true, false, List, [], ◌∷◌, ◌++◌, map, length, drop, refl, ap, arith}
use Rattle.std.specs.Prelude.{sum_by, nat_lt, ◌==◌, if◌then◌else◌}
use Rattle.std.proofs.lemmas.Bool.Decides.{nat_tests}
use Rattle.std.proofs.lemmas.List.Sums.{sum_by-cons, sum_by-append, sum_by-le-sum_by}
use Rattle.walk_model.specs.declared.messages.Ask.{Ask}
use Rattle.walk_model.specs.declared.messages.Letter.{Letter}
use Rattle.traveller.specs.PartedRuns.{PartedRun, letters_in}
use Rattle.traveller.specs.Walkers.{Walker}
use Rattle.traveller.specs.Turns.{advance}
use Rattle.traveller.specs.Replies.{hear}
use Rattle.world_law.specs.Items.{Item, Travels, Asks, Replies}
use Rattle.world_law.specs.Worlds.{Piece, Resident, Aside, Comes, Goes, Each}
use Rattle.world_law.specs.Events.{Event, Arrives, Turns, Enters, Answered, Hears, May, taken_by, given_by}
use Rattle.world_law.specs.Histories.{Happening, InPart, Carries, CanHappen, pieces_taken, pieces_given, Unrolls}
use Rattle.world_law.specs.Soundness.{of_walker, of_open, of_sent, of_print, steps_made, IsTruePiece, IsSound}
use Rattle.world_law.specs.LettersAhead.{piece_ahead, count_ahead, ahead}
use Rattle.world_law.specs.Finishing.{steps_of}
use Rattle.world_law.specs.Crews.{Shift, all_had, all_have, all_popped, all_pushed, AreRings}
use Rattle.world_law.proofs.TellLemmas.{tells_piece}
use Rattle.world_law.proofs.TurnLemmas.{Outcome, makes, rests, advance-outcome}
use Rattle.world_law.proofs.EventLemmas.{turn-walkers, event-numbers, event-asks, event-prints}
use Rattle.world_law.proofs.SoundLemmas.{event-true}
use Rattle.world_law.proofs.AheadLemmas.{event-ahead}
use Rattle.world_law.proofs.LeadLemmas.{IsLower, is_false, each-from_none, none-from_each, each-front, each-back, each-both, each-same, false-same}
use Rattle.world_law.proofs.GradeLemmas.{item_grade, grade, said, low, false_said, event-low, event-said, Crew, crew-grades, crew-true, sum-comes, late-le, late-true, late-none}

-- no event raises the difference of two weights, nor does what is carried
pub record AllLower (g : PartedRun) (h l : Piece → ℕ) : Type 0 where
  pub events : (k : ℕ) (e : Event) → May g k e
      → sum_by h (given_by g k e) + sum_by l (taken_by k e) ≤ sum_by h (taken_by k e) + sum_by l (given_by g k e)
  pub carries : (i : Item) → h (Comes i) + l (Goes i) ≤ h (Goes i) + l (Comes i)

happening-lower : (g : PartedRun) (h l : Piece → ℕ) (e : Happening) → AllLower g h l → CanHappen g e
    → sum_by h (pieces_given g e) + sum_by l (pieces_taken e) ≤ sum_by h (pieces_taken e) + sum_by l (pieces_given g e)
happening-lower g h l (InPart k e) low may = low.events k e may
happening-lower g h l (Carries i) low may =
    omega (arith, low.carries i, sum_by-cons h (Comes i) [], sum_by-cons h (Goes i) [], sum_by-cons l (Comes i) [], sum_by-cons l (Goes i) [])

pub unrolls-lower : (g : PartedRun) (h l : Piece → ℕ) → AllLower g h l → (es : List Happening) (before after : List Piece)
    → Unrolls g es before after → IsLower h l before after
unfolding Unrolls
unrolls-lower g h l low [] before after same = omega (arith, same h, same l)
unrolls-lower g h l low (e ∷ es) before after step =
    let others = step.0 in
    let rest = unrolls-lower g h l low es (pieces_given g e ++ others) after step.3 in
    omega (
      arith,
      happening-lower g h l e low step.1,
      step.2 h,
      step.2 l,
      sum_by-append h (pieces_taken e) others,
      sum_by-append l (pieces_taken e) others,
      sum_by-append h (pieces_given g e) others,
      sum_by-append l (pieces_given g e) others,
    )

happening-true : (g : PartedRun) (e : Happening) → CanHappen g e → Each (IsTruePiece g) (pieces_taken e) → Each (IsTruePiece g) (pieces_given g e)
happening-true g (InPart k e) may h = event-true g k e may h
happening-true g (Carries i) may h = h

pub unrolls-true : (g : PartedRun) (es : List Happening) (before after : List Piece) → Unrolls g es before after
    → Each (IsTruePiece g) before → Each (IsTruePiece g) after
unfolding Unrolls
unrolls-true g [] before after same h = each-same g before after same h
unrolls-true g (e ∷ es) before after step h =
    let here = each-same g before (pieces_taken e ++ step.0) step.2 h in
    unrolls-true g es (pieces_given g e ++ step.0) after step.3
    (each-both g (pieces_given g e) step.0
    (happening-true g e step.1 (each-front g (pieces_taken e) step.0 here)) (each-back g (pieces_taken e) step.0 here))

map-append : (f : Item → Piece) (xs ys : List Item) → map f (xs ++ ys) ≡ map f xs ++ map f ys
map-append f [] ys = refl
map-append f (x ∷ xs) ys = ap (λ l. f x ∷ l) (map-append f xs ys)

-- what holds of each worker by weights holds of all together
pub shifts-lower : (g : PartedRun) (h l : Piece → ℕ) → AllLower g h l → (ws : List (Shift g))
    → sum_by h (all_have ws) + sum_by h (map Goes (all_pushed ws)) + (sum_by l (all_had ws) + sum_by l (map Comes (all_popped ws)))
    ≤ sum_by h (all_had ws) + sum_by h (map Comes (all_popped ws)) + (sum_by l (all_have ws) + sum_by l (map Goes (all_pushed ws)))
shifts-lower g h l low [] = omega arith
shifts-lower g h l low (w ∷ ws) =
    let later = shifts-lower g h l low ws in
    let mine = unrolls-lower g h l low w.history (w.had ++ map Comes w.popped) (w.has ++ map Goes w.pushed) w.unrolls in
    rw (map-append Goes w.pushed (all_pushed ws), map-append Comes w.popped (all_popped ws))
    (omega (
      arith,
      sum_by-append h w.had (map Comes w.popped),
      sum_by-append l w.had (map Comes w.popped),
      sum_by-append h w.has (map Goes w.pushed),
      sum_by-append l w.has (map Goes w.pushed),
      sum_by-append h w.had (all_had ws),
      sum_by-append l w.had (all_had ws),
      sum_by-append h w.has (all_have ws),
      sum_by-append l w.has (all_have ws),
      sum_by-append h (map Goes w.pushed) (map Goes (all_pushed ws)),
      sum_by-append l (map Goes w.pushed) (map Goes (all_pushed ws)),
      sum_by-append h (map Comes w.popped) (map Comes (all_popped ws)),
      sum_by-append l (map Comes w.popped) (map Comes (all_popped ws)),
    ))

nothing : (ps : List Piece) → sum_by (λ p. 0) ps ≡ 0
nothing [] = refl
nothing (p ∷ ps) = omega (arith, sum_by-cons (λ q. 0) p ps, nothing ps)

-- the two weights of grades
low-lower : (g : PartedRun) (s : ℕ) → AllLower g (low g s) (λ p. 0)
low-lower g s = record {
  events = λ k e may. omega (arith, event-low g k s e may, nothing (taken_by k e), nothing (given_by g k e));
  carries = λ i.
      let less = late-le (tells_piece g (Goes i)) (tells_piece g (Comes i)) (grade s (Goes i)) (grade s (Comes i)) (λ h. h) (graded s i) in
      omega arith;
}
  where
    graded : (s : ℕ) (i : Item) → item_grade s i ≡ true → item_grade (suc s) i ≡ true
    graded s (Travels v from to) h = more v.state.steps s h
      where
        more : (n s : ℕ) → nat_lt n s ≡ true → nat_lt n (suc s) ≡ true
        more n s h = grind (arith, nat_tests)
    graded s (Asks ask to) h = refl
    graded s (Replies reply from) h = refl

said-lower : (g : PartedRun) → AllLower g (false_said g) (λ p. 0)
said-lower g = record {
  events = λ k e may. omega (arith, event-said g k e may, nothing (taken_by k e), nothing (given_by g k e));
  carries = λ i. (let none = late-none (tells_piece g (Comes i)) in omega arith);
}

-- what the workers had is true: then no false piece of any grade is there, and nothing was given out
true-low : (g : PartedRun) (s : ℕ) (ps : List Piece) → Each (IsTruePiece g) ps → sum_by (low g s) ps ≡ 0
true-low g s [] h = refl
true-low g s (p ∷ ps) h =
    let first = late-true (tells_piece g p) (grade s p) h.0 in
    let later = true-low g s ps h.1 in
    omega (arith, sum_by-cons (low g s) p ps)

true-said : (g : PartedRun) (ps : List Piece) → Each (IsTruePiece g) ps → sum_by (false_said g) ps ≡ 0
true-said g [] h = refl
true-said g (p ∷ ps) h =
    let first = late-true (tells_piece g p) (said p) h.0 in
    let later = true-said g ps h.1 in
    omega (arith, sum_by-cons (false_said g) p ps)

comes-said : (g : PartedRun) (is : List Item) → sum_by (false_said g) (map Comes is) ≡ 0
comes-said g [] = refl
comes-said g (i ∷ is) =
    let first = late-none (tells_piece g (Comes i)) in
    let later = comes-said g is in
    omega (arith, sum_by-cons (false_said g) (Comes i) (map Comes is))

crew-of : (g : PartedRun) (ws : List (Shift g)) (left : List Item) → AreRings ws left → Each (IsTruePiece g) (all_had ws)
    → Crew g (all_had ws) (all_have ws) (all_popped ws) (all_pushed ws) left
crew-of g ws left rings h = record {
  rings = rings;
  grades = λ s.
      omega (
        arith,
        shifts-lower g (low g s) (λ p. 0) (low-lower g s) ws,
        nothing (all_had ws),
        nothing (map Comes (all_popped ws)),
        nothing (all_have ws),
        nothing (map Goes (all_pushed ws)),
      );
  says = omega (
    arith,
    shifts-lower g (false_said g) (λ p. 0) (said-lower g) ws,
    nothing (all_had ws),
    nothing (map Comes (all_popped ws)),
    nothing (all_have ws),
    nothing (map Goes (all_pushed ws)),
    true-said g (all_had ws) h,
    comes-said g (all_popped ws),
  );
  begins = λ s. true-low g s (all_had ws) h;
}

-- what each worker popped is true, so what it has and pushed is true
shifts-true : (g : PartedRun) (ws : List (Shift g)) → Each (IsTruePiece g) (all_had ws) → Each (IsTruePiece g) (map Comes (all_popped ws))
    → Each (IsTruePiece g) (all_have ws) × Each (IsTruePiece g) (map Goes (all_pushed ws))
shifts-true g [] h p = (tt, tt)
shifts-true g (w ∷ ws) h p =
    let split = map-append Comes w.popped (all_popped ws) in
    let popped = rw split at p in
    let mine = unrolls-true g w.history (w.had ++ map Comes w.popped) (w.has ++ map Goes w.pushed) w.unrolls
    (each-both g w.had (map Comes w.popped) (each-front g w.had (all_had ws) h) (each-front g (map Comes w.popped) (map Comes (all_popped ws)) popped)) in
    let later = shifts-true g ws (each-back g w.had (all_had ws) h) (each-back g (map Comes w.popped) (map Comes (all_popped ws)) popped) in (
      each-both g w.has (all_have ws) (each-front g w.has (map Goes w.pushed) mine) later.0,
      rw (map-append Goes w.pushed (all_pushed ws))
          (each-both g (map Goes w.pushed) (map Goes (all_pushed ws)) (each-back g w.has (map Goes w.pushed) mine) later.1),
    )

same-false : (g : PartedRun) (i : Item) → is_false g (Comes i) ≤ is_false g (Goes i)
same-false g i = let same = false-same (tells_piece g (Comes i)) (tells_piece g (Goes i)) in omega arith

-- what is left in the rings is true
left-true : (g : PartedRun) (ws : List (Shift g)) (left : List Item) → AreRings ws left → Each (IsTruePiece g) (map Goes (all_pushed ws))
    → Each (IsTruePiece g) (map Comes left)
left-true g ws left rings h =
    each-from_none g (map Comes left)
    (let none = none-from_each g (map Goes (all_pushed ws)) h in
    let balance = rings (λ i. is_false g (Goes i)) in
    let less = sum_by-le-sum_by (λ i. is_false g (Comes i)) (λ i. is_false g (Goes i)) left (same-false g) in
    omega (arith, sum-comes (is_false g) Goes (all_pushed ws), sum-comes (is_false g) Comes left))

sum-same : (f h : Item → ℕ) (xs : List Item) → ((i : Item) → f i ≡ h i) → sum_by f xs ≡ sum_by h xs
sum-same f h [] e = refl
sum-same f h (x ∷ xs) e = omega (arith, e x, sum-same f h xs e, sum_by-cons f x xs, sum_by-cons h x xs)

-- what goes weighs in flight what it weighs where it comes
rings-sum : (g : PartedRun) (ws : List (Shift g)) (left : List Item) (h : Piece → ℕ) → AreRings ws left
    → ((i : Item) → h (Goes i) ≡ h (Comes i))
    → sum_by h (map Goes (all_pushed ws)) ≡ sum_by h (map Comes (all_popped ws)) + sum_by h (map Comes left)
rings-sum g ws left h rings e =
    omega (
      arith,
      rings (λ i. h (Comes i)),
      sum-comes h Goes (all_pushed ws),
      sum-same (λ i. h (Goes i)) (λ i. h (Comes i)) (all_pushed ws) e,
      sum-comes h Comes (all_popped ws),
      sum-comes h Comes left,
    )

-- no event of true pieces raises the difference of two weights, nor does what is carried
pub record TrueLower (g : PartedRun) (h l : Piece → ℕ) : Type 0 where
  pub events : (k : ℕ) (e : Event) → May g k e → Each (IsTruePiece g) (taken_by k e)
      → sum_by h (given_by g k e) + sum_by l (taken_by k e) ≤ sum_by h (taken_by k e) + sum_by l (given_by g k e)
  pub carries : (i : Item) → h (Comes i) + l (Goes i) ≤ h (Goes i) + l (Comes i)

happening-true_lower : (g : PartedRun) (h l : Piece → ℕ) (e : Happening) → TrueLower g h l → CanHappen g e
    → Each (IsTruePiece g) (pieces_taken e)
    → sum_by h (pieces_given g e) + sum_by l (pieces_taken e) ≤ sum_by h (pieces_taken e) + sum_by l (pieces_given g e)
happening-true_lower g h l (InPart k e) low may holds = low.events k e may holds
happening-true_lower g h l (Carries i) low may holds =
    omega (arith, low.carries i, sum_by-cons h (Comes i) [], sum_by-cons h (Goes i) [], sum_by-cons l (Comes i) [], sum_by-cons l (Goes i) [])

pub unrolls-true_lower : (g : PartedRun) (h l : Piece → ℕ) → TrueLower g h l → (es : List Happening) (before after : List Piece)
    → Unrolls g es before after → Each (IsTruePiece g) before → IsLower h l before after
unfolding Unrolls
unrolls-true_lower g h l low [] before after same holds = omega (arith, same h, same l)
unrolls-true_lower g h l low (e ∷ es) before after step holds =
    let others = step.0 in
    let here = each-same g before (pieces_taken e ++ others) step.2 holds in
    let taken = each-front g (pieces_taken e) others here in
    let next = each-both g (pieces_given g e) others (happening-true g e step.1 taken) (each-back g (pieces_taken e) others here) in
    let rest = unrolls-true_lower g h l low es (pieces_given g e ++ others) after step.3 next in
    omega (
      arith,
      happening-true_lower g h l e low step.1 taken,
      step.2 h,
      step.2 l,
      sum_by-append h (pieces_taken e) others,
      sum_by-append l (pieces_taken e) others,
      sum_by-append h (pieces_given g e) others,
      sum_by-append l (pieces_given g e) others,
    )

shifts-true_lower : (g : PartedRun) (h l : Piece → ℕ) → TrueLower g h l → (ws : List (Shift g)) → Each (IsTruePiece g) (all_had ws)
    → Each (IsTruePiece g) (map Comes (all_popped ws))
    → sum_by h (all_have ws) + sum_by h (map Goes (all_pushed ws)) + (sum_by l (all_had ws) + sum_by l (map Comes (all_popped ws)))
    ≤ sum_by h (all_had ws) + sum_by h (map Comes (all_popped ws)) + (sum_by l (all_have ws) + sum_by l (map Goes (all_pushed ws)))
shifts-true_lower g h l low [] had came = omega arith
shifts-true_lower g h l low (w ∷ ws) had came =
    let split = map-append Comes w.popped (all_popped ws) in
    let popped = rw split at came in
    let mine = unrolls-true_lower g h l low w.history (w.had ++ map Comes w.popped) (w.has ++ map Goes w.pushed) w.unrolls
    (each-both g w.had (map Comes w.popped) (each-front g w.had (all_had ws) had) (each-front g (map Comes w.popped) (map Comes (all_popped ws)) popped)) in
    let later = shifts-true_lower g h l low ws (each-back g w.had (all_had ws) had) (each-back g (map Comes w.popped) (map Comes (all_popped ws)) popped) in
    rw (map-append Goes w.pushed (all_pushed ws), map-append Comes w.popped (all_popped ws))
    (omega (
      arith,
      sum_by-append h w.had (map Comes w.popped),
      sum_by-append l w.had (map Comes w.popped),
      sum_by-append h w.has (map Goes w.pushed),
      sum_by-append l w.has (map Goes w.pushed),
      sum_by-append h w.had (all_had ws),
      sum_by-append l w.had (all_had ws),
      sum_by-append h w.has (all_have ws),
      sum_by-append l w.has (all_have ws),
      sum_by-append h (map Goes w.pushed) (map Goes (all_pushed ws)),
      sum_by-append l (map Goes w.pushed) (map Goes (all_pushed ws)),
      sum_by-append h (map Comes w.popped) (map Comes (all_popped ws)),
      sum_by-append l (map Comes w.popped) (map Comes (all_popped ws)),
    ))

-- what no event and no carrying changes, a crew doesn't change
crew-kept : (g : PartedRun) (ws : List (Shift g)) (left : List Item) (h l : Piece → ℕ) → AreRings ws left
    → AllLower g h l → AllLower g l h → ((i : Item) → h (Goes i) ≡ h (Comes i)) → ((i : Item) → l (Goes i) ≡ l (Comes i))
    → sum_by h (all_have ws ++ map Comes left) + sum_by l (all_had ws) ≡ sum_by h (all_had ws) + sum_by l (all_have ws ++ map Comes left)
crew-kept g ws left h l rings down up e1 e2 =
    omega (
      arith,
      shifts-lower g h l down ws,
      shifts-lower g l h up ws,
      rings-sum g ws left h rings e1,
      rings-sum g ws left l rings e2,
      sum_by-append h (all_have ws) (map Comes left),
      sum_by-append l (all_have ws) (map Comes left),
    )

-- and what no event of true pieces changes
crew-true_kept : (g : PartedRun) (ws : List (Shift g)) (left : List Item) (h l : Piece → ℕ) → AreRings ws left
    → Each (IsTruePiece g) (all_had ws) → Each (IsTruePiece g) (map Comes (all_popped ws))
    → TrueLower g h l → TrueLower g l h → ((i : Item) → h (Goes i) ≡ h (Comes i)) → ((i : Item) → l (Goes i) ≡ l (Comes i))
    → sum_by h (all_have ws ++ map Comes left) + sum_by l (all_had ws) ≡ sum_by h (all_had ws) + sum_by l (all_have ws ++ map Comes left)
crew-true_kept g ws left h l rings had popped down up e1 e2 =
    omega (
      arith,
      shifts-true_lower g h l down ws had popped,
      shifts-true_lower g l h up ws had popped,
      rings-sum g ws left h rings e1,
      rings-sum g ws left l rings e2,
      sum_by-append h (all_have ws) (map Comes left),
      sum_by-append l (all_have ws) (map Comes left),
    )

numbers-down : (g : PartedRun) (f : ℕ → ℕ) → AllLower g (of_walker (λ v. f v.number)) (λ p. 0)
numbers-down g f = record {
  events = λ k e may. omega (arith, event-numbers g k e f may, nothing (taken_by k e), nothing (given_by g k e));
  carries = λ i. omega arith;
}

numbers-up : (g : PartedRun) (f : ℕ → ℕ) → AllLower g (λ p. 0) (of_walker (λ v. f v.number))
numbers-up g f = record {
  events = λ k e may. omega (arith, event-numbers g k e f may, nothing (taken_by k e), nothing (given_by g k e));
  carries = λ i. omega arith;
}

asks-down : (g : PartedRun) (f : Ask → ℕ) → TrueLower g (of_open g.owner f) (of_sent f)
asks-down g f = record { events = λ k e may holds. omega (arith, event-asks g k e f may holds); carries = λ i. omega arith }

asks-up : (g : PartedRun) (f : Ask → ℕ) → TrueLower g (of_sent f) (of_open g.owner f)
asks-up g f = record { events = λ k e may holds. omega (arith, event-asks g k e f may holds); carries = λ i. omega arith }

prints-down : (g : PartedRun) (f : ℕ → ℕ → ℕ) → AllLower g (of_print f) (of_walker (steps_made f))
prints-down g f = record { events = λ k e may. omega (arith, event-prints g k e f may); carries = λ i. omega arith }

prints-up : (g : PartedRun) (f : ℕ → ℕ → ℕ) → AllLower g (of_walker (steps_made f)) (of_print f)
prints-up g f = record { events = λ k e may. omega (arith, event-prints g k e f may); carries = λ i. omega arith }

-- whatever workers pass to one another by rings, in whatever order, from a sound world: what they have then,
-- with what is left in the rings, is a sound world
pub crew-sound : (g : PartedRun) (ws : List (Shift g)) (left : List Item) → AreRings ws left → IsSound g (all_had ws)
    → IsSound g (all_have ws ++ map Comes left)
crew-sound g ws left rings h =
    let crew = crew-of g ws left rings h.pieces in
    let popped = crew-true g (all_popped ws) (crew-grades g (all_had ws) (all_have ws) (all_popped ws) (all_pushed ws) left crew) in
    let made = shifts-true g ws h.pieces popped in
    record {
      numbers = λ f.
          omega (
            arith,
            h.numbers f,
            crew-kept g ws left (of_walker (λ v. f v.number)) (λ p. 0) rings (numbers-down g f) (numbers-up g f) (λ i. refl) (λ i. refl),
            nothing (all_had ws),
            nothing (all_have ws ++ map Comes left),
          );
      asks = λ f.
          omega (
            arith,
            h.asks f,
            crew-true_kept g ws left (of_open g.owner f) (of_sent f) rings h.pieces popped (asks-down g f) (asks-up g f) (λ i. refl) (λ i. refl),
          );
      prints = λ f.
          omega (
            arith,
            h.prints f,
            crew-kept g ws left (of_print f) (of_walker (steps_made f)) rings (prints-down g f) (prints-up g f) (λ i. refl) (λ i. refl),
          );
      pieces = each-both g (all_have ws) (map Comes left) made.0 (left-true g ws left rings made.1);
    }

-- no event of true pieces gives a walker more letters to come
ahead-lower : (g : PartedRun) (i : ℕ) → TrueLower g (piece_ahead g i) (λ p. 0)
ahead-lower g i = record {
  events = λ k e may holds. omega (arith, event-ahead g k i e may holds, nothing (taken_by k e), nothing (given_by g k e));
  carries = λ m. omega arith;
}

-- and no walker has more letters to come than before: those to come are the last of those before
pub crew-ahead : (g : PartedRun) (i : ℕ) (ws : List (Shift g)) (left : List Item) → AreRings ws left → IsSound g (all_had ws)
    → count_ahead g i (all_have ws ++ map Comes left) ≤ count_ahead g i (all_had ws)
crew-ahead g i ws left rings h =
    let crew = crew-of g ws left rings h.pieces in
    let popped = crew-true g (all_popped ws) (crew-grades g (all_had ws) (all_have ws) (all_popped ws) (all_pushed ws) left crew) in
    omega (
      arith,
      shifts-true_lower g (piece_ahead g i) (λ p. 0) (ahead-lower g i) ws h.pieces popped,
      nothing (all_have ws),
      nothing (map Goes (all_pushed ws)),
      nothing (all_had ws),
      nothing (map Comes (all_popped ws)),
      rings-sum g ws left (piece_ahead g i) rings (λ m. refl),
      sum_by-append (piece_ahead g i) (all_have ws) (map Comes left),
    )

outcome-steps : (i : ℕ) (v w : Walker) → Outcome v w → steps_of i v ≤ steps_of i w
outcome-steps i v w (makes t c e) = rw e (by (v.number == i))
  where
    by : (b : Bool) → (if b then v.state.steps else 0) ≤ (if b then t.steps else 0)
    by true = omega arith
    by false = omega arith
outcome-steps i v w (rests m r e) = rw e (omega arith)

event-steps : (g : PartedRun) (k i : ℕ) (e : Event) → May g k e
    → sum_by (of_walker (steps_of i)) (taken_by k e) ≤ sum_by (of_walker (steps_of i)) (given_by g k e)
event-steps g k i (Arrives m) may = omega (arith, sum_by-cons (of_walker (steps_of i)) (Comes m) [], sum_by-cons (of_walker (steps_of i)) (Aside k m) [])
event-steps g k i (Turns v) may =
    omega (
      arith,
      outcome-steps i v (advance g v) (advance-outcome g v may.0),
      turn-walkers g k (advance g v) (advance g v).mode (steps_of i),
      sum_by-cons (of_walker (steps_of i)) (Resident k v) [],
    )
event-steps g k i (Enters v from to) may =
    omega (arith, sum_by-cons (of_walker (steps_of i)) (Aside k (Travels v from to)) [], sum_by-cons (of_walker (steps_of i)) (Resident k v) [])
event-steps g k i (Answered ask to) may = omega (arith, sum_by-cons (of_walker (steps_of i)) (Aside k (Asks ask to)) [])
event-steps g k i (Hears v reply from) may =
    omega (
      arith,
      sum_by-cons (of_walker (steps_of i)) (Resident k v) (Aside k (Replies reply from) ∷ []),
      sum_by-cons (of_walker (steps_of i)) (Aside k (Replies reply from)) [],
      sum_by-cons (of_walker (steps_of i)) (Resident k (hear g v reply.found)) [],
    )

-- no walker has made fewer steps than before
pub crew-steps : (g : PartedRun) (i : ℕ) (ws : List (Shift g)) (left : List Item) → AreRings ws left
    → sum_by (of_walker (steps_of i)) (all_had ws) ≤ sum_by (of_walker (steps_of i)) (all_have ws ++ map Comes left)
crew-steps g i ws left rings =
    let up : AllLower g (λ p. 0) (of_walker (steps_of i)) = record {
      events = λ k e may. omega (arith, event-steps g k i e may, nothing (taken_by k e), nothing (given_by g k e));
      carries = λ m. omega arith;
    } in
    omega (
      arith,
      shifts-lower g (λ p. 0) (of_walker (steps_of i)) up ws,
      nothing (all_have ws),
      nothing (map Goes (all_pushed ws)),
      nothing (all_had ws),
      nothing (map Comes (all_popped ws)),
      rings-sum g ws left (of_walker (steps_of i)) rings (λ m. refl),
      sum_by-append (of_walker (steps_of i)) (all_have ws) (map Comes left),
    )

-- what is left of a list farther on is the end of what is left before
drop-front : {X : Type 0} (a b : ℕ) (xs : List X) → a ≤ b → (front : List X) × (drop a xs ≡ front ++ drop b xs)
drop-front zero zero xs h = ([], refl)
drop-front zero (suc b) [] h = ([], refl)
drop-front zero (suc b) (x ∷ xs) h =
    let later = drop-front zero b xs (omega arith) in (x ∷ later.0, ap (λ ys. x ∷ ys) later.1)
drop-front (suc a) zero xs h = absurd (omega (arith, h))
drop-front (suc a) (suc b) [] h = ([], refl)
drop-front (suc a) (suc b) (x ∷ xs) h = drop-front a b xs (omega (arith, h))

-- the letters of a walker that are still to come are the last of those that were
pub crew-suffix : (g : PartedRun) (i : ℕ) (ws : List (Shift g)) (left : List Item) → AreRings ws left → IsSound g (all_had ws)
    → (taken : List Letter) × (ahead g (all_had ws) i ≡ taken ++ ahead g (all_have ws ++ map Comes left) i)
crew-suffix g i ws left rings h =
    let fewer = crew-ahead g i ws left rings h in
    drop-front (length (letters_in g i) - count_ahead g i (all_had ws))
    (length (letters_in g i) - count_ahead g i (all_have ws ++ map Comes left)) (letters_in g i) (omega (arith, fewer))
