-- Nothing false comes of what is true, however it passes between workers.
use Rattle.std.proofs.Common.{◌≡◌, ℕ, zero, suc, ◌+◌, ◌≤◌, Bool, true, false, List, [], ◌∷◌, map, refl, ap, ◌∙◌, arith, Some, inl, inr}
use Rattle.std.specs.Prelude.{sum_by, ◌==◌, ◌⊎◌, nat_lt, if◌then◌else◌}
use Rattle.std.proofs.lemmas.Bool.{lt-ltb, ltb-true, false≢true}
use Rattle.std.proofs.lemmas.Bool.Decides.{nat_tests}
use Rattle.std.proofs.lemmas.List.Sums.{sum_by-cons, sum_by-le-sum_by}
use Rattle.walk_model.specs.declared.messages.Question.{Question}
use Rattle.walk_model.specs.declared.states.State.{State}
use Rattle.traveller.specs.declared.modes.Mode.{Mode}
use Rattle.traveller.specs.declared.modes.Mode.TheVariants.{Fresh, Darts, Asked, AskedRow, Chosen, Over}
use Rattle.traveller.specs.PartedRuns.{PartedRun}
use Rattle.traveller.specs.Walkers.{Walker, asked_vertex, ask_with}
use Rattle.traveller.specs.Turns.{stepped, advance}
use Rattle.traveller.specs.Replies.{reply_to, hear}
use Rattle.traveller.specs.Ahead.{print_of}
use Rattle.world_law.specs.Items.{Item, Travels, Asks, Replies}
use Rattle.world_law.specs.Worlds.{Piece, Resident, Aside, Printed, Comes, Goes, Each}
use Rattle.world_law.specs.Events.{Event, Arrives, Turns, Enters, Answered, Hears, May, taken_by, given_by, stays_or_goes, turn_pieces, turn_gives, Becomes}
use Rattle.world_law.specs.Soundness.{IsTruePiece}
use Rattle.world_law.proofs.TurnLemmas.{Outcome, makes, rests, IsRest, advance-outcome}
use Rattle.world_law.proofs.TellLemmas.{Tells, tells_piece}
use Rattle.world_law.proofs.EventLemmas.{sum_one, sum_two}
use Rattle.world_law.proofs.SoundLemmas.{event-true}
use Rattle.world_law.proofs.LeadLemmas.{becomes-lower}

-- whether an item is graded: a walker that has made fewer than s steps, and every ask and reply
abbrev pub item_grade : ℕ → Item → Bool
item_grade s (Travels v from to) = nat_lt v.state.steps s
item_grade s (Asks ask to) = true
item_grade s (Replies reply from) = true

-- whether a piece is: a walker that goes has made a step more than where it came from
abbrev pub grade : ℕ → Piece → Bool
grade s (Resident k v) = nat_lt v.state.steps s
grade s (Aside k i) = item_grade s i
grade s (Printed k p) = false
grade s (Comes i) = item_grade s i
grade s (Goes i) = item_grade (suc s) i

-- whether a piece is an ask or a reply that was given out
abbrev pub item_said : Item → Bool
item_said (Travels v from to) = false
item_said (Asks ask to) = true
item_said (Replies reply from) = true

abbrev pub said : Piece → Bool
said (Goes i) = item_said i
said _ = false

-- 1 where a fact fails and a test holds
pub late : {P : Type 0} → Tells P → Bool → ℕ
late (inl p) b = 0
late (inr n) true = 1
late (inr n) false = 0

pub late-one : {P : Type 0} (t : Tells P) (b : Bool) → late t b ≤ 1
unfolding late
late-one (inl p) b = omega arith
late-one (inr n) true = omega arith
late-one (inr n) false = omega arith

pub late-true : {P : Type 0} (t : Tells P) (b : Bool) → P → late t b ≡ 0
unfolding late
late-true (inl p) b h = refl
late-true (inr n) b h = absurd (n h)

pub late-none : {P : Type 0} (t : Tells P) → late t false ≡ 0
unfolding late
late-none (inl p) = refl
late-none (inr n) = refl

late-zero : {P : Type 0} (t : Tells P) → late t true ≡ 0 → P
unfolding late
late-zero (inl p) e = p
late-zero (inr n) e = absurd (omega arith)

late-same : {P : Type 0} (t u : Tells P) (b : Bool) → late t b ≡ late u b
unfolding late
late-same (inl p) (inl q) b = refl
late-same (inl p) (inr n) b = absurd (n p)
late-same (inr m) (inl q) b = absurd (m q)
late-same (inr m) (inr n) true = refl
late-same (inr m) (inr n) false = refl

late-or : {P : Type 0} (t : Tells P) → P ⊎ (late t true ≡ 1)
unfolding late
late-or (inl p) = inl p
late-or (inr n) = inr refl

-- what follows from a fact fails no more often
pub late-le : {P Q : Type 0} (t : Tells P) (u : Tells Q) (b c : Bool) → (P → Q) → (c ≡ true → b ≡ true) → late u c ≤ late t b
unfolding late
late-le (inl p) (inl q) b c f i = omega arith
late-le (inl p) (inr n) b c f i = absurd (n (f p))
late-le (inr m) (inl q) b c f i = omega arith
late-le (inr m) (inr n) b false f i = omega arith
late-le (inr m) (inr n) true true f i = omega arith
late-le (inr m) (inr n) false true f i = absurd (false≢true (i refl))

-- the weight of false pieces of a grade, and of false asks and replies that are given out
abbrev pub low : PartedRun → ℕ → Piece → ℕ
low g s p = late (tells_piece g p) (grade s p)

abbrev pub false_said : PartedRun → Piece → ℕ
false_said g p = late (tells_piece g p) (said p)

low_as : (g : PartedRun) (s : ℕ) (p q : Piece) → (IsTruePiece g p → IsTruePiece g q) → (grade s q ≡ true → grade s p ≡ true)
    → low g s q ≤ low g s p
low_as g s p q f i = late-le (tells_piece g p) (tells_piece g q) (grade s p) (grade s q) f i

one-step : (n s : ℕ) → nat_lt (n + 1) s ≡ true → nat_lt n s ≡ true
one-step n s h = lt-ltb n s (let l = ltb-true (n + 1) s h in omega arith)

one-less : (n s : ℕ) → nat_lt (n + 1) (suc s) ≡ true → nat_lt n s ≡ true
one-less n s h = lt-ltb n s (let l = ltb-true (n + 1) (suc s) h in omega arith)

-- a walker that makes a step
steps-grade : (g : PartedRun) (k s : ℕ) (v : Walker) (t : State) → t.steps ≡ v.state.steps + 1
    → grade s (stays_or_goes g k (stepped v (Some t))) ≡ true → nat_lt v.state.steps s ≡ true
steps-grade g k s v t e = by (k == g.owner t.at)
  where
    by : (b : Bool) → grade s (if b then Resident k (stepped v (Some t)) else Goes (Travels (stepped v (Some t)) k (g.owner t.at))) ≡ true
        → nat_lt v.state.steps s ≡ true
    by true h = one-step v.state.steps s (rw e at h)
    by false h = one-less v.state.steps s (rw e at h)

rest-low : (g : PartedRun) (k s : ℕ) (v : Walker) (m : Mode) → IsRest m
    → (IsTruePiece g (Resident k v) → Each (IsTruePiece g) (turn_pieces g k (record v { mode = m }) m))
    → sum_by (low g s) (turn_pieces g k (record v { mode = m }) m) ≤ low g s (Resident k v)
rest-low g k s v Fresh r f = absurd r
rest-low g k s v (Darts left place) r f = absurd r
rest-low g k s v (Chosen edge place) r f = absurd r
rest-low g k s v (Asked left place q) r f =
    let w : Walker = record v { mode = Asked left place q } in
    let ask = Goes (Asks (ask_with g.owner w q) (g.owner (asked_vertex q))) in
    let one = low_as g s (Resident k v) (Resident k w) (λ h. (f h).0) (λ e. e) in
    let two = late-true (tells_piece g ask) (grade s ask) refl in
    omega (arith, sum_two (low g s) (Resident k w) ask)
rest-low g k s v (AskedRow place q) r f =
    let w : Walker = record v { mode = AskedRow place q } in
    let ask = Goes (Asks (ask_with g.owner w q) (g.owner (asked_vertex q))) in
    let one = low_as g s (Resident k v) (Resident k w) (λ h. (f h).0) (λ e. e) in
    let two = late-true (tells_piece g ask) (grade s ask) refl in
    omega (arith, sum_two (low g s) (Resident k w) ask)
rest-low g k s v Over r f =
    let w : Walker = record v { mode = Over } in
    let one = low_as g s (Resident k v) (Resident k w) (λ h. (f h).0) (λ e. e) in
    omega (arith, sum_one (low g s) (Resident k w))

turn-low : (g : PartedRun) (k s : ℕ) (v w : Walker) → Outcome v w
    → (IsTruePiece g (Resident k v) → Each (IsTruePiece g) (turn_gives g k w))
    → sum_by (low g s) (turn_gives g k w) ≤ low g s (Resident k v)
turn-low g k s v w (makes t c e) f =
    let u = stepped v (Some t) in
    let goes = ap (turn_gives g k) e in
    let g2 : IsTruePiece g (Resident k v) → Each (IsTruePiece g) (turn_gives g k u) = λ h. rw goes at (f h) in
    let print = late-none (tells_piece g (Printed k (print_of u))) in
    let one = low_as g s (Resident k v) (stays_or_goes g k u) (λ h. (g2 h).1.0) (steps-grade g k s v t c) in
    rw e (omega (arith, sum_two (low g s) (Printed k (print_of u)) (stays_or_goes g k u)))
turn-low g k s v w (rests m r e) f =
    let goes = ap (turn_gives g k) e in
    rw e (rest-low g k s v m r (λ h. rw goes at (f h)))

-- no event raises the weight of false pieces of a grade
pub event-low : (g : PartedRun) (k s : ℕ) (e : Event) → May g k e
    → sum_by (low g s) (given_by g k e) ≤ sum_by (low g s) (taken_by k e)
event-low g k s (Arrives i) may =
    let one = low_as g s (Comes i) (Aside k i) (λ h. (h, may)) (λ e. e) in
    omega (arith, sum_one (low g s) (Comes i), sum_one (low g s) (Aside k i))
event-low g k s (Turns v) may =
    let one = turn-low g k s v (advance g v) (advance-outcome g v may.0) (λ h. event-true g k (Turns v) may (h, tt)) in
    omega (arith, sum_one (low g s) (Resident k v))
event-low g k s (Enters v from to) may =
    let one = low_as g s (Aside k (Travels v from to)) (Resident k v) (λ h. (event-true g k (Enters v from to) may (h, tt)).0) (λ e. e) in
    omega (arith, sum_one (low g s) (Aside k (Travels v from to)), sum_one (low g s) (Resident k v))
event-low g k s (Answered ask to) may =
    let r = Goes (Replies (reply_to g.edges ask) k) in
    let none = late-true (tells_piece g r) (grade s r) (may, refl) in
    omega (arith, sum_one (low g s) r)
event-low g k s (Hears v reply from) may = by (late-or (tells_piece g (Aside k (Replies reply from))))
  where
    by : IsTruePiece g (Aside k (Replies reply from)) ⊎ (late (tells_piece g (Aside k (Replies reply from))) true ≡ 1)
        → sum_by (low g s) (Resident k (hear g v reply.found) ∷ []) ≤ sum_by (low g s) (Resident k v ∷ Aside k (Replies reply from) ∷ [])
    by (inl h) =
        let one = low_as g s (Resident k v) (Resident k (hear g v reply.found))
        (λ p. (event-true g k (Hears v reply from) may (p, (h, tt))).0) (λ e. e) in
        omega (arith, sum_one (low g s) (Resident k (hear g v reply.found)), sum_two (low g s) (Resident k v) (Aside k (Replies reply from)))
    by (inr e) =
        let one = late-one (tells_piece g (Resident k (hear g v reply.found))) (grade s (Resident k (hear g v reply.found))) in
        omega (arith, sum_one (low g s) (Resident k (hear g v reply.found)), sum_two (low g s) (Resident k v) (Aside k (Replies reply from)))

-- no false ask or reply is given out
said-stays_or_goes : (g : PartedRun) (k : ℕ) (w : Walker) → false_said g (stays_or_goes g k w) ≡ 0
said-stays_or_goes g k w = by (k == g.owner w.state.at)
  where
    by : (b : Bool) → false_said g (if b then Resident k w else Goes (Travels w k (g.owner w.state.at))) ≡ 0
    by true = late-none (tells_piece g (Resident k w))
    by false = late-none (tells_piece g (Goes (Travels w k (g.owner w.state.at))))

said-turn : (g : PartedRun) (k : ℕ) (w : Walker) (m : Mode) → sum_by (false_said g) (turn_pieces g k w m) ≡ 0
said-turn g k w Fresh =
    omega (
      arith,
      sum_two (false_said g) (Printed k (print_of w)) (stays_or_goes g k w),
      late-none (tells_piece g (Printed k (print_of w))),
      said-stays_or_goes g k w,
    )
said-turn g k w (Asked left place q) = said-ask g k w q
  where
    said-ask : (g : PartedRun) (k : ℕ) (w : Walker) (q : Question)
        → sum_by (false_said g) (Resident k w ∷ Goes (Asks (ask_with g.owner w q) (g.owner (asked_vertex q))) ∷ []) ≡ 0
    said-ask g k w q =
        let ask = Goes (Asks (ask_with g.owner w q) (g.owner (asked_vertex q))) in
        omega (arith, sum_two (false_said g) (Resident k w) ask, late-none (tells_piece g (Resident k w)), late-true (tells_piece g ask) true refl)
said-turn g k w (AskedRow place q) = said-ask g k w q
  where
    said-ask : (g : PartedRun) (k : ℕ) (w : Walker) (q : Question)
        → sum_by (false_said g) (Resident k w ∷ Goes (Asks (ask_with g.owner w q) (g.owner (asked_vertex q))) ∷ []) ≡ 0
    said-ask g k w q =
        let ask = Goes (Asks (ask_with g.owner w q) (g.owner (asked_vertex q))) in
        omega (arith, sum_two (false_said g) (Resident k w) ask, late-none (tells_piece g (Resident k w)), late-true (tells_piece g ask) true refl)
said-turn g k w (Darts left place) = omega (arith, sum_one (false_said g) (Resident k w), late-none (tells_piece g (Resident k w)))
said-turn g k w (Chosen edge place) = omega (arith, sum_one (false_said g) (Resident k w), late-none (tells_piece g (Resident k w)))
said-turn g k w Over = omega (arith, sum_one (false_said g) (Resident k w), late-none (tells_piece g (Resident k w)))

pub event-said : (g : PartedRun) (k : ℕ) (e : Event) → May g k e → sum_by (false_said g) (given_by g k e) ≡ 0
event-said g k (Arrives i) may = omega (arith, sum_one (false_said g) (Aside k i), late-none (tells_piece g (Aside k i)))
event-said g k (Turns v) may = said-turn g k (advance g v) (advance g v).mode
event-said g k (Enters v from to) may = omega (arith, sum_one (false_said g) (Resident k v), late-none (tells_piece g (Resident k v)))
event-said g k (Answered ask to) may =
    let r = Goes (Replies (reply_to g.edges ask) k) in
    omega (arith, sum_one (false_said g) r, late-true (tells_piece g r) true (may, refl))
event-said g k (Hears v reply from) may =
    omega (arith, sum_one (false_said g) (Resident k (hear g v reply.found)), late-none (tells_piece g (Resident k (hear g v reply.found))))

-- what a worker makes of what it had and popped is no falser, grade by grade, and it gives out no false ask
-- or reply
pub becomes-low : (g : PartedRun) (k s : ℕ) (before after : List Piece) → Becomes g k before after
    → sum_by (low g s) after ≤ sum_by (low g s) before
becomes-low g k s before after b =
    let lower = becomes-lower g k (low g s) (λ p. 0) before after
    (λ e may. omega (arith, event-low g k s e may, nothing (taken_by k e), nothing (given_by g k e))) b in
    omega (arith, nothing before, nothing after)
  where
    nothing : (ps : List Piece) → sum_by (λ p. 0) ps ≡ 0
    nothing [] = refl
    nothing (p ∷ ps) = omega (arith, sum_by-cons (λ q. 0) p ps, nothing ps)

-- an item that comes is of the grade that it went with
pub comes-as : (g : PartedRun) (s : ℕ) (i : Item) → low g (suc s) (Comes i) ≡ low g s (Goes i)
comes-as g s i = late-same (tells_piece g (Comes i)) (tells_piece g (Goes i)) (item_grade (suc s) i)

comes-le : (g : PartedRun) (s : ℕ) (i : Item) → low g (suc s) (Comes i) ≤ low g s (Goes i)
comes-le g s i = let same = comes-as g s i in omega arith

first-grade : (g : PartedRun) (i : Item) → low g 0 (Comes i) ≤ false_said g (Goes i)
first-grade g (Travels v from to) =
    let none : nat_lt v.state.steps 0 ≡ false = below v.state.steps in
    let zero_low : low g 0 (Comes (Travels v from to)) ≡ 0 = ap (late (tells_piece g (Comes (Travels v from to)))) none ∙ late-none (tells_piece g (Comes (Travels v from to))) in
    omega arith
  where
    below : (n : ℕ) → nat_lt n 0 ≡ false
    below n = grind (arith, nat_tests)
first-grade g (Asks ask to) =
    let same = late-same (tells_piece g (Comes (Asks ask to))) (tells_piece g (Goes (Asks ask to))) true in omega arith
first-grade g (Replies reply from) =
    let same = late-same (tells_piece g (Comes (Replies reply from))) (tells_piece g (Goes (Replies reply from))) true in omega arith

pub sum-comes : (h : Piece → ℕ) (f : Item → Piece) (xs : List Item) → sum_by h (map f xs) ≡ sum_by (λ i. h (f i)) xs
sum-comes h f [] = refl
sum-comes h f (x ∷ xs) =
    omega (arith, sum-comes h f xs, sum_by-cons h (f x) (map f xs), sum_by-cons (λ i. h (f i)) x xs)

-- a crew: what all workers had, popped, have and pushed, and what is left in the rings. Each item that was
-- pushed was popped or is left; by grades the workers made nothing falser; and no false ask or reply was pushed
pub record Crew (g : PartedRun) (had have : List Piece) (popped pushed left : List Item) : Type 0 where
  pub rings : (h : Item → ℕ) → sum_by h pushed ≡ sum_by h popped + sum_by h left
  pub grades : (s : ℕ) → sum_by (low g s) have + sum_by (low g s) (map Goes pushed) ≤ sum_by (low g s) had + sum_by (low g s) (map Comes popped)
  pub says : sum_by (false_said g) (map Goes pushed) ≡ 0
  pub begins : (s : ℕ) → sum_by (low g s) had ≡ 0

-- so nothing false was popped, of any grade: by induction over the number of steps
pub crew-grades : (g : PartedRun) (had have : List Piece) (popped pushed left : List Item) → Crew g had have popped pushed left
    → (s : ℕ) → sum_by (λ i. low g s (Comes i)) popped ≡ 0
crew-grades g had have popped pushed left c zero =
    let first = sum_by-le-sum_by (λ i. low g 0 (Comes i)) (λ i. false_said g (Goes i)) popped (first-grade g) in
    let rings = c.rings (λ i. false_said g (Goes i)) in
    let says = c.says in
    omega (arith, sum-comes (false_said g) Goes pushed)
crew-grades g had have popped pushed left c (suc s) =
    let before = crew-grades g had have popped pushed left c s in
    let rings = c.rings (λ i. low g (suc s) (Comes i)) in
    let grades = c.grades s in
    let begins = c.begins s in
    let went = sum_by-le-sum_by (λ i. low g (suc s) (Comes i)) (λ i. low g s (Goes i)) pushed (comes-le g s) in
    omega (arith, sum-comes (low g s) Goes pushed, sum-comes (low g s) Comes popped)

-- and every item that was popped is true
pub crew-true : (g : PartedRun) (popped : List Item) → ((s : ℕ) → sum_by (λ i. low g s (Comes i)) popped ≡ 0)
    → Each (IsTruePiece g) (map Comes popped)
crew-true g [] h = tt
crew-true g (i ∷ is) h = (
  first i (λ s. (let all = h s in omega (arith, sum_by-cons (λ m. low g s (Comes m)) i is))),
  crew-true g is (λ s. (let all = h s in omega (arith, sum_by-cons (λ m. low g s (Comes m)) i is))),
)
  where
    first : (i : Item) → ((s : ℕ) → low g s (Comes i) ≡ 0) → IsTruePiece g (Comes i)
    first (Travels v from to) e =
        let at = e (suc v.state.steps) in
        let graded : nat_lt v.state.steps (suc v.state.steps) ≡ true = lt-ltb v.state.steps (suc v.state.steps) (omega arith) in
        late-zero (tells_piece g (Comes (Travels v from to))) (rw graded at at)
    first (Asks ask to) e = late-zero (tells_piece g (Comes (Asks ask to))) (e 0)
    first (Replies reply from) e = late-zero (tells_piece g (Comes (Replies reply from))) (e 0)
