-- Whether a piece of a world is true can be told.
use Rattle.std.proofs.Common.{◌≡◌, ℕ, zero, suc, ◌+◌, ◌-◌, ◌<◌, ◌≤◌, Bool, true, false, List, [], ◌∷◌, refl, ap, sym, ◌∙◌, arith, None, Some, inl, inr}
use Rattle.std.specs.Prelude.{Option, slice_get, ◌==◌, ◌⊎◌}
use Rattle.std.proofs.lemmas.Bool.{cases_lt, cases_eq, true≢false, false≢true}
use Rattle.std.proofs.lemmas.Option.{none-some, same_Some}
use Rattle.walk_model.specs.declared.messages.Question.{Question}
use Rattle.walk_model.specs.declared.messages.Question.TheVariants as question
use Rattle.walk_model.specs.declared.messages.Found.{Found}
use Rattle.walk_model.specs.declared.messages.Found.TheVariants as found
use Rattle.walk_model.specs.declared.states.State.{State}
use Rattle.walk_model.specs.Dart.{hit}
use Rattle.walk_model.specs.Walk.{next_state}
use Rattle.walk_model.specs.Letters.{Journey}
use Rattle.traveller.specs.declared.modes.Mode.{Mode}
use Rattle.traveller.specs.declared.modes.Mode.TheVariants.{Fresh, Darts, Asked, AskedRow, Chosen, Over}
use Rattle.traveller.specs.PartedRuns.{PartedRun, journey_from, walk_in, state_after}
use Rattle.traveller.specs.Walkers.{Walker, asked_vertex}
use Rattle.traveller.specs.Turns.{restart_coin, board_at}
use Rattle.traveller.specs.Replies.{found_in}
use Rattle.world_law.specs.Items.{Item, Travels, Asks, Replies, letter_of}
use Rattle.world_law.specs.Truth.{next_within, Chooses, Came, Needs, Passes, IsTrueTo}
use Rattle.world_law.specs.Worlds.{Piece, Resident, Aside, Printed, Comes, Goes}
use Rattle.world_law.specs.Soundness.{CameFrom, IsTrueItem, IsTruePiece}

-- it can be told whether it holds
abbrev pub Tells : Type 0 → Type 0
Tells P = P ⊎ (P → ⊥)

-- of two facts that follow from each other
tells_by : {P Q : Type 0} → (P → Q) → (Q → P) → Tells P → Tells Q
tells_by f g (inl p) = inl (f p)
tells_by f g (inr n) = inr (λ q. n (g q))

tells_both : {P Q : Type 0} → Tells P → Tells Q → Tells (P × Q)
tells_both (inl p) (inl q) = inl (p, q)
tells_both (inl p) (inr n) = inr (λ b. n b.1)
tells_both (inr n) q = inr (λ b. n b.0)

tells_nat : (a b : ℕ) → Tells (a ≡ b)
tells_nat a b = cases_eq a b

tells_lt : (a b : ℕ) → Tells (a < b)
tells_lt a b = by (cases_lt a b)
  where
    by : (a < b) ⊎ (b ≤ a) → Tells (a < b)
    by (inl h) = inl h
    by (inr h) = inr (λ l. omega arith)

tells_le : (a b : ℕ) → Tells (a ≤ b)
tells_le a b = by (cases_lt b a)
  where
    by : (b < a) ⊎ (a ≤ b) → Tells (a ≤ b)
    by (inl h) = inr (λ l. omega arith)
    by (inr h) = inl h

tells_bool : (a b : Bool) → Tells (a ≡ b)
tells_bool true true = inl refl
tells_bool true false = inr true≢false
tells_bool false true = inr false≢true
tells_bool false false = inl refl

tells_option : {A : Type 0} → ((x y : A) → Tells (x ≡ y)) → (o p : Option A) → Tells (o ≡ p)
tells_option t None None = inl refl
tells_option t None (Some y) = inr (none-some y)
tells_option t (Some x) None = inr (λ e. none-some x (sym e))
tells_option t (Some x) (Some y) = tells_by (ap Some) (same_Some x y) (t x y)

tells_pair : (x y : ℕ × ℕ) → Tells (x ≡ y)
tells_pair x y =
    tells_by (λ (b : (x.0 ≡ y.0) × (x.1 ≡ y.1)). (let e : x ≡ y = λ i. (b.0 i, b.1 i) in e))
    (λ e. (ap (λ (z : ℕ × ℕ). z.0) e, ap (λ (z : ℕ × ℕ). z.1) e))
    (tells_both (tells_nat x.0 y.0) (tells_nat x.1 y.1))

head_or : List ℕ → ℕ
head_or [] = 0
head_or (x ∷ xs) = x

tail_of : List ℕ → List ℕ
tail_of [] = []
tail_of (x ∷ xs) = xs

same_list : (x y : ℕ) (xs ys : List ℕ) → (x ≡ y) × (xs ≡ ys) → x ∷ xs ≡ y ∷ ys
same_list x y xs ys b = λ i. b.0 i ∷ b.1 i

parts_list : (x y : ℕ) (xs ys : List ℕ) → x ∷ xs ≡ y ∷ ys → (x ≡ y) × (xs ≡ ys)
unfolding head_or tail_of
parts_list x y xs ys e = (ap head_or e, ap tail_of e)

tells_list : (xs ys : List ℕ) → Tells (xs ≡ ys)
tells_list [] [] = inl refl
tells_list [] (y ∷ ys) = inr (λ e. absurd (cc))
tells_list (x ∷ xs) [] = inr (λ e. absurd (cc))
tells_list (x ∷ xs) (y ∷ ys) =
    tells_by (same_list x y xs ys) (parts_list x y xs ys) (tells_both (tells_nat x y) (tells_list xs ys))

record SameState (s t : State) : Type 0 where
  at : s.at ≡ t.at
  previous : s.previous ≡ t.previous
  phase : s.phase ≡ t.phase
  steps : s.steps ≡ t.steps
  place : s.place ≡ t.place

same_state : (s t : State) → SameState s t → s ≡ t
same_state s t h = λ i. record {
  at = h.at i;
  previous = h.previous i;
  phase = h.phase i;
  steps = h.steps i;
  place = h.place i;
}

parts_state : (s t : State) → s ≡ t → SameState s t
parts_state s t e = record {
  at = ap (λ (z : State). z.at) e;
  previous = ap (λ (z : State). z.previous) e;
  phase = ap (λ (z : State). z.phase) e;
  steps = ap (λ (z : State). z.steps) e;
  place = ap (λ (z : State). z.place) e;
}

tells_state : (s t : State) → Tells (s ≡ t)
tells_state s t =
    tells_by (λ b. same_state s t (record { at = b.0; previous = b.1.0; phase = b.1.1.0; steps = b.1.1.1.0; place = b.1.1.1.1 }))
    (λ e. (let p = parts_state s t e in (p.at, (p.previous, (p.phase, (p.steps, p.place))))))
    (tells_both (tells_nat s.at t.at) (tells_both (tells_option tells_nat s.previous t.previous)
    (tells_both (tells_nat s.phase t.phase) (tells_both (tells_nat s.steps t.steps) (tells_nat s.place t.place)))))

about_t : Question → ℕ
about_t (question.Edge t x) = t
about_t (question.Row t) = t

about_x : Question → ℕ
about_x (question.Edge t x) = x
about_x (question.Row t) = 0

parts_edge : (t x u y : ℕ) → question.Edge t x ≡ question.Edge u y → (t ≡ u) × (x ≡ y)
unfolding about_t about_x
parts_edge t x u y e = (ap about_t e, ap about_x e)

parts_row : (t u : ℕ) → question.Row t ≡ question.Row u → t ≡ u
unfolding about_t
parts_row t u e = ap about_t e

pub tells_question : (q r : Question) → Tells (q ≡ r)
tells_question (question.Edge t x) (question.Edge u y) =
    tells_by (λ (b : (t ≡ u) × (x ≡ y)). (let e : question.Edge t x ≡ question.Edge u y = λ i. question.Edge (b.0 i) (b.1 i) in e))
    (parts_edge t x u y) (tells_both (tells_nat t u) (tells_nat x y))
tells_question (question.Edge t x) (question.Row u) = inr (λ e. absurd (cc))
tells_question (question.Row t) (question.Edge u y) = inr (λ e. absurd (cc))
tells_question (question.Row t) (question.Row u) = tells_by (ap question.Row) (parts_row t u) (tells_nat t u)

near_of : Found → Bool
near_of (found.Edge near) = near
near_of (found.Row ends) = false

ends_in : Found → List ℕ
ends_in (found.Edge near) = []
ends_in (found.Row ends) = ends

parts_near : (a b : Bool) → found.Edge a ≡ found.Edge b → a ≡ b
unfolding near_of
parts_near a b e = ap near_of e

parts_ends : (a b : List ℕ) → found.Row a ≡ found.Row b → a ≡ b
unfolding ends_in
parts_ends a b e = ap ends_in e

tells_found : (a b : Found) → Tells (a ≡ b)
tells_found (found.Edge a) (found.Edge b) = tells_by (ap found.Edge) (parts_near a b) (tells_bool a b)
tells_found (found.Edge a) (found.Row b) = inr (λ e. absurd (cc))
tells_found (found.Row a) (found.Edge b) = inr (λ e. absurd (cc))
tells_found (found.Row a) (found.Row b) = tells_by (ap found.Row) (parts_ends a b) (tells_list a b)

-- what can be told of each number can be told of all below a bound
tells_below : (P : ℕ → Type 0) → ((i : ℕ) → Tells (P i)) → (n : ℕ) → Tells ((i : ℕ) → i < n → P i)
tells_below P t zero = inl (λ i h. absurd (omega arith))
tells_below P t (suc n) =
    tells_by (λ b. λ i h. by i b (cases_lt i n) h) (λ a. ((λ i h. a i (omega arith)), a n (omega arith)))
    (tells_both (tells_below P t n) (t n))
  where
    by : (i : ℕ) → ((k : ℕ) → k < n → P k) × P n → (i < n) ⊎ (n ≤ i) → i < suc n → P i
    by i b (inl h) l = b.0 i h
    by i b (inr h) l = let e : n ≡ i = omega arith in rw e at (b.1)

tells_chooses : (j : Journey) (most : ℕ) (s : State) → Tells (Chooses j most s)
tells_chooses j most s =
    tells_by (λ b. record { going = b.0; stays = b.1.0; onward = b.1.1.0; some = b.1.1.1 })
    (λ h. (h.going, (h.stays, (h.onward, h.some))))
    (tells_both (tells_bool _ true) (tells_both (tells_bool _ false) (tells_both (tells_bool _ false) (tells_bool _ false))))

tells_came : (j : Journey) (most : ℕ) (s : State) (left place : ℕ) → Tells (Came j most s left place)
tells_came j most s left place =
    let gone = j.course.plan.retries - left in
    tells_by
    (λ b. record {
      chooses = b.0;
      thrown = gone;
      all = (let few = b.1.0 in omega arith);
      place = b.1.1.0;
      vain = b.1.1.1;
    })
    (λ h.
    let all = h.all in
    let at = h.place in
    let same : h.thrown ≡ gone = omega arith in
    (h.chooses, (omega arith, (omega arith, (λ i l. h.vain i (omega arith))))))
    (tells_both (tells_chooses j most s)
    (tells_both (tells_le left j.course.plan.retries)
    (tells_both (tells_nat place ((restart_coin j s).1 + gone))
    (tells_below (λ i. hit (board_at j s) (j.course.words ((restart_coin j s).1 + i)) ≡ None)
    (λ i. tells_option tells_nat _ None) gone))))

tells_needs : (j : Journey) (most : ℕ) (s : State) (left place : ℕ) (needed : Option Question) (q : Question)
    → Tells (Needs j most s left place needed q)
tells_needs j most s left place needed q =
    tells_by (λ b. record { came = b.0; needed = b.1 }) (λ h. (h.came, h.needed))
    (tells_both (tells_came j most s left place) (tells_option tells_question needed (Some q)))

tells_passes : (j : Journey) (most : ℕ) (s : State) (m : Mode) → Tells (Passes j most s m)
tells_passes j most s Fresh = inl tt
tells_passes j most s (Darts left place) = tells_came j most s left place
tells_passes j most s (Asked left place q) = tells_needs j most s (suc left) place _ q
tells_passes j most s (AskedRow place q) = tells_needs j most s 0 place _ q
tells_passes j most s (Chosen edge place) =
    tells_by (λ b. record { chooses = b.0; taken = b.1 }) (λ h. (h.chooses, h.taken))
    (tells_both (tells_chooses j most s) (tells_option tells_pair _ (Some (edge, place))))
tells_passes j most s Over = tells_option tells_state (next_within j most s) None

pub tells_true : (g : PartedRun) (v : Walker) → Tells (IsTrueTo g v)
tells_true g v =
    let j = journey_from g v.number v.start in
    tells_by
    (λ b. record { number = b.0; start = b.1.0; length = b.1.1.0; within = b.1.1.1.0; state = b.1.1.1.1.0; mode = b.1.1.1.1.1 })
    (λ h. (h.number, (h.start, (h.length, (h.within, (h.state, h.mode))))))
    (tells_both (tells_lt v.number g.walkers) (tells_both (tells_nat v.start (g.start v.number))
    (tells_both (tells_nat v.length g.plan.length) (tells_both (tells_le v.state.steps v.length)
    (tells_both (tells_option tells_state (state_after v.state.steps j.course) (Some v.state))
    (tells_passes j v.length v.state v.mode))))))

tells_came_from : (g : PartedRun) (v : Walker) (from to : ℕ) (o : Option State)
    → state_after (v.state.steps - 1) (journey_from g v.number v.start).course ≡ o → Tells (CameFrom g v from to)
tells_came_from g v from to None e =
    inr (λ h.
    let count = h.steps in
    let less : v.state.steps - 1 ≡ h.before.steps = omega arith in
    let reached = h.reached in
    none-some h.before (sym (rw less at e) ∙ reached))
tells_came_from g v from to (Some s) e =
    tells_by
    (λ b.
    let count = b.0 in
    let less : v.state.steps - 1 ≡ s.steps = omega arith in
    record { before = s; steps = b.0; reached = rw less at e; step = b.1.0; left = b.1.1.0; comes = b.1.1.1.0; other = b.1.1.1.1 })
    (λ h.
    let count = h.steps in
    let less : v.state.steps - 1 ≡ h.before.steps = omega arith in
    let here = rw less at e in
    let same : h.before ≡ s = same_Some h.before s (sym h.reached ∙ here) in
    (rw same at (h.steps), (rw same at (h.step), (rw same at (h.left), (h.comes, h.other)))))
    (tells_both (tells_nat v.state.steps (suc s.steps))
    (tells_both (tells_option tells_state (next_state (journey_from g v.number v.start).course s) (Some v.state))
    (tells_both (tells_nat (g.owner s.at) from) (tells_both (tells_nat (g.owner v.state.at) to) (tells_bool (from == to) false)))))

tells_fresh : (m : Mode) → Tells (m ≡ Fresh)
tells_fresh Fresh = inl refl
tells_fresh (Darts left place) = inr (λ e. absurd (cc))
tells_fresh (Asked left place q) = inr (λ e. absurd (cc))
tells_fresh (AskedRow place q) = inr (λ e. absurd (cc))
tells_fresh (Chosen edge place) = inr (λ e. absurd (cc))
tells_fresh Over = inr (λ e. absurd (cc))

tells_item : (g : PartedRun) (i : Item) → Tells (IsTrueItem g i)
tells_item g (Travels v from to) =
    tells_by (λ b. record { fresh = b.0; holds = b.1.0; came = b.1.1 }) (λ h. (h.fresh, (h.holds, h.came)))
    (tells_both (tells_fresh v.mode) (tells_both (tells_true g v) (tells_came_from g v from to _ refl)))
tells_item g (Asks ask to) = tells_nat (g.owner (asked_vertex ask.question)) to
tells_item g (Replies reply from) =
    tells_both (tells_nat (g.owner (asked_vertex reply.ask.question)) from) (tells_found reply.found (found_in g.edges reply.ask.question))

-- whether a piece is true can be told
pub tells_piece : (g : PartedRun) (p : Piece) → Tells (IsTruePiece g p)
tells_piece g (Resident k v) = tells_both (tells_true g v) (tells_nat (g.owner v.state.at) k)
tells_piece g (Aside k i) = tells_both (tells_item g i) (tells_nat (letter_of i).to k)
tells_piece g (Printed k p) = tells_option tells_nat (slice_get (walk_in g p.walker) p.step) (Some p.at)
tells_piece g (Comes i) = tells_item g i
tells_piece g (Goes i) = tells_item g i
