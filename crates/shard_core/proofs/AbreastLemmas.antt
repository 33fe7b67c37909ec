-- Travellers that go abreast: what a turn of each does to the prints that are still to come.
use Rattle.std.proofs.Common.{◌≡◌, ◌<◌, ◌≤◌, ◌+◌, ◌*◌, ℕ, zero, suc, Bool, true, false, List, [], ◌∷◌, ◌++◌, length, take, set, get_or, append_assoc, Option, Some, None, refl, ap, sym, ◌∙◌, inl, inr, arith}
use Rattle.std.specs.Prelude.{◌-◌, ◌⊎◌, nat_lt, All, IfSome, IsTrue, sum_by, if◌then◌else◌}
use Rattle.std.proofs.lemmas.Bool.Decides.{nat_tests}
use Rattle.std.proofs.Math.Nat.{suc-mul}
use Rattle.std.proofs.lemmas.List.Sums.{sum_by-append, sum_by-cons, sum_by-set, sum_by-remove}
use Rattle.std.proofs.lemmas.List.Edits.{get_or-remove_below, get_or-remove_above, length-remove}
use Rattle.std.specs.List.{remove}
use Rattle.std.proofs.lemmas.Bool.{cases_eq}
use Rattle.std.proofs.lemmas.List.{append-nil, take_all, get_or-set_same, get_or-set_other, length-set}
use Rattle.std.proofs.lemmas.List.Elements.{All-append}
use Rattle.std.proofs.Math.Seq.{take-suc}
use Rattle.walk_model.specs.declared.programme.Rule.{Rule}
use Rattle.walk_model.specs.declared.programme.Rule.TheVariants.{Plain, Scheme, Node2vec}
use Rattle.walk_model.specs.declared.results.Print.{Print}
use Rattle.walk_model.specs.declared.states.State.{State}
use Rattle.walk_model.specs.Course.{Course}
use Rattle.walk_model.specs.Cuts.{owner}
use Rattle.walk_model.specs.Letters.{Journey}
use Rattle.walk_model.specs.Prints.{prints_from}
use Rattle.walk_model.specs.Walk.{first_state, next_state, entries_after}
use Rattle.csr_store.specs.RowGraph.{RowGraph}
use Rattle.vertex_partition.specs.PartViews.{PartView, Owns, IsPartOf}
use Rattle.traveller.specs.declared.modes.Mode.{Mode}
use Rattle.traveller.specs.declared.modes.Mode.TheVariants.{Fresh, Darts, Asked, AskedRow, Chosen, Over}
use Rattle.traveller.specs.declared.runs.Run.{Run}
use Rattle.traveller.specs.Ahead.{left_print, ahead_from, prints_ahead}
use Rattle.traveller.specs.Deciding.{gone}
use Rattle.traveller.specs.Locals.{IsLocal}
use Rattle.traveller.specs.PartedRuns.{PartedRun, journey_from, walk_in}
use Rattle.traveller.specs.Runs.{start_rank}
use Rattle.traveller.specs.Standing.{IsWithin, StandsIn, StepsLocally, Suits, journey_on, own_graph, parted}
use Rattle.traveller.specs.Steps.{step_from}
use Rattle.traveller.specs.Turns.{asker_at, stepped}
use Rattle.traveller.specs.Walkers.{Walker, first_walker, is_fresh, is_over, is_ready}
use Rattle.traveller.proofs.LocalLemmas.{asker-none}
use Rattle.traveller.proofs.StepLaws.{turned-step, ahead-step, next-more}
use Rattle.traveller.proofs.TurnLemmas.{halves}
use Rattle.shard_core.specs.Abreast.{OwnsAll, IsReadyIn, IsOnWay, IsBetween, Decides, Goes, Turns, EachBecomes, turn_prints, heft, first_prints, first_heft, turns_left}

local-by : (p : PartView) (rule : Rule) (previous : Option ℕ) → OwnsAll p → IfSome previous (λ t. t < p.vertices) → IsLocal p rule previous
local-by p Plain previous all within = tt
local-by p (Scheme kinds) previous all within = tt
local-by p (Node2vec a b) None all within = tt
local-by p (Node2vec a b) (Some t) all within = record { below = within; owner_is = all t within }

-- where a part owns all vertices, a step asks no other part
pub local-all : (run : Run) (p : PartView) (w : Walker) → OwnsAll p → IsWithin p.vertices w → StepsLocally run p w
local-all run p w all within = local-by p run.plan.rule w.state.previous all within.previous

-- a walker at the beginning of a step can go on
pub fresh-ready : (w : Walker) → w.mode ≡ Fresh → IsTrue (is_ready w.mode)
fresh-ready w fresh = ap is_ready fresh

pub way-ready : (run : Run) (p : PartView) (w : Walker) → IsOnWay run p w → IsReadyIn run p w
way-ready run p w way = record { stands = way.stands; ready = fresh-ready w way.fresh }

-- a walker that decides and then goes makes a turn
pub turn-halves : (run : Run) (p : PartView) (a b c : Walker) → IsReadyIn run p a → Decides run p a b → Goes run p b c → Turns run p a c
turn-halves run p a b c way decides goes = record {
  data_is = λ g of.
      let r : PartedRun = parted g run p.cuts in
      let j : Journey = journey_on g run p.cuts a in
      let same : journey_on g run p.cuts b ≡ j =
      ap (λ n. journey_from r n b.start) decides.number ∙ ap (journey_from r a.number) decides.start in
      goes.data_is g of ∙ ap (λ k. gone k b) same ∙ ap (gone j) (decides.data_is g of) ∙ halves j a way.ready;
  within = goes.within;
  stands = goes.stands decides.stands;
}

-- a part is one of the graph of its own edges
pub own-part : (p : PartView) → IsPartOf (own_graph p) p
own-part p = record { vertices = refl; rows = λ v owns. refl; has = λ t x owns. refl }

-- a turn comes to the next state of the walk
pub turn-step : (g : RowGraph) (run : Run) (p : PartView) (a c : Walker) → IsPartOf g p → OwnsAll p → IsOnWay run p a → Turns run p a c
    → c ≡ stepped a (if nat_lt a.state.steps a.length then next_state (journey_on g run p.cuts a).course a.state else None)
turn-step g run p a c of all way turns =
    let j : Journey = journey_on g run p.cuts a in
    let here : Owns p a.state.at = record { below = way.stands.within.at; owner_is = way.stands.owned } in
    let none : asker_at j a.state ≡ None =
    asker-none j p a.state run.plan.rule a.state.previous (λ v. refl) here (local-all run p a all way.stands.within) in
    turns.data_is g of ∙ turned-step j a a.mode none (fresh-ready a way.fresh) ∙ ap (λ m. stepped a (step_from j a m)) way.fresh

stepped-number : (a : Walker) (o : Option State) → (stepped a o).number ≡ a.number
stepped-number a None = refl
stepped-number a (Some t) = refl

stepped-start : (a : Walker) (o : Option State) → (stepped a o).start ≡ a.start
stepped-start a None = refl
stepped-start a (Some t) = refl

-- the prints ahead of a walker are the one that its turn leaves and those that are ahead of it then
pub heft-turn : (h : Print → ℕ) (g : RowGraph) (run : Run) (p : PartView) (a c : Walker) → IsPartOf g p → OwnsAll p → IsOnWay run p a
    → Turns run p a c → heft h g run p a ≡ sum_by h (left_print c) + heft h g run p c
heft-turn h g run p a c of all way turns =
    let r : PartedRun = parted g run p.cuts in
    let course : Course = (journey_on g run p.cuts a).course in
    let o : Option State = if nat_lt a.state.steps a.length then next_state course a.state else None in
    let is : c ≡ stepped a o = turn-step g run p a c of all way turns in
    let number : c.number ≡ a.number = ap (λ w. w.number) is ∙ stepped-number a o in
    let start : c.start ≡ a.start = ap (λ w. w.start) is ∙ stepped-start a o in
    let same : journey_on g run p.cuts c ≡ journey_on g run p.cuts a =
    ap (λ n. journey_from r n c.start) number ∙ ap (journey_from r a.number) start in
    ap (sum_by h) (ahead-step course a c way.fresh is)
    ∙ sum_by-append h (left_print c) (prints_ahead course c)
    ∙ ap (λ j. sum_by h (left_print c) + sum_by h (prints_ahead j.course c)) (sym same)

left-stepped : (c : Course) (a : Walker) (o : Option State) → a.mode ≡ Fresh → a.state.steps < a.length → o ≡ next_state c a.state
    → turns_left (stepped a o) < turns_left a
left-stepped c a None fresh low is = rw fresh (omega arith)
left-stepped c a (Some t) fresh low is =
    let one : t.steps ≡ a.state.steps + 1 = next-more c a.state t (sym is) in
    rw (fresh, one) (omega (arith, low))

-- a turn leaves fewer turns
pub left-turn : (run : Run) (p : PartView) (a c : Walker) → OwnsAll p → IsOnWay run p a → Turns run p a c → turns_left c < turns_left a
left-turn run p a c all way turns = by (nat_lt a.state.steps a.length) refl
  where
    course : Course
    course = (journey_on (own_graph p) run p.cuts a).course

    is : c ≡ stepped a (if nat_lt a.state.steps a.length then next_state course a.state else None)
    is = turn-step (own_graph p) run p a c (own-part p) all way turns

    by : (b : Bool) → nat_lt a.state.steps a.length ≡ b → turns_left c < turns_left a
    by false e =
        let over : c ≡ stepped a None = is ∙ rw e refl in
        rw (over, way.fresh) (omega arith)
    by true e =
        let low : a.state.steps < a.length = grind (arith, nat_tests) in
        let next : c ≡ stepped a (next_state course a.state) = is ∙ rw e refl in
        rw next (left-stepped course a (next_state course a.state) way.fresh low refl)

stepped-between : (run : Run) (p : PartView) (a c : Walker) (o : Option State) → OwnsAll p → IsWithin p.vertices c
    → (owner p.cuts c.state.at ≡ p.part → StandsIn run p c) → c ≡ stepped a o → IsBetween run p c
stepped-between run p a c None all within stands is = inl (ap (λ w. is_over w.mode) is)
stepped-between run p a c (Some t) all within stands is =
    inr (record { stands = stands (all c.state.at within.at); fresh = ap (λ w. w.mode) is })

-- and then a walker stands at the beginning of a step, or at the end of its walk
pub between-turn : (run : Run) (p : PartView) (a c : Walker) → OwnsAll p → IsOnWay run p a → Turns run p a c → IsBetween run p c
between-turn run p a c all way turns =
    stepped-between run p a c (if nat_lt a.state.steps a.length then next_state (journey_on (own_graph p) run p.cuts a).course a.state else None)
    all turns.within turns.stands (turn-step (own_graph p) run p a c (own-part p) all way turns)

-- the turns of several walkers
pub hefts-turned : (h : Print → ℕ) (g : RowGraph) (run : Run) (p : PartView) (xs ys : List Walker) → IsPartOf g p → OwnsAll p
    → All (IsOnWay run p) xs → EachBecomes (Turns run p) xs ys
    → sum_by (heft h g run p) xs ≡ sum_by h (turn_prints ys) + sum_by (heft h g run p) ys
unfolding turn_prints
hefts-turned h g run p [] [] of all way turns = refl
hefts-turned h g run p [] (c ∷ ys) of all way turns = absurd (omega (arith, turns.0))
hefts-turned h g run p (a ∷ xs) [] of all way turns = absurd (omega (arith, turns.0))
hefts-turned h g run p (a ∷ xs) (c ∷ ys) of all way turns =
    let one = heft-turn h g run p a c of all (way 0 a (omega arith)) (turns.1 0 a (omega arith)) in
    let rest = hefts-turned h g run p xs ys of all (λ k d low. way (suc k) d (omega (arith, low)))
    (omega (arith, turns.0), λ k d low. turns.1 (suc k) d (omega (arith, low))) in
    let both = sum_by-append h (left_print c) (turn_prints ys) in
    let front = sum_by-cons (heft h g run p) a xs in
    let back = sum_by-cons (heft h g run p) c ys in
    omega (arith, one, rest, both, front, back)

pub lefts-turned : (run : Run) (p : PartView) (xs ys : List Walker) → OwnsAll p → All (IsOnWay run p) xs → EachBecomes (Turns run p) xs ys
    → sum_by turns_left ys + length xs ≤ sum_by turns_left xs
lefts-turned run p [] [] all way turns = omega arith
lefts-turned run p [] (c ∷ ys) all way turns = absurd (omega (arith, turns.0))
lefts-turned run p (a ∷ xs) [] all way turns = absurd (omega (arith, turns.0))
lefts-turned run p (a ∷ xs) (c ∷ ys) all way turns =
    let one = left-turn run p a c all (way 0 a (omega arith)) (turns.1 0 a (omega arith)) in
    let rest = lefts-turned run p xs ys all (λ k d low. way (suc k) d (omega (arith, low)))
    (omega (arith, turns.0), λ k d low. turns.1 (suc k) d (omega (arith, low))) in
    let front = sum_by-cons turns_left a xs in
    let back = sum_by-cons turns_left c ys in
    omega (arith, one, rest, front, back)

pub between-turned : (run : Run) (p : PartView) (xs ys : List Walker) → OwnsAll p → All (IsOnWay run p) xs → EachBecomes (Turns run p) xs ys
    → All (IsBetween run p) ys
between-turned run p xs ys all way turns = λ k d low.
    let there : k < length xs = omega (arith, low, turns.0) in
    between-turn run p (get_or xs k d) (get_or ys k d) all (way k d there) (turns.1 k d there)

-- the next traveller, at its start
next-heft : (h : Print → ℕ) (g : PartedRun) (n : ℕ)
    → sum_by h (first_prints g (suc n))
    ≡ sum_by h (first_prints g n)
    + (h (record { walker = n; step = 0; at = g.start n })
    + sum_by h (prints_from n 1 (entries_after g.plan.length (journey_from g n (g.start n)).course (first_state (g.start n)))))
unfolding first_prints prints_from
next-heft h g n =
    sum_by-append h (first_prints g n) (prints_from n 0 (walk_in g n))
    ∙ ap (λ k. sum_by h (first_prints g n) + k) (sum_by-cons h (record { walker = n; step = 0; at = g.start n })
    (prints_from n 1 (entries_after g.plan.length (journey_from g n (g.start n)).course (first_state (g.start n)))))

-- leaves the print of its start, and has the rest of its walk ahead
pub first-hefts : (h : Print → ℕ) (g : RowGraph) (run : Run) (p : PartView) (n start : ℕ) (ps : List Print)
    → start ≡ start_rank run.plan.start run.vertices run.start n
    → sum_by h (ps ++ record { walker = n; step = 0; at = start } ∷ []) + heft h g run p (first_walker n start run.plan.length) + first_heft h g run p n
    ≡ sum_by h ps + first_heft h g run p (n + 1)
first-hefts h g run p n start ps is =
    let r : PartedRun = parted g run p.cuts in
    let one = sum_by-append h ps (record { walker = n; step = 0; at = start } ∷ []) in
    let single = sum_by-cons h (record { walker = n; step = 0; at = start }) [] in
    let rest : List Print = prints_from n 1 (entries_after run.plan.length (journey_from r n start).course (first_state start)) in
    let whole : run.plan.length - 0 ≡ run.plan.length = omega arith in
    let ahead : heft h g run p (first_walker n start run.plan.length) ≡ sum_by h rest =
    ap (λ k. sum_by h (prints_from n 1 (entries_after k (journey_from r n start).course (first_state start)))) whole in
    let next : first_heft h g run p (suc n) ≡ first_heft h g run p n + (h (record { walker = n; step = 0; at = start }) + sum_by h rest) =
    next-heft h r n ∙ ap (λ s. sum_by h (first_prints r n) + (h (record { walker = n; step = 0; at = s })
    + sum_by h (prints_from n 1 (entries_after run.plan.length (journey_from r n s).course (first_state s))))) (sym is) in
    let more : n + 1 ≡ suc n = omega arith in
    rw more (omega (arith, one, single, ahead, next))

-- it stands at the beginning of its first step
pub first-way : (run : Run) (p : PartView) (n start length : ℕ) → Suits run p → OwnsAll p → start < run.vertices
    → IsOnWay run p (first_walker n start length)
first-way run p n start length suits all low =
    let there : start < p.vertices = (let same = suits.vertices in omega (arith, low, same)) in
    record {
      stands = record {
        suits = suits;
        within = record { start = there; at = there; previous = tt };
        owned = all start there;
        possible = tt;
      };
      fresh = refl;
    }

-- a walker at the end of its walk leaves no print, and makes no turn
pub over-heft : (h : Print → ℕ) (g : RowGraph) (run : Run) (p : PartView) (w : Walker) → is_over w.mode ≡ true → heft h g run p w ≡ 0
over-heft h g run p w over = by w.mode over
  where
    by : (m : Mode) → is_over m ≡ true → sum_by h (ahead_from (journey_on g run p.cuts w).course w m) ≡ 0
    by Fresh e = absurd (cc)
    by (Darts left place) e = refl
    by (Asked left place question) e = refl
    by (AskedRow place question) e = refl
    by (Chosen edge place) e = refl
    by Over e = refl

pub over-left : (w : Walker) → is_over w.mode ≡ true → turns_left w ≡ 0
over-left w over = by w.mode over
  where
    by : (m : Mode) → is_over m ≡ true → (if is_fresh m then suc (w.length - w.state.steps) else 0) ≡ 0
    by Fresh e = absurd (cc)
    by (Darts left place) e = refl
    by (Asked left place question) e = refl
    by (AskedRow place question) e = refl
    by (Chosen edge place) e = refl
    by Over e = refl

-- one that isn't stands at the beginning of a step
pub still-way : (run : Run) (p : PartView) (w : Walker) → IsBetween run p w → is_over w.mode ≡ false → IsOnWay run p w
still-way run p w between not = elim between [ inl over ↦ absurd (cc) | inr way ↦ way ]

-- one element is taken out of a list
pub all-removed : (P : Walker → Type 0) (ws : List Walker) (i : ℕ) → i < length ws → All P ws → All P (remove ws i)
all-removed P ws i there all = λ k d low.
    let count = length-remove ws i there in
    elim (le_lt k i) [
      | inl early ↦ rw (get_or-remove_below ws i d k early there) (all k d (omega (arith, early, there)))
      | inr late ↦ rw (get_or-remove_above ws i d k late there) (all (k + 1) d (omega (arith, low, count, there)))
    ]
  where
    le_lt : (a b : ℕ) → (a < b) ⊎ (b ≤ a)
    le_lt a b = elim (nat_lt a b) as (λ t. nat_lt a b ≡ t → (a < b) ⊎ (b ≤ a)) [
      | true ↦ λ e. inl (grind (arith, nat_tests))
      | false ↦ λ e. inr (grind (arith, nat_tests))
    ] refl

-- no print yet
pub prints-none : (ps : List Print) (ws : List Walker) → ps ≡ ps ++ turn_prints (take 0 ws)
unfolding turn_prints
prints-none ps ws = sym (append-nil ps)

turn_prints-append : (xs ys : List Walker) → turn_prints (xs ++ ys) ≡ turn_prints xs ++ turn_prints ys
unfolding turn_prints
turn_prints-append [] ys = refl
turn_prints-append (x ∷ xs) ys =
    ap (λ (l : List Print). left_print x ++ l) (turn_prints-append xs ys) ∙ sym (append_assoc (left_print x) (turn_prints xs) (turn_prints ys))

turn_prints-one : (w : Walker) → turn_prints (w ∷ []) ≡ left_print w
unfolding turn_prints
turn_prints-one w = append-nil (left_print w)

-- one walker's more
pub prints-more : (ps qs rs : List Print) (ws : List Walker) (i : ℕ) (w : Walker) → i < length ws → w ≡ get_or ws i w
    → qs ≡ ps ++ turn_prints (take i ws) → rs ≡ qs ++ left_print w → rs ≡ ps ++ turn_prints (take (i + 1) ws)
prints-more ps qs rs ws i w low at so_far one =
    let next : i + 1 ≡ suc i = omega arith in
    let more : turn_prints (take (i + 1) ws) ≡ turn_prints (take i ws) ++ left_print w =
    ap (λ n. turn_prints (take n ws)) next ∙ ap turn_prints (take-suc ws i w low)
    ∙ turn_prints-append (take i ws) (get_or ws i w ∷ []) ∙ ap (λ l. turn_prints (take i ws) ++ l) (turn_prints-one (get_or ws i w) ∙ ap left_print (sym at)) in
    one ∙ ap (λ (l : List Print). l ++ left_print w) so_far ∙ append_assoc ps (turn_prints (take i ws)) (left_print w)
    ∙ ap (λ (l : List Print). ps ++ l) (sym more)

-- all of them
pub prints-all : (ps qs : List Print) (ws : List Walker) (i : ℕ) → length ws ≤ i → qs ≡ ps ++ turn_prints (take i ws) → qs ≡ ps ++ turn_prints ws
prints-all ps qs ws i past so_far = so_far ∙ ap (λ l. ps ++ turn_prints l) (take_all i ws past)

-- what is true of all walkers, and of one more
pub all-more : (P : Walker → Type 0) (ws : List Walker) (w : Walker) → All P ws → P w → All P (ws ++ w ∷ [])
all-more P ws w all one = All-append P ws (w ∷ []) all single
  where
    single : All P (w ∷ [])
    single zero d low = one
    single (suc k) d low = absurd (omega arith)

-- one walker more in a lane
pub hefts-more : (h : Print → ℕ) (g : RowGraph) (run : Run) (p : PartView) (ws : List Walker) (w : Walker) (ps qs os : List Print) (first n : ℕ)
    → sum_by h ps + sum_by (heft h g run p) ws + first ≡ sum_by h os + first_heft h g run p n
    → sum_by h qs + heft h g run p w + first_heft h g run p n ≡ sum_by h ps + first_heft h g run p (n + 1)
    → sum_by h qs + sum_by (heft h g run p) (ws ++ w ∷ []) + first ≡ sum_by h os + first_heft h g run p (n + 1)
hefts-more h g run p ws w ps qs os first n before one =
    let both = sum_by-append (heft h g run p) ws (w ∷ []) in
    let single = sum_by-cons (heft h g run p) w [] in
    omega (arith, before, one, both, single)

-- what is true of the walkers before a place, and of the one there
pub done-more : (P : Walker → Type 0) (ws : List Walker) (k : ℕ) → ((j : ℕ) (d : Walker) → j < k → P (get_or ws j d))
    → ((d : Walker) → P (get_or ws k d)) → (j : ℕ) (d : Walker) → j < k + 1 → P (get_or ws j d)
done-more P ws k before here j d low =
    elim (cases_eq j k) [
      | inl same ↦ rw same (here d)
      | inr other ↦ before j d (omega (arith, low, other))
    ]

-- a walker that takes the place of another
pub done-set : (P : Walker → Type 0) (ws : List Walker) (k : ℕ) (w : Walker) → k < length ws → ((j : ℕ) (d : Walker) → j < k → P (get_or ws j d))
    → P w → (j : ℕ) (d : Walker) → j < k + 1 → P (get_or (set ws k w) j d)
done-set P ws k w there before one j d low =
    elim (cases_eq j k) [
      | inl same ↦ rw (same, get_or-set_same ws k w d there) one
      | inr other ↦ rw (get_or-set_other ws k j w d other) (before j d (omega (arith, low, other)))
    ]

pub all-set : (P : Walker → Type 0) (ws : List Walker) (k : ℕ) (w : Walker) → k < length ws → All P ws → P w → All P (set ws k w)
all-set P ws k w there all one = λ j d low.
    let long = length-set ws k w in
    elim (cases_eq j k) [
      | inl same ↦ rw (same, get_or-set_same ws k w d there) one
      | inr other ↦ rw (get_or-set_other ws k j w d other) (all j d (omega (arith, low, long)))
    ]

-- those before one that is taken out stay
pub done-removed : (P : Walker → Type 0) (ws : List Walker) (k : ℕ) → k < length ws → ((j : ℕ) (d : Walker) → j < k → P (get_or ws j d))
    → (j : ℕ) (d : Walker) → j < k → P (get_or (remove ws k) j d)
done-removed P ws k there before j d low = rw (get_or-remove_below ws k d j low there) (before j d low)

-- the hefts of lanes where the next traveller takes the place of one that has ended
pub hefts-set : (h : Print → ℕ) (g : RowGraph) (run : Run) (p : PartView) (ws os : List Walker) (k : ℕ) (w : Walker) (ps qs is : List Print) (first n : ℕ)
    → k < length ws → is_over (get_or ws k w).mode ≡ true
    → sum_by h ps + sum_by (heft h g run p) ws + first ≡ sum_by h is + sum_by (heft h g run p) os + first_heft h g run p n
    → sum_by h qs + heft h g run p w + first_heft h g run p n ≡ sum_by h ps + first_heft h g run p (n + 1)
    → sum_by h qs + sum_by (heft h g run p) (set ws k w) + first ≡ sum_by h is + sum_by (heft h g run p) os + first_heft h g run p (n + 1)
hefts-set h g run p ws os k w ps qs is first n there over before one =
    let swapped = sum_by-set (heft h g run p) ws k w w there in
    let none = over-heft h g run p (get_or ws k w) over in
    omega (arith, before, one, swapped, none)

-- or where it is taken out
pub hefts-removed : (h : Print → ℕ) (g : RowGraph) (run : Run) (p : PartView) (ws : List Walker) (k : ℕ) (w : Walker) (a b c : ℕ)
    → k < length ws → is_over (get_or ws k w).mode ≡ true → a + sum_by (heft h g run p) ws + b ≡ c
    → a + sum_by (heft h g run p) (remove ws k) + b ≡ c
hefts-removed h g run p ws k w a b c there over before =
    let less = sum_by-remove (heft h g run p) ws k w there in
    let none = over-heft h g run p (get_or ws k w) over in
    omega (arith, before, less, none)

-- the turns that are left there
pub lefts-set : (ws : List Walker) (k : ℕ) (w : Walker) (n count steps most : ℕ) → k < length ws → is_over (get_or ws k w).mode ≡ true
    → turns_left w ≡ steps + 1 → n < count → sum_by turns_left ws + (count - n) * (steps + 2) ≤ most
    → sum_by turns_left (set ws k w) + (count - (n + 1)) * (steps + 2) ≤ most
lefts-set ws k w n count steps most there over one low before =
    let swapped = sum_by-set turns_left ws k w w there in
    let none = over-left (get_or ws k w) over in
    let less : count - n ≡ suc (count - (n + 1)) = omega (arith, low) in
    let product : (count - n) * (steps + 2) ≡ (count - (n + 1)) * (steps + 2) + (steps + 2) = rw less (suc-mul (count - (n + 1)) (steps + 2)) in
    omega (arith, before, swapped, none, one, product)

pub lefts-removed : (ws : List Walker) (k : ℕ) (w : Walker) (a most : ℕ) → k < length ws → is_over (get_or ws k w).mode ≡ true
    → sum_by turns_left ws + a ≤ most → sum_by turns_left (remove ws k) + a ≤ most
lefts-removed ws k w a most there over before =
    let less = sum_by-remove turns_left ws k w there in
    let none = over-left (get_or ws k w) over in
    omega (arith, before, less, none)
