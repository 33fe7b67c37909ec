-- A world goes on while a walker is unfinished, and its prints are the walks when all have finished.
use Rattle.std.proofs.Common.{◌≡◌, ℕ, zero, suc, ◌+◌, ◌-◌, ◌<◌, ◌≤◌, Bool, true, false, cond, List, [], ◌∷◌, ◌++◌, map, length, take, refl, ap, sym, ◌∙◌, arith, None, subst}
use Rattle.std.specs.Prelude.{option_map, slice_index, sum_by, nat_lt, ◌==◌, if◌then◌else◌}
use Rattle.std.proofs.lemmas.List.Sums.{sum_by-cons, sum_by-append}
use Rattle.std.proofs.lemmas.List.{length-drop}
use Rattle.std.proofs.lemmas.Bool.{lt-ltb}
use Rattle.std.proofs.lemmas.Option.{get_or_from_slice_get, slice_get_within}
use Rattle.walk_model.specs.declared.messages.Ask.{Ask}
use Rattle.walk_model.specs.declared.results.Print.{Print}
use Rattle.walk_model.specs.Counts.{sum_below}
use Rattle.walk_model.specs.Prints.{prints_from}
use Rattle.walk_model.specs.Walk.{first_state, entries_after, walk}
use Rattle.walk_model.proofs.PieceLemmas.{sum_below-same}
use Rattle.walk_model.proofs.WalkLemmas.{entries_after-none, entries_after-done}
use Rattle.traveller.specs.declared.modes.Mode.{Mode}
use Rattle.traveller.specs.declared.modes.Mode.TheVariants.{Fresh, Darts, Asked, AskedRow, Chosen, Over}
use Rattle.traveller.specs.PartedRuns.{PartedRun, journey_from, journey_in, walk_in}
use Rattle.traveller.specs.Walkers.{Walker, question_of, is_ready, ask_with}
use Rattle.world_law.specs.Items.{Item, Travels, Asks, Replies}
use Rattle.world_law.specs.Truth.{next_within, IsTrueTo}
use Rattle.world_law.specs.Worlds.{Piece, Resident, Aside, Printed, Comes, Goes, ShardData, WorldData, shard_pieces, all_pieces, world_pieces, Each}
use Rattle.world_law.specs.Soundness.{item_walker, of_walker, ask_weight, of_open, item_ask, of_sent, of_print, steps_made, IsTruePiece, IsTrueItem, IsSound}
use Rattle.world_law.specs.Histories.{walk_prints}
use Rattle.world_law.specs.LettersAhead.{item_of, of_come, of_gone}
use Rattle.world_law.specs.Finishing.{unfinished_mode, unfinished, unfinished_of, of_ready, ready_of, of_item, of_kept, walker_prints, prints_so_far, prints_in}
use Rattle.world_law.proofs.SoundLemmas.{drop-entries, walk-entry}

abbrev one_each : Ask → ℕ
one_each a = 1

-- who is unfinished is ready or waits
mode-le : (owner : ℕ → ℕ) (v : Walker) (m : Mode)
    → unfinished_mode m ≤ cond (is_ready m) 1 0 + ask_weight one_each (option_map (ask_with owner v) (question_of m))
mode-le owner v Fresh = omega arith
mode-le owner v (Darts left place) = omega arith
mode-le owner v (Asked left place q) = omega arith
mode-le owner v (AskedRow place q) = omega arith
mode-le owner v (Chosen edge place) = omega arith
mode-le owner v Over = omega arith

mode-one : (m : Mode) → unfinished_mode m ≤ 1
mode-one Fresh = omega arith
mode-one (Darts left place) = omega arith
mode-one (Asked left place q) = omega arith
mode-one (AskedRow place q) = omega arith
mode-one (Chosen edge place) = omega arith
mode-one Over = omega arith

item-le : (i : Item) → item_walker unfinished i + item_ask one_each i ≤ 1
item-le (Travels v from to) = omega (arith, mode-one v.mode)
item-le (Asks ask to) = omega arith
item-le (Replies reply from) = omega arith

piece-le : (owner : ℕ → ℕ) (p : Piece)
    → of_walker unfinished p + of_sent one_each p ≤ of_ready p + of_open owner one_each p + of_item p
piece-le owner (Resident k v) = omega (arith, mode-le owner v v.mode)
piece-le owner (Printed k p) = omega arith
piece-le owner (Aside k i) = omega (arith, item-le i)
piece-le owner (Comes i) = omega (arith, item-le i)
piece-le owner (Goes i) = omega (arith, item-le i)

pieces-le : (owner : ℕ → ℕ) (ps : List Piece)
    → sum_by (of_walker unfinished) ps + sum_by (of_sent one_each) ps
    ≤ sum_by of_ready ps + sum_by (of_open owner one_each) ps + sum_by of_item ps
pieces-le owner [] = omega arith
pieces-le owner (p ∷ ps) =
    omega (
      arith,
      piece-le owner p,
      pieces-le owner ps,
      sum_by-cons (of_walker unfinished) p ps,
      sum_by-cons (of_sent one_each) p ps,
      sum_by-cons of_ready p ps,
      sum_by-cons (of_open owner one_each) p ps,
      sum_by-cons of_item p ps,
    )

-- in a sound world each unfinished walker is a resident that is ready or has an item of its own: where no
-- resident is ready and there is no item, no walker is unfinished
pub unfinished-le : (g : PartedRun) (ps : List Piece) → IsSound g ps
    → sum_by (of_walker unfinished) ps ≤ sum_by of_ready ps + sum_by of_item ps
unfinished-le g ps h = omega (arith, pieces-le g.owner ps, h.asks one_each)

-- the same of one walker
abbrev ask_in : ℕ → Ask → ℕ
ask_in i a = if a.walker == i then 1 else 0

mode-le_of : (owner : ℕ → ℕ) (i : ℕ) (v : Walker) (m : Mode)
    → (if v.number == i then unfinished_mode m else 0)
    ≤ (if v.number == i then cond (is_ready m) 1 0 else 0) + ask_weight (ask_in i) (option_map (ask_with owner v) (question_of m))
mode-le_of owner i v Fresh = omega arith
mode-le_of owner i v (Darts left place) = omega arith
mode-le_of owner i v (Asked left place q) = omega arith
mode-le_of owner i v (AskedRow place q) = omega arith
mode-le_of owner i v (Chosen edge place) = omega arith
mode-le_of owner i v Over = over (v.number == i)
  where
    over : (b : Bool) → (if◌then◌else◌ {A = ℕ} b 0 0) ≤ (if◌then◌else◌ {A = ℕ} b 0 0) + 0
    over true = omega arith
    over false = omega arith

item-le_of : (i : ℕ) (m : Item) → item_walker (unfinished_of i) m + item_ask (ask_in i) m ≤ item_of i m
item-le_of i (Travels v from to) = by (v.number == i)
  where
    by : (b : Bool) → (if b then unfinished_mode v.mode else 0) + 0 ≤ (if b then 1 else 0)
    by true = omega (arith, mode-one v.mode)
    by false = omega arith
item-le_of i (Asks ask to) = omega arith
item-le_of i (Replies reply from) = omega arith

piece-le_of : (owner : ℕ → ℕ) (i : ℕ) (p : Piece)
    → of_walker (unfinished_of i) p + of_sent (ask_in i) p
    ≤ ready_of i p + of_open owner (ask_in i) p + (of_come i p + of_gone i p)
piece-le_of owner i (Resident k v) = omega (arith, mode-le_of owner i v v.mode)
piece-le_of owner i (Printed k p) = omega arith
piece-le_of owner i (Aside k m) = omega (arith, item-le_of i m)
piece-le_of owner i (Comes m) = omega (arith, item-le_of i m)
piece-le_of owner i (Goes m) = omega (arith, item-le_of i m)

pieces-le_of : (owner : ℕ → ℕ) (i : ℕ) (ps : List Piece)
    → sum_by (of_walker (unfinished_of i)) ps + sum_by (of_sent (ask_in i)) ps
    ≤ sum_by (ready_of i) ps + sum_by (of_open owner (ask_in i)) ps + (sum_by (of_come i) ps + sum_by (of_gone i) ps)
pieces-le_of owner i [] = omega arith
pieces-le_of owner i (p ∷ ps) =
    omega (
      arith,
      piece-le_of owner i p,
      pieces-le_of owner i ps,
      sum_by-cons (of_walker (unfinished_of i)) p ps,
      sum_by-cons (of_sent (ask_in i)) p ps,
      sum_by-cons (ready_of i) p ps,
      sum_by-cons (of_open owner (ask_in i)) p ps,
      sum_by-cons (of_come i) p ps,
      sum_by-cons (of_gone i) p ps,
    )

-- each unfinished walker is a resident that is ready, or an item is its own
pub unfinished_of-le : (g : PartedRun) (i : ℕ) (ps : List Piece) → IsSound g ps
    → sum_by (of_walker (unfinished_of i)) ps ≤ sum_by (ready_of i) ps + (sum_by (of_come i) ps + sum_by (of_gone i) ps)
unfinished_of-le g i ps h = omega (arith, pieces-le_of g.owner i ps, h.asks (ask_in i))

-- a walk that is over has as many entries as steps, and its start
length-over : (g : PartedRun) (v : Walker) → IsTrueTo g v → v.mode ≡ Over → length (walk_in g v.number) ≡ suc v.state.steps
length-over g v h e =
    let j = journey_from g v.number v.start in
    let passes = h.mode in
    let ends : next_within j v.length v.state ≡ None = rw e at passes in
    let whole : v.length ≡ v.state.steps + (v.length - v.state.steps) = (let within = h.within in omega arith) in
    let rest = drop-entries v.state.steps (v.length - v.state.steps) v.length j.course v.state whole h.state in
    let none = no_more (v.length - v.state.steps) ends refl in
    let entries = entries_after v.length j.course (first_state j.course.start) in
    let most : length entries ≤ v.state.steps = (let short = ap length (rest ∙ none) in omega (arith, length-drop v.state.steps entries)) in
    let here = walk-entry v.state.steps v.length j.course v.state h.within h.state in
    let least = slice_get_within (walk j.course v.length) v.state.steps v.state.at here in
    let same : length (walk j.course v.length) ≡ suc v.state.steps = omega arith in
    subst (λ n. length (walk (journey_in g v.number).course n) ≡ suc v.state.steps) h.length
    (subst (λ start. length (walk (journey_from g v.number start).course v.length) ≡ suc v.state.steps) h.start same)
  where
    no_more : (n : ℕ) → next_within (journey_from g v.number v.start) v.length v.state ≡ None → n ≡ v.length - v.state.steps
        → entries_after n (journey_from g v.number v.start).course v.state ≡ []
    no_more zero e1 e2 = entries_after-done zero _ v.state refl
    no_more (suc n) e1 e2 =
        let going : nat_lt v.state.steps v.length ≡ true = lt-ltb v.state.steps v.length (omega arith) in
        entries_after-none (suc n) n (journey_from g v.number v.start).course v.state refl (rw going at e1)

-- the weight of a walker's prints by its walk
abbrev pub print_at : PartedRun → (Print → ℕ) → ℕ → ℕ → ℕ
print_at g f i step = f (record { walker = i; step = step; at = slice_index (walk_in g i) step })

abbrev pub walk_weight : PartedRun → (Print → ℕ) → ℕ → ℕ
walk_weight g f i = sum_below (length (walk_in g i)) (print_at g f i)

-- true prints weigh what the walks weigh at their places
prints-true : (g : PartedRun) (f : Print → ℕ) (ps : List Piece) → Each (IsTruePiece g) ps
    → sum_by (of_kept f) ps ≡ sum_by (of_print (print_at g f)) ps
prints-true g f [] h = refl
prints-true g f (p ∷ ps) h =
    omega (arith, here p h.0, prints-true g f ps h.1, sum_by-cons (of_kept f) p ps, sum_by-cons (of_print (print_at g f)) p ps)
  where
    here : (p : Piece) → IsTruePiece g p → of_kept f p ≡ of_print (print_at g f) p
    here (Resident k v) h = refl
    here (Aside k i) h = refl
    here (Comes i) h = refl
    here (Goes i) h = refl
    here (Printed k p) h =
        let at = get_or_from_slice_get (walk_in g p.walker) p.step p.at 0 h in
        ap (λ (x : ℕ). f (record { walker = p.walker; step = p.step; at = x })) (sym at)

no_item : (g : PartedRun) (f : Print → ℕ) (i : Item) → IsTrueItem g i → item_walker unfinished i ≡ 0
    → item_walker (steps_made (print_at g f)) i ≡ item_walker (λ v. walk_weight g f v.number) i
no_item g f (Travels v from to) h e =
    let one = ap unfinished_mode h.fresh in absurd (omega arith)
no_item g f (Asks ask to) h e = refl
no_item g f (Replies reply from) h e = refl

over_of : (m : Mode) → unfinished_mode m ≡ 0 → m ≡ Over
over_of Fresh e = absurd (omega arith)
over_of (Darts left place) e = absurd (omega arith)
over_of (Asked left place q) e = absurd (omega arith)
over_of (AskedRow place q) e = absurd (omega arith)
over_of (Chosen edge place) e = absurd (omega arith)
over_of Over e = refl

-- walkers that have finished have made the steps of their walks
finished-steps : (g : PartedRun) (f : Print → ℕ) (ps : List Piece) → Each (IsTruePiece g) ps → sum_by (of_walker unfinished) ps ≡ 0
    → sum_by (of_walker (steps_made (print_at g f))) ps ≡ sum_by (of_walker (λ v. walk_weight g f v.number)) ps
finished-steps g f [] h e = refl
finished-steps g f (p ∷ ps) h e =
    let parts = sum_by-cons (of_walker unfinished) p ps in
    let first : of_walker unfinished p ≡ 0 = omega arith in
    let later = finished-steps g f ps h.1 (omega arith) in
    omega (
      arith,
      here p h.0 first,
      later,
      sum_by-cons (of_walker (steps_made (print_at g f))) p ps,
      sum_by-cons (of_walker (λ v. walk_weight g f v.number)) p ps,
    )
  where
    here : (p : Piece) → IsTruePiece g p → of_walker unfinished p ≡ 0
        → of_walker (steps_made (print_at g f)) p ≡ of_walker (λ v. walk_weight g f v.number) p
    here (Resident k v) h e =
        ap (λ n. sum_below n (print_at g f v.number)) (sym (length-over g v h.0 (over_of v.mode e)))
    here (Aside k i) h e = no_item g f i h.0 e
    here (Comes i) h e = no_item g f i h e
    here (Goes i) h e = no_item g f i h e
    here (Printed k p) h e = refl

-- a sum from its front
sum_below-front : (n : ℕ) (h : ℕ → ℕ) → sum_below (suc n) h ≡ h 0 + sum_below n (λ r. h (suc r))
unfolding sum_below
sum_below-front zero h = omega arith
sum_below-front (suc n) h = omega (arith, sum_below-front n h)

prints_from-sum : (f : Print → ℕ) (i step : ℕ) (xs : List ℕ)
    → sum_by f (prints_from i step xs) ≡ sum_below (length xs) (λ r. f (record { walker = i; step = step + r; at = slice_index xs r }))
unfolding prints_from sum_below
prints_from-sum f i step [] = refl
prints_from-sum f i step (x ∷ xs) =
    let first : Print = record { walker = i; step = step; at = x } in
    let h : ℕ → ℕ = λ r. f (record { walker = i; step = step + r; at = slice_index (x ∷ xs) r }) in
    let none : step + 0 ≡ step = omega arith in
    let front : h 0 ≡ f first = ap (λ n. f (record { walker = i; step = n; at = x })) none in
    let later = prints_from-sum f i (step + 1) xs in
    let moved = sum_below-same (length xs) (λ r. f (record { walker = i; step = step + 1 + r; at = slice_index xs r })) (λ r. h (suc r))
    (λ r. (let e : step + 1 + r ≡ step + suc r = omega arith in ap (λ n. f (record { walker = i; step = n; at = slice_index xs r })) e)) in
    omega (arith, sum_by-cons f first (prints_from i (step + 1) xs), sum_below-front (length xs) h)

walk_prints-sum : (g : PartedRun) (f : Print → ℕ) (n : ℕ) → sum_by f (walk_prints g n) ≡ sum_below n (walk_weight g f)
unfolding walk_prints sum_below
walk_prints-sum g f zero = refl
walk_prints-sum g f (suc n) =
    let last = prints_from-sum f n 0 (walk_in g n) in
    let moved = sum_below-same (length (walk_in g n)) (λ r. f (record { walker = n; step = 0 + r; at = slice_index (walk_in g n) r })) (print_at g f n)
    (λ r. (let e : 0 + r ≡ r = omega arith in ap (λ s. f (record { walker = n; step = s; at = slice_index (walk_in g n) r })) e)) in
    omega (arith, walk_prints-sum g f n, sum_by-append f (walk_prints g n) (prints_from n 0 (walk_in g n)))

-- where all walkers of a sound world have finished, its prints are those of the plain walks, each once
pub finish-prints : (g : PartedRun) (ps : List Piece) → IsSound g ps → sum_by (of_walker unfinished) ps ≡ 0
    → (f : Print → ℕ) → sum_by (of_kept f) ps ≡ sum_by f (walk_prints g g.walkers)
finish-prints g ps h e f =
    prints-true g f ps h.pieces ∙ h.prints (print_at g f) ∙ finished-steps g f ps h.pieces e
    ∙ h.numbers (walk_weight g f) ∙ sym (walk_prints-sum g f g.walkers)

-- the first prints of entries, by their places
first_prints-sum : (f : Print → ℕ) (i step n : ℕ) (xs : List ℕ) → n ≤ length xs
    → sum_by f (take n (prints_from i step xs)) ≡ sum_below n (λ r. f (record { walker = i; step = step + r; at = slice_index xs r }))
unfolding prints_from sum_below
first_prints-sum f i step zero xs h = refl
first_prints-sum f i step (suc n) [] h = absurd (omega (arith, h))
first_prints-sum f i step (suc n) (x ∷ xs) h =
    let first : Print = record { walker = i; step = step; at = x } in
    let w : ℕ → ℕ = λ r. f (record { walker = i; step = step + r; at = slice_index (x ∷ xs) r }) in
    let none : step + 0 ≡ step = omega arith in
    let front : w 0 ≡ f first = ap (λ n. f (record { walker = i; step = n; at = x })) none in
    let later = first_prints-sum f i (step + 1) n xs (omega (arith, h)) in
    let moved = sum_below-same n (λ r. f (record { walker = i; step = step + 1 + r; at = slice_index xs r })) (λ r. w (suc r))
    (λ r. (let e : step + 1 + r ≡ step + suc r = omega arith in ap (λ n. f (record { walker = i; step = n; at = slice_index xs r })) e)) in
    omega (arith, sum_by-cons f first (take n (prints_from i (step + 1) xs)), sum_below-front n w)

-- a true walker's walk has an entry after each step that it made
length-least : (g : PartedRun) (v : Walker) → IsTrueTo g v → v.state.steps < length (walk_in g v.number)
length-least g v h =
    let j = journey_from g v.number v.start in
    let here = walk-entry v.state.steps v.length j.course v.state h.within h.state in
    let least : v.state.steps < length (walk j.course v.length) = slice_get_within (walk j.course v.length) v.state.steps v.state.at here in
    subst (λ n. v.state.steps < length (walk (journey_in g v.number).course n)) h.length
    (subst (λ start. v.state.steps < length (walk (journey_from g v.number start).course v.length)) h.start least)

-- the steps that a true walker made weigh what its prints so far weigh
steps-prints : (g : PartedRun) (f : Print → ℕ) (v : Walker) → IsTrueTo g v
    → steps_made (print_at g f) v ≡ sum_by f (prints_so_far g v)
steps-prints g f v h =
    let first = first_prints-sum f v.number 0 (suc v.state.steps) (walk_in g v.number) (length-least g v h) in
    let moved = sum_below-same (suc v.state.steps) (λ r. f (record { walker = v.number; step = 0 + r; at = slice_index (walk_in g v.number) r })) (print_at g f v.number)
    (λ r. (let e : 0 + r ≡ r = omega arith in ap (λ s. f (record { walker = v.number; step = s; at = slice_index (walk_in g v.number) r })) e)) in
    sym (first ∙ moved)

item-prints : (g : PartedRun) (f : Print → ℕ) (i : Item) → IsTrueItem g i
    → item_walker (steps_made (print_at g f)) i ≡ item_walker (λ v. sum_by f (prints_so_far g v)) i
item-prints g f (Travels v from to) h = steps-prints g f v h.holds
item-prints g f (Asks ask to) h = refl
item-prints g f (Replies reply from) h = refl

pieces-prints : (g : PartedRun) (f : Print → ℕ) (ps : List Piece) → Each (IsTruePiece g) ps
    → sum_by (of_walker (steps_made (print_at g f))) ps ≡ sum_by (of_walker (λ v. sum_by f (prints_so_far g v))) ps
pieces-prints g f [] h = refl
pieces-prints g f (p ∷ ps) h =
    omega (
      arith,
      here p h.0,
      pieces-prints g f ps h.1,
      sum_by-cons (of_walker (steps_made (print_at g f))) p ps,
      sum_by-cons (of_walker (λ v. sum_by f (prints_so_far g v))) p ps,
    )
  where
    here : (p : Piece) → IsTruePiece g p
        → of_walker (steps_made (print_at g f)) p ≡ of_walker (λ v. sum_by f (prints_so_far g v)) p
    here (Resident k v) h = steps-prints g f v h.0
    here (Aside k i) h = item-prints g f i h.0
    here (Comes i) h = item-prints g f i h
    here (Goes i) h = item-prints g f i h
    here (Printed k p) h = refl

-- the prints of a sound world are, each once, those of its walkers so far
pub kept-prints : (g : PartedRun) (ps : List Piece) → IsSound g ps → (f : Print → ℕ)
    → sum_by (of_kept f) ps ≡ sum_by (of_walker (λ v. sum_by f (prints_so_far g v))) ps
kept-prints g ps h f = prints-true g f ps h.pieces ∙ h.prints (print_at g f) ∙ pieces-prints g f ps h.pieces

length-prints : (i step : ℕ) (xs : List ℕ) → length (prints_from i step xs) ≡ length xs
unfolding prints_from
length-prints i step [] = refl
length-prints i step (x ∷ xs) = ap suc (length-prints i (step + 1) xs)

take-whole : {X : Type 0} (n : ℕ) (xs : List X) → n ≡ length xs → take n xs ≡ xs
take-whole zero [] e = refl
take-whole zero (x ∷ xs) e = absurd (omega (arith, e))
take-whole (suc n) [] e = absurd (omega (arith, e))
take-whole (suc n) (x ∷ xs) e = ap (λ ys. x ∷ ys) (take-whole n xs (omega (arith, e)))

-- those of a walker that has finished are all of its walk's
pub prints-over : (g : PartedRun) (v : Walker) → IsTrueTo g v → v.mode ≡ Over → prints_so_far g v ≡ walker_prints g v
prints-over g v h e =
    take-whole (suc v.state.steps) (walker_prints g v)
    (sym (length-prints v.number 0 (walk_in g v.number) ∙ length-over g v h e))

-- what pieces keep of prints
kept-residents : (f : Print → ℕ) (k : ℕ) (vs : List Walker) → sum_by (of_kept f) (map (Resident k) vs) ≡ 0
kept-residents f k [] = refl
kept-residents f k (v ∷ vs) = omega (arith, sum_by-cons (of_kept f) (Resident k v) (map (Resident k) vs), kept-residents f k vs)

kept-aside : (f : Print → ℕ) (k : ℕ) (is : List Item) → sum_by (of_kept f) (map (Aside k) is) ≡ 0
kept-aside f k [] = refl
kept-aside f k (i ∷ is) = omega (arith, sum_by-cons (of_kept f) (Aside k i) (map (Aside k) is), kept-aside f k is)

kept-comes : (f : Print → ℕ) (is : List Item) → sum_by (of_kept f) (map Comes is) ≡ 0
kept-comes f [] = refl
kept-comes f (i ∷ is) = omega (arith, sum_by-cons (of_kept f) (Comes i) (map Comes is), kept-comes f is)

kept-printed : (f : Print → ℕ) (k : ℕ) (ps : List Print) → sum_by (of_kept f) (map (Printed k) ps) ≡ sum_by f ps
kept-printed f k [] = refl
kept-printed f k (p ∷ ps) =
    omega (arith, sum_by-cons (of_kept f) (Printed k p) (map (Printed k) ps), sum_by-cons f p ps, kept-printed f k ps)

kept-shards : (f : Print → ℕ) (ss : List ShardData) → sum_by (of_kept f) (all_pieces ss) ≡ sum_by f (prints_in ss)
unfolding prints_in
kept-shards f [] = refl
kept-shards f (s ∷ ss) =
    omega (
      arith,
      sum_by-append (of_kept f) (shard_pieces s) (all_pieces ss),
      sum_by-append (of_kept f) (map (Resident s.part) s.residents) (map (Aside s.part) s.aside ++ map (Printed s.part) s.prints),
      sum_by-append (of_kept f) (map (Aside s.part) s.aside) (map (Printed s.part) s.prints),
      sum_by-append f s.prints (prints_in ss),
      kept-residents f s.part s.residents,
      kept-aside f s.part s.aside,
      kept-printed f s.part s.prints,
      kept-shards f ss,
    )

-- where all walkers of a sound world have finished, its shards keep the prints of the plain walks, each once
pub world-prints : (g : PartedRun) (w : WorldData) → IsSound g (world_pieces w) → sum_by (of_walker unfinished) (world_pieces w) ≡ 0
    → (f : Print → ℕ) → sum_by f (prints_in w.shards) ≡ sum_by f (walk_prints g g.walkers)
world-prints g w h e f =
    let all = finish-prints g (world_pieces w) h e f in
    omega (
      arith,
      all,
      sum_by-append (of_kept f) (all_pieces w.shards) (map Comes w.flight),
      kept-shards f w.shards,
      kept-comes f w.flight,
    )
