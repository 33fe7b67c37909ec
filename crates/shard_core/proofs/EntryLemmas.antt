-- How many entries the walks of a finished world have, by the steps of their walkers.
use Rattle.std.proofs.Common.{◌≡◌, ◌<◌, ◌≤◌, ◌+◌, ◌∷◌, [], ◌++◌, ℕ, zero, suc, inl, inr, Bool, true, false, List, length, map, set, get_or, replicate, refl, ap, sym, ◌∙◌, arith}
use Rattle.std.specs.Prelude.{◌==◌, if◌then◌else◌, All, sum_by}
use Rattle.std.specs.List.{flat_map}
use Rattle.std.proofs.lemmas.Bool.{cases_lt}
use Rattle.std.proofs.lemmas.Bool.Decides.{nat_tests}
use Rattle.std.proofs.lemmas.List.{get_or-map, get_or_append_left, get_or_at, get_or-set_same, get_or-set_other, length-append, length-map, length-set}
use Rattle.std.proofs.lemmas.List.Elements.{All-set}
use Rattle.std.proofs.lemmas.List.Sums.{sum_by-append, sum_by-cons}
use Rattle.walk_model.specs.declared.results.Print.{Print}
use Rattle.walk_model.specs.Counts.{sum_below}
use Rattle.walk_model.specs.Numbers.{below}
use Rattle.walk_model.specs.Prints.{prints_from}
use Rattle.traveller.specs.declared.modes.Mode.TheVariants.{Fresh}
use Rattle.traveller.specs.PartedRuns.{PartedRun, walk_in}
use Rattle.traveller.specs.Walkers.{Walker}
use Rattle.world_law.specs.Finishing.{of_kept, prints_in, unfinished, unfinished_mode}
use Rattle.world_law.specs.Histories.{walk_prints}
use Rattle.world_law.specs.Items.{Item, Travels, Asks, Replies}
use Rattle.world_law.specs.Soundness.{IsSound, IsTrueItem, IsTruePiece, item_walker, of_print, of_walker, steps_made}
use Rattle.world_law.specs.Worlds.{Piece, Resident, Aside, Printed, Comes, Goes, Each, ShardData, WorldData, all_pieces, shard_pieces, world_pieces}
use Rattle.world_law.proofs.FinishLemmas.{finish-prints, world-prints}
use Rattle.shard_core.specs.Abreast.{first_prints}
use Rattle.shard_core.specs.Counted.{count_walks}
use Rattle.shard_core.specs.Gathered.{AreAllPrints, all_prints, prints_since}
use Rattle.shard_core.specs.Shards.{ShardView, shard_of}
use Rattle.shard_core.specs.Walks.{walks_in}
use Rattle.shard_core.proofs.CountLemmas.{of_walker as of_number, walker-prints, same-places}
use Rattle.shard_core.proofs.WholeLemmas.{first-all, length-below}

-- 1 for a walker of a number, and how many entries its walk has so far
abbrev pub one_of : ℕ → Walker → ℕ
one_of i v = if v.number == i then 1 else 0

abbrev pub entries_of : ℕ → Walker → ℕ
entries_of i v = if v.number == i then suc v.state.steps else 0

pub length-count_walks : (cs : List ℕ) (vs : List Walker) → length (count_walks cs vs) ≡ length cs
length-count_walks cs [] = refl
length-count_walks cs (v ∷ vs) = length-count_walks (set cs v.number (suc v.state.steps)) vs ∙ length-set cs v.number (suc v.state.steps)

-- each count is one at least
pub some-count_walks : (cs : List ℕ) (vs : List Walker) → All (λ n. 1 ≤ n) cs → All (λ n. 1 ≤ n) (count_walks cs vs)
some-count_walks cs [] some = some
some-count_walks cs (v ∷ vs) some =
    some-count_walks (set cs v.number (suc v.state.steps)) vs (All-set (λ n. 1 ≤ n) cs v.number (suc v.state.steps) (omega arith) some)

-- where no walker has a number, its count stays
none-counted : (cs : List ℕ) (vs : List Walker) (i : ℕ) → sum_by (one_of i) vs ≡ 0
    → (get_or (count_walks cs vs) i 0 ≡ get_or cs i 0) × (sum_by (entries_of i) vs ≡ 0)
none-counted cs [] i none = (refl, refl)
none-counted cs (v ∷ vs) i none =
    by (v.number == i) refl (λ rest. none-counted (set cs v.number (suc v.state.steps)) vs i rest)
  where
    Left : Type 0
    Left = (get_or (count_walks (set cs v.number (suc v.state.steps)) vs) i 0 ≡ get_or (set cs v.number (suc v.state.steps)) i 0)
        × (sum_by (entries_of i) vs ≡ 0)

    ones : sum_by (one_of i) (v ∷ vs) ≡ one_of i v + sum_by (one_of i) vs
    ones = sum_by-cons (one_of i) v vs

    by : (b : Bool) → (v.number == i) ≡ b → (sum_by (one_of i) vs ≡ 0 → Left)
        → (get_or (count_walks (set cs v.number (suc v.state.steps)) vs) i 0 ≡ get_or cs i 0) × (sum_by (entries_of i) (v ∷ vs) ≡ 0)
    by true e later = (let one : one_of i v ≡ 1 = rw e refl in absurd (omega (arith, none, ones, one)))
    by false e later =
        let other : i ≡ v.number → ⊥ = λ same. grind (arith, nat_tests) in
        let zeroth : entries_of i v ≡ 0 = rw e refl in
        let rest = later (omega (arith, none, ones)) in (
          rest.0 ∙ get_or-set_other cs v.number i (suc v.state.steps) 0 other,
          sum_by-cons (entries_of i) v vs ∙ (let behind = rest.1 in omega (arith, zeroth, behind)),
        )

-- where one walker has it, its count is what that walker's walk has
pub one-counted : (cs : List ℕ) (vs : List Walker) (i : ℕ) → i < length cs → sum_by (one_of i) vs ≡ 1
    → get_or (count_walks cs vs) i 0 ≡ sum_by (entries_of i) vs
one-counted cs [] i low one = absurd (omega (arith, one))
one-counted cs (v ∷ vs) i low one =
    by (v.number == i) refl (λ there rest. one-counted (set cs v.number (suc v.state.steps)) vs i there rest)
  where
    Later : Type 0
    Later = i < length (set cs v.number (suc v.state.steps)) → sum_by (one_of i) vs ≡ 1
        → get_or (count_walks (set cs v.number (suc v.state.steps)) vs) i 0 ≡ sum_by (entries_of i) vs

    ones : sum_by (one_of i) (v ∷ vs) ≡ one_of i v + sum_by (one_of i) vs
    ones = sum_by-cons (one_of i) v vs

    entries : sum_by (entries_of i) (v ∷ vs) ≡ entries_of i v + sum_by (entries_of i) vs
    entries = sum_by-cons (entries_of i) v vs

    by : (b : Bool) → (v.number == i) ≡ b → Later
        → get_or (count_walks (set cs v.number (suc v.state.steps)) vs) i 0 ≡ sum_by (entries_of i) (v ∷ vs)
    by true e later =
        let same : v.number ≡ i = grind (arith, nat_tests) in
        let own : one_of i v ≡ 1 = rw e refl in
        let here : entries_of i v ≡ suc v.state.steps = rw e refl in
        let rest = none-counted (set cs v.number (suc v.state.steps)) vs i (omega (arith, one, ones, own)) in
        let value : get_or (set cs v.number (suc v.state.steps)) i 0 ≡ suc v.state.steps =
        rw same (get_or-set_same cs i (suc v.state.steps) 0 low) in
        let behind = rest.1 in
        rest.0 ∙ value ∙ omega (arith, entries, here, behind)
    by false e later =
        let own : one_of i v ≡ 0 = rw e refl in
        let here : entries_of i v ≡ 0 = rw e refl in
        let long = length-set cs v.number (suc v.state.steps) in
        later (omega (arith, low, long)) (omega (arith, one, ones, own)) ∙ omega (arith, entries, here)

-- the walkers that reside in shards
abbrev pub residents_in : List ShardData → List Walker
residents_in ss = flat_map (λ s. s.residents) ss

-- the weight of a walker that resides somewhere
abbrev of_resident : (Walker → ℕ) → Piece → ℕ
of_resident f (Resident k v) = f v
of_resident f _ = 0

fresh-unfinished : (v : Walker) → v.mode ≡ Fresh → unfinished v ≡ 1
fresh-unfinished v fresh = ap unfinished_mode fresh

item-none : (g : PartedRun) (f : Walker → ℕ) (i : Item) → IsTrueItem g i → item_walker unfinished i ≡ 0 → item_walker f i ≡ 0
item-none g f (Travels v from to) way over = (let one = fresh-unfinished v way.fresh in absurd (omega (arith, one, over)))
item-none g f (Asks ask to) way over = refl
item-none g f (Replies reply from) way over = refl

piece-resides : (g : PartedRun) (f : Walker → ℕ) (p : Piece) → IsTruePiece g p → of_walker unfinished p ≡ 0 → of_walker f p ≡ of_resident f p
piece-resides g f (Resident k v) holds over = refl
piece-resides g f (Aside k i) holds over = item-none g f i holds.0 over
piece-resides g f (Printed k p) holds over = refl
piece-resides g f (Comes i) holds over = item-none g f i holds over
piece-resides g f (Goes i) holds over = item-none g f i holds over

-- where all walkers have finished, each resides in a shard
resides : (g : PartedRun) (f : Walker → ℕ) (ps : List Piece) → Each (IsTruePiece g) ps → sum_by (of_walker unfinished) ps ≡ 0
    → sum_by (of_walker f) ps ≡ sum_by (of_resident f) ps
resides g f [] all over = refl
resides g f (p ∷ ps) all over =
    let unfinished_are = sum_by-cons (of_walker unfinished) p ps in
    let one = piece-resides g f p all.0 (omega (arith, over, unfinished_are)) in
    let rest = resides g f ps all.1 (omega (arith, over, unfinished_are)) in
    omega (arith, one, rest, sum_by-cons (of_walker f) p ps, sum_by-cons (of_resident f) p ps)

of-residents : (f : Walker → ℕ) (k : ℕ) (vs : List Walker) → sum_by (of_resident f) (map (Resident k) vs) ≡ sum_by f vs
of-residents f k [] = refl
of-residents f k (v ∷ vs) = omega (arith, sum_by-cons (of_resident f) (Resident k v) (map (Resident k) vs), sum_by-cons f v vs, of-residents f k vs)

of-aside : (f : Walker → ℕ) (k : ℕ) (is : List Item) → sum_by (of_resident f) (map (Aside k) is) ≡ 0
of-aside f k [] = refl
of-aside f k (i ∷ is) = omega (arith, sum_by-cons (of_resident f) (Aside k i) (map (Aside k) is), of-aside f k is)

of-printed : (f : Walker → ℕ) (k : ℕ) (ps : List Print) → sum_by (of_resident f) (map (Printed k) ps) ≡ 0
of-printed f k [] = refl
of-printed f k (p ∷ ps) = omega (arith, sum_by-cons (of_resident f) (Printed k p) (map (Printed k) ps), of-printed f k ps)

of-comes : (f : Walker → ℕ) (is : List Item) → sum_by (of_resident f) (map Comes is) ≡ 0
of-comes f [] = refl
of-comes f (i ∷ is) = omega (arith, sum_by-cons (of_resident f) (Comes i) (map Comes is), of-comes f is)

of-shards : (f : Walker → ℕ) (ss : List ShardData) → sum_by (of_resident f) (all_pieces ss) ≡ sum_by f (residents_in ss)
of-shards f [] = refl
of-shards f (s ∷ ss) =
    omega (
      arith,
      sum_by-append (of_resident f) (shard_pieces s) (all_pieces ss),
      sum_by-append (of_resident f) (map (Resident s.part) s.residents) (map (Aside s.part) s.aside ++ map (Printed s.part) s.prints),
      sum_by-append (of_resident f) (map (Aside s.part) s.aside) (map (Printed s.part) s.prints),
      sum_by-append f s.residents (residents_in ss),
      of-residents f s.part s.residents,
      of-aside f s.part s.aside,
      of-printed f s.part s.prints,
      of-shards f ss,
    )

-- so what they weigh is what the residents of shards do
residents-all : (g : PartedRun) (w : WorldData) (f : Walker → ℕ) → IsSound g (world_pieces w)
    → sum_by (of_walker unfinished) (world_pieces w) ≡ 0
    → sum_by (of_walker f) (world_pieces w) ≡ sum_by f (residents_in w.shards)
residents-all g w f sound over =
    resides g f (world_pieces w) sound.pieces over
    ∙ (let both = sum_by-append (of_resident f) (all_pieces w.shards) (map Comes w.flight) in
    let shards = of-shards f w.shards in
    let none = of-comes f w.flight in
    omega (arith, both, shards, none))

-- 1 for a number
abbrev is_one : ℕ → ℕ → ℕ
is_one i n = if n == i then 1 else 0

below-none : (n i : ℕ) → n ≤ i → sum_below n (is_one i) ≡ 0
unfolding sum_below
below-none zero i past = refl
below-none (suc n) i past =
    let other : (n == i) ≡ false = grind (arith, nat_tests) in
    let zeroth : is_one i n ≡ 0 = rw other refl in
    let rest = below-none n i (omega (arith, past)) in
    omega (arith, rest, zeroth)

below-one : (n i : ℕ) → i < n → sum_below n (is_one i) ≡ 1
unfolding sum_below
below-one zero i low = absurd (omega (arith, low))
below-one (suc n) i low = by (n == i) refl (λ less. below-one n i less)
  where
    by : (b : Bool) → (n == i) ≡ b → (i < n → sum_below n (is_one i) ≡ 1) → sum_below n (is_one i) + is_one i n ≡ 1
    by true e later =
        let same : n ≡ i = grind (arith, nat_tests) in
        let own : is_one i n ≡ 1 = rw e refl in
        let rest = below-none n i (omega (arith, same)) in
        omega (arith, own, rest)
    by false e later =
        let other : n ≡ i → ⊥ = λ same. grind (arith, nat_tests) in
        let own : is_one i n ≡ 0 = rw e refl in
        let less : i < n = grind (arith, low, other) in
        let rest = later less in
        omega (arith, own, rest)

same-below : (n : ℕ) (b : Bool) → sum_below n (λ s. if b then 1 else 0) ≡ (if b then n else 0)
unfolding sum_below
same-below zero true = refl
same-below zero false = refl
same-below (suc n) true = (let rest = same-below n true in omega (arith, rest))
same-below (suc n) false = (let rest = same-below n false in omega (arith, rest))

-- the weight of the prints of a number
abbrev print_of_number : ℕ → ℕ → ℕ → ℕ
print_of_number i number step = if number == i then 1 else 0

made-entries : (i : ℕ) (v : Walker) → steps_made (print_of_number i) v ≡ entries_of i v
made-entries i v = same-below (suc v.state.steps) (v.number == i)

walker-same : (f h : Walker → ℕ) → ((v : Walker) → f v ≡ h v) → (ps : List Piece) → sum_by (of_walker f) ps ≡ sum_by (of_walker h) ps
walker-same f h same ps = ap (λ (k : Walker → ℕ). sum_by (of_walker k) ps) (λ j v. same v j)

print-kept : (i : ℕ) (p : Piece) → of_print (print_of_number i) p ≡ of_kept (of_number i) p
print-kept i (Resident k v) = refl
print-kept i (Aside k m) = refl
print-kept i (Printed k p) = refl
print-kept i (Comes m) = refl
print-kept i (Goes m) = refl

walk-first : (g : PartedRun) (n : ℕ) → walk_prints g n ≡ first_prints g n
unfolding walk_prints first_prints
walk-first g zero = refl
walk-first g (suc n) = ap (λ ps. ps ++ prints_from n 0 (walk_in g n)) (walk-first g n)

get-below : (n i : ℕ) → i < n → get_or (below n) i 0 ≡ i
unfolding below
get-below zero i low = absurd (omega (arith, low))
get-below (suc n) i low =
    elim (cases_lt i n) [
      | inl less ↦ (let long = length-below n in get_or_append_left (below n) (n ∷ []) 0 i (omega (arith, long, less)) ∙ get-below n i less)
      | inr past ↦
          (let same : i ≡ n = omega (arith, low, past) in
          rw same (get_or_at (below n) n [] 0 n (length-below n)))
    ]

-- the walks are as many as the walkers, each in its place
many-walks : (g : PartedRun) → length (walks_in g) ≡ g.walkers
unfolding walks_in
many-walks g = length-map (below g.walkers) (walk_in g) ∙ length-below g.walkers

walk-at : (g : PartedRun) (i : ℕ) → i < g.walkers → get_or (walks_in g) i [] ≡ walk_in g i
unfolding walks_in
walk-at g i low =
    let long = length-below g.walkers in
    get_or-map (walk_in g) (below g.walkers) i 0 [] (omega (arith, long, low)) ∙ ap (walk_in g) (get-below g.walkers i low)

-- the prints of all walks
walk-all : (g : PartedRun) → walk_prints g g.walkers ≡ all_prints (walks_in g)
unfolding walks_in
walk-all g = walk-first g g.walkers ∙ first-all g g.walkers

-- the walk of a number has as many entries as the walkers of that number say
number-entries : (g : PartedRun) (w : WorldData) (i : ℕ) → IsSound g (world_pieces w) → sum_by (of_walker unfinished) (world_pieces w) ≡ 0
    → i < g.walkers → sum_by (entries_of i) (residents_in w.shards) ≡ length (walk_in g i)
number-entries g w i sound over low =
    sym (residents-all g w (entries_of i) sound over)
    ∙ sym (walker-same (steps_made (print_of_number i)) (entries_of i) (made-entries i) (world_pieces w))
    ∙ sym (sound.prints (print_of_number i))
    ∙ ap (λ (k : Piece → ℕ). sum_by k (world_pieces w)) (λ j p. print-kept i p j)
    ∙ finish-prints g (world_pieces w) sound over (of_number i)
    ∙ ap (sum_by (of_number i)) (walk-all g)
    ∙ (let shift : i ≡ 0 + i = omega arith in ap (λ k. sum_by (of_number k) (all_prints (walks_in g))) shift)
    ∙ walker-prints i 0 (walks_in g) (let many = many-walks g in omega (arith, many, low))
    ∙ ap length (walk-at g i low)

number-one : (g : PartedRun) (w : WorldData) (i : ℕ) → IsSound g (world_pieces w) → sum_by (of_walker unfinished) (world_pieces w) ≡ 0
    → i < g.walkers → sum_by (one_of i) (residents_in w.shards) ≡ 1
number-one g w i sound over low =
    sym (residents-all g w (one_of i) sound over) ∙ sound.numbers (is_one i) ∙ below-one g.walkers i low

-- counts by the walkers of a finished world are those of its walks
pub counts-walks : (g : PartedRun) (w : WorldData) (cs : List ℕ) → IsSound g (world_pieces w) → sum_by (of_walker unfinished) (world_pieces w) ≡ 0
    → length cs ≡ g.walkers → map length (walks_in g) ≡ count_walks cs (residents_in w.shards)
counts-walks g w cs sound over long =
    same-places (map length (walks_in g)) (count_walks cs (residents_in w.shards)) size each
  where
    many : length (map length (walks_in g)) ≡ g.walkers
    many = length-map (walks_in g) length ∙ many-walks g

    size : length (map length (walks_in g)) ≡ length (count_walks cs (residents_in w.shards))
    size = many ∙ sym (length-count_walks cs (residents_in w.shards) ∙ long)

    each : (i : ℕ) → i < length (map length (walks_in g)) → get_or (map length (walks_in g)) i 0 ≡ get_or (count_walks cs (residents_in w.shards)) i 0
    each i there =
        let low : i < g.walkers = omega (arith, there, many) in
        let walks = many-walks g in
        get_or-map length (walks_in g) i [] 0 (omega (arith, low, walks)) ∙ ap length (walk-at g i low)
        ∙ sym (one-counted cs (residents_in w.shards) i (omega (arith, low, long)) (number-one g w i sound over low) ∙ number-entries g w i sound over low)

-- and its prints are all prints of its walks
pub world-all : (g : PartedRun) (w : WorldData) → IsSound g (world_pieces w) → sum_by (of_walker unfinished) (world_pieces w) ≡ 0
    → AreAllPrints (walks_in g) (prints_in w.shards)
world-all g w sound over f = world-prints g w sound over f ∙ ap (sum_by f) (walk-all g)

-- what shards have, as the laws of worlds see them
pub prints-seen : (ss : List ShardView) → prints_in (map shard_of ss) ≡ flat_map (λ s. s.prints) ss
unfolding prints_in
prints-seen [] = refl
prints-seen (s ∷ ss) = ap (λ ps. s.prints ++ ps) (prints-seen ss)

pub residents-seen : (ss : List ShardView) → residents_in (map shard_of ss) ≡ flat_map (λ s. s.residents) ss
residents-seen [] = refl
residents-seen (s ∷ ss) = ap (λ vs. s.residents ++ vs) (residents-seen ss)
