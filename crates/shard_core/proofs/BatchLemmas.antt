-- Walks put together batch by batch.
use Rattle.std.proofs.Common.{◌≡◌, ◌<◌, ◌≤◌, ◌+◌, ◌^◌, ◌∷◌, [], ◌++◌, ℕ, zero, suc, List, length, map, get_or, take, drop, append_assoc, refl, ap, sym, subst, ◌∙◌, arith}
use Rattle.std.specs.Prelude.{◌-◌, All, sum, sum_by, replicate}
use Rattle.std.specs.List.{concat, slice_range}
use Rattle.std.specs.List.Sorted.{IsStrictlyIncreasing}
use Rattle.std.proofs.lemmas.List.{append-nil, map-append, length-append, length-map, length-take-le, length-drop, get_or-take, get_or-drop, get_or-map, take_more}
use Rattle.std.proofs.lemmas.List.Elements.{All-append, All-map}
use Rattle.std.proofs.lemmas.List.Sums.{sum_by-append, sum_by-cons}
use Rattle.walk_model.specs.declared.results.Print.{Print}
use Rattle.walk_model.specs.Beginnings.{begins_from, walks_at}
use Rattle.walk_model.specs.Numbers.{below}
use Rattle.walk_model.specs.Prints.{prints_from}
use Rattle.walk_model.proofs.BeginningLaws.{length-begins_from, begins_from-more, begins_from-first, begins_from-rise, begins_from-below, walks_at-concat}
use Rattle.traveller.specs.PartedRuns.{PartedRun, walk_in}
use Rattle.shard_core.specs.Abreast.{first_prints}
use Rattle.shard_core.specs.Counted.{count_all}
use Rattle.shard_core.specs.Gathered.{prints_since, all_prints, put_all}
use Rattle.shard_core.specs.Walks.{walks_in}
use Rattle.shard_core.proofs.CountLemmas.{of_walker, counted, length-count_all, walker-prints, earlier-prints, same-places}
use Rattle.shard_core.proofs.FinishLemmas.{length-concat}
use Rattle.shard_core.proofs.GatherLemmas.{gathered-behind}
use Rattle.shard_core.proofs.WholeLemmas.{first-all, length-below, walk-sized}

-- the walks of the first walkers
abbrev pub first_walks : PartedRun → ℕ → List (List ℕ)
first_walks g n = map (walk_in g) (below n)

-- the walks of so many walkers from one on
unfoldable pub later_walks : PartedRun → ℕ → ℕ → List (List ℕ)
later_walks g n zero = []
later_walks g n (suc k) = later_walks g n k ++ walk_in g (n + k) ∷ []

later-many : (g : PartedRun) (n k : ℕ) → length (later_walks g n k) ≡ k
unfolding later_walks
later-many g n zero = refl
later-many g n (suc k) =
    length-append (later_walks g n k) (walk_in g (n + k) ∷ []) ∙ (let rest = later-many g n k in omega (arith, rest))

-- those behind the first ones
first-later : (g : PartedRun) (n k : ℕ) → first_walks g (n + k) ≡ first_walks g n ++ later_walks g n k
unfolding later_walks below
first-later g n zero =
    let same : n + 0 ≡ n = omega arith in
    ap (first_walks g) same ∙ sym (append-nil (first_walks g n))
first-later g n (suc k) =
    let next : n + suc k ≡ suc (n + k) = omega arith in
    ap (first_walks g) next ∙ map-append (walk_in g) (below (n + k)) ((n + k) ∷ [])
    ∙ ap (λ (ws : List (List ℕ)). ws ++ walk_in g (n + k) ∷ []) (first-later g n k)
    ∙ append_assoc (first_walks g n) (later_walks g n k) (walk_in g (n + k) ∷ [])

-- the prints of walks one behind another
since-append : (w : ℕ) (xs ys : List (List ℕ)) → prints_since w (xs ++ ys) ≡ prints_since w xs ++ prints_since (w + length xs) ys
unfolding prints_since
since-append w [] ys = (let here : w ≡ w + 0 = omega arith in ap (λ n. prints_since n ys) here)
since-append w (x ∷ xs) ys =
    let shift : suc w + length xs ≡ w + suc (length xs) = omega arith in
    ap (λ ps. prints_from w 0 x ++ ps) (since-append (suc w) xs ys)
    ∙ sym (append_assoc (prints_from w 0 x) (prints_since (suc w) xs) (prints_since (suc w + length xs) ys))
    ∙ ap (λ n. (prints_from w 0 x ++ prints_since (suc w) xs) ++ prints_since n ys) shift

first-many : (g : PartedRun) (n : ℕ) → length (first_walks g n) ≡ n
first-many g n = length-map (below n) (walk_in g) ∙ length-below n

-- so prints that make up what the first ones lack are those of the walks behind
batch-prints : (g : PartedRun) (n k : ℕ) (ps : List Print)
    → ((h : Print → ℕ) → sum_by h ps + sum_by h (first_prints g n) ≡ sum_by h (first_prints g (n + k)))
    → (h : Print → ℕ) → sum_by h ps ≡ sum_by h (prints_since n (later_walks g n k))
batch-prints g n k ps weigh h =
    let shift : 0 + length (first_walks g n) ≡ n = (let many = first-many g n in omega (arith, many)) in
    let whole : first_prints g (n + k) ≡ first_prints g n ++ prints_since n (later_walks g n k) =
    first-all g (n + k) ∙ ap all_prints (first-later g n k) ∙ since-append 0 (first_walks g n) (later_walks g n k)
    ∙ ap (λ m. prints_since 0 (first_walks g n) ++ prints_since m (later_walks g n k)) shift
    ∙ ap (λ (qs : List Print). qs ++ prints_since n (later_walks g n k)) (sym (first-all g n)) in
    let sums : sum_by h (first_prints g (n + k)) ≡ sum_by h (first_prints g n) + sum_by h (prints_since n (later_walks g n k)) =
    ap (sum_by h) whole ∙ sum_by-append h (first_prints g n) (prints_since n (later_walks g n k)) in
    (let given = weigh h in omega (arith, given, sums))

-- each walk has an entry, and not too many
later-sized : (g : PartedRun) (n k : ℕ) → g.plan.length < 2 ^ 32
    → All (λ walk. (1 ≤ length walk) × (length walk ≤ 2 ^ 32)) (later_walks g n k)
unfolding later_walks
later-sized g n zero short = λ i d low. absurd (omega (arith, low))
later-sized g n (suc k) short =
    All-append (λ walk. (1 ≤ length walk) × (length walk ≤ 2 ^ 32)) (later_walks g n k) (walk_in g (n + k) ∷ []) (later-sized g n k short) one
  where
    one : All (λ walk. (1 ≤ length walk) × (length walk ≤ 2 ^ 32)) (walk_in g (n + k) ∷ [])
    one zero d low = walk-sized g (n + k) short
    one (suc i) d low = absurd (omega (arith, low))

-- the walkers of a batch have as many prints as their walks have entries
batch-count : (g : PartedRun) (n k i : ℕ) (ps : List Print) (cs : List ℕ) → g.plan.length < 2 ^ 32
    → ((h : Print → ℕ) → sum_by h ps ≡ sum_by h (prints_since n (later_walks g n k))) → i < k → n + k ≤ length cs
    → get_or cs (n + i) 0 ≡ 0 → get_or (count_all cs ps) (n + i) 0 ≡ length (get_or (later_walks g n k) i [])
batch-count g n k i ps cs short weigh low long none =
    let many = later-many g n k in
    let size = later-sized g n k short i [] (omega (arith, low, many)) in
    let own : sum_by (of_walker (n + i)) ps ≡ length (get_or (later_walks g n k) i []) =
    weigh (of_walker (n + i)) ∙ walker-prints i n (later_walks g n k) (omega (arith, low, many)) in
    let made = counted cs ps (n + i) (omega (arith, low, long)) (omega (arith, none, own, size.1)) in
    omega (arith, made, none, own)

pub batch-counts : (g : PartedRun) (n k m : ℕ) (ps : List Print) (cs : List ℕ) → g.plan.length < 2 ^ 32 → m ≡ n + k
    → ((h : Print → ℕ) → sum_by h ps ≡ sum_by h (prints_since n (later_walks g n k))) → m ≤ length cs
    → ((i : ℕ) → n ≤ i → i < length cs → get_or cs i 0 ≡ 0)
    → slice_range (count_all cs ps) n m ≡ map length (later_walks g n k)
batch-counts g n k m ps cs short is weigh long none =
    same-places (slice_range (count_all cs ps) n m) (map length (later_walks g n k)) same each
  where
    counts : List ℕ
    counts = count_all cs ps

    many : length (slice_range counts n m) ≡ k
    many =
        let all = length-count_all cs ps in
        let behind = length-drop n counts in
        length-take-le (m - n) (drop n counts) (omega (arith, all, behind, long, is)) ∙ omega (arith, is)

    same : length (slice_range counts n m) ≡ length (map length (later_walks g n k))
    same = many ∙ sym (length-map (later_walks g n k) length ∙ later-many g n k)

    each : (i : ℕ) → i < length (slice_range counts n m) → get_or (slice_range counts n m) i 0 ≡ get_or (map length (later_walks g n k)) i 0
    each i low =
        let under : i < k = omega (arith, low, many) in
        let there : i < length (later_walks g n k) = (let all = later-many g n k in omega (arith, all, under)) in
        get_or-take (m - n) (drop n counts) i 0 (omega (arith, under, is)) ∙ get_or-drop n counts i 0
        ∙ batch-count g n k i ps cs short weigh under (omega (arith, long, is)) (none (n + i) (omega arith) (omega (arith, under, is, long)))
        ∙ sym (get_or-map length (later_walks g n k) i [] 0 there)

-- the walkers behind have none yet
pub batch-rest : (g : PartedRun) (n k m : ℕ) (ps : List Print) (cs : List ℕ) → m ≡ n + k
    → ((h : Print → ℕ) → sum_by h ps ≡ sum_by h (prints_since n (later_walks g n k)))
    → ((i : ℕ) → n ≤ i → i < length cs → get_or cs i 0 ≡ 0)
    → (i : ℕ) → m ≤ i → i < length (count_all cs ps) → get_or (count_all cs ps) i 0 ≡ 0
batch-rest g n k m ps cs is weigh none i past low =
    let all = length-count_all cs ps in
    let many = later-many g n k in
    let start = none i (omega (arith, past, is)) (omega (arith, low, all)) in
    let own : sum_by (of_walker i) ps ≡ 0 = weigh (of_walker i) ∙ earlier-prints i n (later_walks g n k) (omega (arith, past, is, many)) in
    let made = counted cs ps i (omega (arith, low, all)) (omega (arith, start, own)) in
    omega (arith, made, start, own)

-- the beginnings of walks one behind another
begins-append : (place : ℕ) (xs ys : List ℕ) → begins_from place (xs ++ ys) ≡ begins_from place xs ++ begins_from (place + sum xs) ys
unfolding begins_from
begins-append place [] ys = (let here : place ≡ place + 0 = omega arith in ap (λ n. begins_from n ys) here)
begins-append place (x ∷ xs) ys =
    let total : place + x + sum xs ≡ place + sum (x ∷ xs) = omega (arith, sum_by-cons (λ n. n) x xs) in
    ap (λ bs. place ∷ bs) (begins-append (place + x) xs ys ∙ ap (λ n. begins_from (place + x) xs ++ begins_from n ys) total)

concat-append : (xs ys : List (List ℕ)) → concat (xs ++ ys) ≡ concat xs ++ concat ys
concat-append [] ys = refl
concat-append (x ∷ xs) ys = ap (λ (l : List ℕ). x ++ l) (concat-append xs ys) ∙ sym (append_assoc x (concat xs) (concat ys))

-- the walks of the first walkers in one list of entries, and the prints that each walker has left
pub record AreFirst (g : PartedRun) (n : ℕ) (entries begins : List ℕ) : Type 0 where
  pub entries_are : entries ≡ concat (first_walks g n)
  pub begins_are : begins ≡ begins_from 0 (map length (first_walks g n))

pub first-start : (g : PartedRun) (entries begins : List ℕ) → entries ≡ [] → begins ≡ [] → AreFirst g 0 entries begins
unfolding below begins_from
first-start g entries begins e b = record { entries_are = e; begins_are = b }

-- the walks of a batch behind them
pub first-more : (g : PartedRun) (n k m : ℕ) (ps : List Print) (counts es bs news begins : List ℕ) → m ≡ n + k
    → ((h : Print → ℕ) → sum_by h ps ≡ sum_by h (prints_since n (later_walks g n k))) → counts ≡ map length (later_walks g n k)
    → AreFirst g n es bs → begins ≡ bs ++ begins_from (length es) counts → news ≡ put_all begins (es ++ replicate (sum counts) 0) ps
    → AreFirst g m news begins
first-more g n k m ps counts es bs news begins is weigh many first b e = record {
  entries_are = e ∙ gathered-behind es bs (later_walks g n k) ps begins (es ++ replicate (sum counts) 0) (sum counts) since placed refl total
      ∙ ap (λ (l : List ℕ). l ++ concat (later_walks g n k)) first.entries_are ∙ sym (concat-append (first_walks g n) (later_walks g n k)) ∙ ap concat (sym walks);
  begins_are = placed ∙ ap (λ (l : List ℕ). l ++ begins_from (length es) (map length (later_walks g n k))) first.begins_are
      ∙ ap (λ j. begins_from 0 (map length (first_walks g n)) ++ begins_from j (map length (later_walks g n k))) behind
      ∙ sym (begins-append 0 (map length (first_walks g n)) (map length (later_walks g n k)))
      ∙ ap (begins_from 0) (sym (map-append length (first_walks g n) (later_walks g n k)) ∙ ap (map length) (sym walks));
}
  where
    walks : first_walks g m ≡ first_walks g n ++ later_walks g n k
    walks = ap (first_walks g) is ∙ first-later g n k

    placed : begins ≡ bs ++ begins_from (length es) (map length (later_walks g n k))
    placed = b ∙ ap (λ (l : List ℕ). bs ++ begins_from (length es) l) many

    total : sum counts ≡ length (concat (later_walks g n k))
    total = ap sum many ∙ sym (length-concat (later_walks g n k))

    behind : length es ≡ 0 + sum (map length (first_walks g n))
    behind = (let same = ap length first.entries_are ∙ length-concat (first_walks g n) in omega (arith, same))

    since : (h : Print → ℕ) → sum_by h ps ≡ sum_by h (prints_since (length bs) (later_walks g n k))
    since h =
        let front : length bs ≡ n =
        ap length first.begins_are ∙ length-begins_from 0 (map length (first_walks g n)) ∙ length-map (first_walks g n) length ∙ first-many g n in
        weigh h ∙ ap (λ j. sum_by h (prints_since j (later_walks g n k))) (sym front)

-- each of a batch's walks has an entry
pub counts-some : (g : PartedRun) (n k : ℕ) (counts : List ℕ) → g.plan.length < 2 ^ 32 → counts ≡ map length (later_walks g n k)
    → All (λ c. 1 ≤ c) counts
counts-some g n k counts short is =
    subst (All (λ c. 1 ≤ c)) (sym is)
    (All-map (λ c. 1 ≤ c) length (later_walks g n k) (λ i d low. (later-sized g n k short i d low).0))

first-some : (g : PartedRun) (n : ℕ) → All (λ c. 1 ≤ c) (map length (first_walks g n))
first-some g n = All-map (λ c. 1 ≤ c) length (first_walks g n) (λ i d low. over (below n) i d low)
  where
    over : (ns : List ℕ) → All (λ walk. 1 ≤ length walk) (map (walk_in g) ns)
    over [] i d low = absurd (omega (arith, low))
    over (j ∷ ns) zero d low = omega arith
    over (j ∷ ns) (suc i) d low = over ns i d (omega (arith, low))

-- the walks begin as walks in one list must
pub first-below : (g : PartedRun) (n : ℕ) (entries begins : List ℕ) → AreFirst g n entries begins → All (λ b. b < length entries) begins
first-below g n entries begins first =
    let total : length entries ≡ sum (map length (first_walks g n)) = ap length first.entries_are ∙ length-concat (first_walks g n) in
    let below = begins_from-below 0 (map length (first_walks g n)) (first-some g n) in
    rw first.begins_are (λ k d low. (let here = below k d low in omega (arith, here, total)))

pub first-rising : (g : PartedRun) (n : ℕ) (entries begins : List ℕ) → AreFirst g n entries begins → IsStrictlyIncreasing begins
first-rising g n entries begins first = rw first.begins_are (begins_from-rise 0 (map length (first_walks g n)) (first-some g n))

pub first-first : (g : PartedRun) (n : ℕ) (entries begins : List ℕ) → AreFirst g n entries begins → get_or begins 0 (length entries) ≡ 0
first-first g n entries begins first =
    let total : length entries ≡ sum (map length (first_walks g n)) = ap length first.entries_are ∙ length-concat (first_walks g n) in
    rw (total, first.begins_are) (begins_from-first (map length (first_walks g n)))

-- and in the end they are all walks
pub first-whole : (g : PartedRun) (entries begins : List ℕ) → AreFirst g g.walkers entries begins → walks_at entries begins ≡ walks_in g
unfolding walks_in
first-whole g entries begins first = rw (first.entries_are, first.begins_are) (walks_at-concat (first_walks g g.walkers))

-- what a batch of walkers leaves are the prints of its walks
pub batch-weighed : (g : PartedRun) (n k m : ℕ) (ps cleared : List Print) → m ≡ n + k → cleared ≡ []
    → ((h : Print → ℕ) → sum_by h ps + sum_by h (first_prints g n) ≡ sum_by h cleared + sum_by h (first_prints g m))
    → (h : Print → ℕ) → sum_by h ps ≡ sum_by h (prints_since n (later_walks g n k))
batch-weighed g n k m ps cleared is none weigh = batch-prints g n k ps whole
  where
    whole : (h : Print → ℕ) → sum_by h ps + sum_by h (first_prints g n) ≡ sum_by h (first_prints g (n + k))
    whole h =
        let empty : sum_by h cleared ≡ 0 = ap (λ (l : List Print). sum_by h l) none in
        let same : sum_by h (first_prints g m) ≡ sum_by h (first_prints g (n + k)) = ap (λ j. sum_by h (first_prints g j)) is in
        (let given = weigh h in omega (arith, given, empty, same))

-- one count more puts one more beginning where the others end
pub behind-more : (old begins news counts : List ℕ) (i place next : ℕ) → i < length counts → begins ≡ old ++ begins_from place (take i counts)
    → next ≡ place + sum (take i counts) → news ≡ begins ++ next ∷ [] → news ≡ old ++ begins_from place (take (i + 1) counts)
behind-more old begins news counts i place next low b n e =
    let more : begins_from place (take (i + 1) counts) ≡ begins_from place (take i counts) ++ next ∷ [] =
    ap (begins_from place) (take_more counts i 0 low) ∙ begins_from-more place (take i counts) (get_or counts i 0)
    ∙ ap (λ j. begins_from place (take i counts) ++ j ∷ []) (sym n) in
    e ∙ ap (λ (l : List ℕ). l ++ next ∷ []) b ∙ append_assoc old (begins_from place (take i counts)) (next ∷ [])
    ∙ ap (λ (l : List ℕ). old ++ l) (sym more)

pub place-more : (counts : List ℕ) (i place next later : ℕ) → i < length counts → next ≡ place + sum (take i counts)
    → later ≡ next + get_or counts i 0 → later ≡ place + sum (take (i + 1) counts)
place-more counts i place next later low n e =
    let all = ap sum (take_more counts i 0 low) in
    let both = sum_by-append (λ x. x) (take i counts) (get_or counts i 0 ∷ []) in
    let one = sum_by-cons (λ x. x) (get_or counts i 0) [] in
    omega (arith, n, e, all, both, one)

-- all walks begin before the end of all entries
pub below-more : (bs counts all : List ℕ) (n m end : ℕ) → All (λ b. b < n) bs → All (λ c. 1 ≤ c) counts → all ≡ bs ++ begins_from m counts
    → m ≡ n → end ≡ n + sum counts → All (λ b. b < end) all
below-more bs counts all n m end low some e same is =
    subst (All (λ b. b < end)) (sym e)
    (All-append (λ b. b < end) bs (begins_from m counts) (λ k d there. (let here = low k d there in omega (arith, here, is)))
    (λ k d there. (let here = begins_from-below m counts some k d there in omega (arith, here, is, same))))
