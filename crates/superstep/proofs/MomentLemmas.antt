-- What is posted between two moments is the first of what was not yet posted.
use Rattle.std.proofs.Common.{◌≡◌, ℕ, ◌+◌, ◌<◌, ◌≤◌, Bool, true, false, cond, List, [], ◌∷◌, ◌++◌, map, drop, get_or, refl, ap, ◌∙◌, arith, subst, inl, inr}
use Rattle.std.specs.Prelude.{Option, sum_by, All, ◌==◌, ◌⊎◌}
use Rattle.std.proofs.lemmas.Bool.{cases_lt, eq-eqb, eqb-true}
use Rattle.std.proofs.lemmas.List.{map-append, nil_from_length}
use Rattle.std.proofs.lemmas.List.Elements.{All-map, filter-append}
use Rattle.std.proofs.lemmas.List.Sums.{sum_by-cons, sum_by-append, get_or-le-sum_by}
use Rattle.walk_model.specs.declared.messages.Letter.{Letter}
use Rattle.walk_model.proofs.PieceLemmas.{sum_below-same}
use Rattle.csr_store.specs.RowGraph.{RowGraph}
use Rattle.traveller.specs.declared.runs.Run.{Run}
use Rattle.traveller.specs.PartedRuns.{PartedRun, letters_in}
use Rattle.traveller.specs.Standing.{parted}
use Rattle.world_law.specs.Items.{Item as Sent, letter_of}
use Rattle.world_law.specs.LettersAhead.{item_of, piece_ahead, count_ahead, last_of, ahead, of_come, of_gone}
use Rattle.world_law.specs.Soundness.{IsSound}
use Rattle.world_law.specs.Worlds.{Piece, Comes, Goes, all_pieces, Same}
use Rattle.world_law.proofs.LeadLemmas.{sound-same}
use Rattle.world_law.proofs.ItemLaws.{goes-first}
use Rattle.shard_core.specs.Shards.{ShardView, shard_of}
use Rattle.shard_core.specs.Taking.{FitsAmong}
use Rattle.superstep.specs.Carried.{of_one}
use Rattle.superstep.specs.Moments.{Moment, moment, pieces_of, Stands, not_posted, LeadsTo}
use Rattle.superstep.proofs.SumLemmas.{length-of_items, sum_by-map, sum_by-nothing, Found, find-one}
use Rattle.superstep.proofs.ItemLemmas.{items-one, items-none}
use Rattle.superstep.proofs.CarryLemmas.{sound-comes}

-- the same items in any order
abbrev pub SameItems : List Sent → List Sent → Type 0
SameItems xs ys = (h : Sent → ℕ) → sum_by h xs ≡ sum_by h ys

-- the weight of all pieces of a moment
pub pieces-sum : (h : Piece → ℕ) (m : Moment) → sum_by h (pieces_of m)
    ≡ sum_by h (all_pieces (map shard_of m.shards)) + (sum_by (λ i. h (Goes i)) m.given + sum_by (λ i. h (Comes i)) m.held)
pieces-sum h m =
    omega (
      arith,
      sum_by-append h (all_pieces (map shard_of m.shards)) (map Goes m.given ++ map Comes m.held),
      sum_by-append h (map Goes m.given) (map Comes m.held),
      sum_by-map h Goes m.given,
      sum_by-map h Comes m.held,
    )

-- the same pieces have the same letters ahead
pub ahead-count : (g : PartedRun) (i : ℕ) (xs ys : List Piece) → count_ahead g i xs ≡ count_ahead g i ys → ahead g xs i ≡ ahead g ys i
ahead-count g i xs ys e = ap (λ n. last_of n (letters_in g i)) e

-- an item of walker i
one-is : (i : ℕ) (m : Sent) → 1 ≤ item_of i m → (letter_of m).walker ≡ i
one-is i m h = by ((letter_of m).walker == i) refl h
  where
    by : (b : Bool) → ((letter_of m).walker == i) ≡ b → 1 ≤ cond b 1 0 → (letter_of m).walker ≡ i
    by true e h = eqb-true (letter_of m).walker i e
    by false e h = absurd (omega arith)

own-one : (m : Sent) → item_of (letter_of m).walker m ≡ 1
own-one m = ap (λ b. cond b 1 0) (eq-eqb (letter_of m).walker (letter_of m).walker refl)

-- the items of a sound world are of its walkers
pub items-known : (g : PartedRun) (ms : List Sent) (ps : List Piece) → IsSound g ps
    → ((i : ℕ) → sum_by (item_of i) ms ≤ sum_by (of_come i) ps + sum_by (of_gone i) ps) → All (λ m. (letter_of m).walker < g.walkers) ms
items-known g ms ps h few k d low = by (cases_lt (letter_of (get_or ms k d)).walker g.walkers)
  where
    by : ((letter_of (get_or ms k d)).walker < g.walkers) ⊎ (g.walkers ≤ (letter_of (get_or ms k d)).walker) → (letter_of (get_or ms k d)).walker < g.walkers
    by (inl below) = below
    by (inr past) =
        let m = get_or ms k d in
        let i = (letter_of m).walker in
        absurd (omega (arith, items-none g i ps h past, few i, get_or-le-sum_by (item_of i) ms k d low, own-one m))

-- how many items of walker i are given out
pub gone-items : (i : ℕ) (ms : List Sent) (others : List Piece)
    → sum_by (of_gone i) (map Goes ms ++ others) ≡ sum_by (item_of i) ms + sum_by (of_gone i) others
gone-items i ms others = omega (arith, sum_by-append (of_gone i) (map Goes ms) others, sum_by-map (of_gone i) Goes ms)

-- the letters of items in two lists one after another
of_one-append : (i : ℕ) (xs ys : List Sent) → of_one i (map letter_of (xs ++ ys)) ≡ of_one i (map letter_of xs) ++ of_one i (map letter_of ys)
of_one-append i xs ys =
    ap (of_one i) (map-append letter_of xs ys) ∙ filter-append (λ (l : Letter). l.walker == i) (map letter_of xs) (map letter_of ys)

-- where items have no letter of walker i
of_one-none : (i : ℕ) (ms : List Sent) → sum_by (item_of i) ms ≡ 0 → of_one i (map letter_of ms) ≡ []
of_one-none i ms e = nil_from_length (of_one i (map letter_of ms)) (length-of_items i ms ∙ e)

of_one-own : (i : ℕ) (m : Sent) (ls : List Letter) → (letter_of m).walker ≡ i → of_one i (letter_of m ∷ ls) ≡ letter_of m ∷ of_one i ls
of_one-own i m ls e = ap (λ b. cond b (letter_of m ∷ of_one i ls) (of_one i ls)) (eq-eqb (letter_of m).walker i e)

-- the letters of walker i among those of what is given out are the first of those to come
pub front-letters : (g : PartedRun) (i : ℕ) (ms : List Sent) (others : List Piece) → IsSound g (map Goes ms ++ others)
    → of_one i (map letter_of ms) ++ drop (sum_by (of_come i) others + sum_by (item_of i) ms) (ahead g (map Goes ms ++ others) i)
    ≡ drop (sum_by (of_come i) others) (ahead g (map Goes ms ++ others) i)
front-letters g i ms others h = by (cases_lt 0 (sum_by (item_of i) ms))
  where
    there : Found (item_of i) ms → of_one i (map letter_of ms) ++ drop (sum_by (of_come i) others + sum_by (item_of i) ms) (ahead g (map Goes ms ++ others) i)
        ≡ drop (sum_by (of_come i) others) (ahead g (map Goes ms ++ others) i)
    there f =
        let m = f.one in
        let own = one-is i m f.some in
        let rest = map Goes (f.front ++ f.back) ++ others in
        let some = f.some in
        let few = items-one g i (map Goes ms ++ others) h in
        let gone = gone-items i ms others in
        let comes = sum_by-append (of_come i) (map Goes ms) others in
        let parts : sum_by (item_of i) ms ≡ sum_by (item_of i) f.front + (item_of i m + sum_by (item_of i) f.back) =
        ap (sum_by (item_of i)) f.whole ∙ omega (arith, sum_by-append (item_of i) f.front (m ∷ f.back), sum_by-cons (item_of i) m f.back) in
        let one : sum_by (item_of i) ms ≡ 1 = omega arith in
        let none : sum_by (of_come i) others ≡ 0 = omega arith in
        let before : sum_by (item_of i) f.front ≡ 0 = omega arith in
        let behind : sum_by (item_of i) f.back ≡ 0 = omega arith in
        let turned : Same (map Goes ms ++ others) (Goes m ∷ rest) = λ w.
        omega (
          arith,
          sum_by-append w (map Goes ms) others,
          sum_by-map w Goes ms,
          ap (sum_by (λ x. w (Goes x))) f.whole,
          sum_by-append (λ x. w (Goes x)) f.front (m ∷ f.back),
          sum_by-cons (λ x. w (Goes x)) m f.back,
          sum_by-cons w (Goes m) rest,
          sum_by-append w (map Goes (f.front ++ f.back)) others,
          sum_by-map w Goes (f.front ++ f.back),
          sum_by-append (λ x. w (Goes x)) f.front f.back,
        ) in
        let first = goes-first g m rest (sound-same g (map Goes ms ++ others) (Goes m ∷ rest) turned h) in
        let letters : ahead g (map Goes ms ++ others) i ≡ letter_of m ∷ first.0 =
        ahead-count g i (map Goes ms ++ others) (Goes m ∷ rest) (turned (piece_ahead g i))
        ∙ subst (λ n. ahead g (Goes m ∷ rest) n ≡ letter_of m ∷ first.0) own first.1 in
        let mine : of_one i (map letter_of ms) ≡ letter_of m ∷ [] =
        ap (λ x. of_one i (map letter_of x)) f.whole ∙ of_one-append i f.front (m ∷ f.back)
        ∙ ap (λ x. x ++ of_one i (map letter_of (m ∷ f.back))) (of_one-none i f.front before)
        ∙ of_one-own i m (map letter_of f.back) own
        ∙ ap (λ x. letter_of m ∷ x) (of_one-none i f.back behind) in
        rw (mine, one, none, letters) refl

    by : (0 < sum_by (item_of i) ms) ⊎ (sum_by (item_of i) ms ≤ 0)
        → of_one i (map letter_of ms) ++ drop (sum_by (of_come i) others + sum_by (item_of i) ms) (ahead g (map Goes ms ++ others) i)
        ≡ drop (sum_by (of_come i) others) (ahead g (map Goes ms ++ others) i)
    by (inl some) = there (find-one (item_of i) ms some)
    by (inr few) =
        let none : sum_by (item_of i) ms ≡ 0 = omega arith in
        let same : sum_by (of_come i) others + sum_by (item_of i) ms ≡ sum_by (of_come i) others = omega arith in
        rw (of_one-none i ms none, same) refl

-- what is posted, in front of all else
posted-front : (base : List Piece) (given held posted : List Sent) → SameItems given posted
    → Same (base ++ (map Goes given ++ map Comes held)) (map Goes posted ++ (base ++ map Comes held))
posted-front base given held posted same = λ w.
    omega (
      arith,
      sum_by-append w base (map Goes given ++ map Comes held),
      sum_by-append w (map Goes given) (map Comes held),
      sum_by-map w Goes given,
      same (λ x. w (Goes x)),
      sum_by-map w Goes posted,
      sum_by-append w (map Goes posted) (base ++ map Comes held),
      sum_by-append w base (map Comes held),
    )

posted-back : (base : List Piece) (held held_then posted : List Sent) → SameItems (held ++ posted) held_then
    → Same (map Comes posted ++ (base ++ map Comes held)) (base ++ (map Goes [] ++ map Comes held_then))
posted-back base held held_then posted same = λ w.
    omega (
      arith,
      sum_by-append w (map Comes posted) (base ++ map Comes held),
      sum_by-append w base (map Comes held),
      sum_by-map w Comes posted,
      sum_by-map w Comes held,
      sum_by-append (λ x. w (Comes x)) held posted,
      same (λ x. w (Comes x)),
      sum_by-map w Comes held_then,
      sum_by-append w base (map Comes held_then),
    )

posted-sound : (p : PartedRun) (base : List Piece) (given held held_then posted : List Sent) → SameItems given posted
    → SameItems (held ++ posted) held_then → IsSound p (base ++ (map Goes given ++ map Comes held))
    → IsSound p (base ++ (map Goes [] ++ map Comes held_then))
posted-sound p base given held held_then posted same then_held h =
    let front = sound-same p _ (map Goes posted ++ (base ++ map Comes held)) (posted-front base given held posted same) h in
    sound-same p (map Comes posted ++ (base ++ map Comes held)) _ (posted-back base held held_then posted then_held)
    (sound-comes p posted (base ++ map Comes held) front)

-- posting takes in no letter
posted-count : (p : PartedRun) (base : List Piece) (given held held_then posted : List Sent) → SameItems given posted
    → SameItems (held ++ posted) held_then → (i : ℕ)
    → count_ahead p i (base ++ (map Goes [] ++ map Comes held_then)) ≡ count_ahead p i (base ++ (map Goes given ++ map Comes held))
posted-count p base given held held_then posted same then_held i =
    let w = piece_ahead p i in
    omega (
      arith,
      posted-front base given held posted same w,
      posted-back base held held_then posted then_held w,
      sum_by-append w (map Goes posted) (base ++ map Comes held),
      sum_by-append w (map Comes posted) (base ++ map Comes held),
      sum_by-map w Goes posted,
      sum_by-map w Comes posted,
    )

posted-come : (i : ℕ) (base : List Piece) (held held_then posted : List Sent) → SameItems (held ++ posted) held_then
    → sum_by (of_come i) (base ++ (map Goes [] ++ map Comes held_then)) ≡ sum_by (of_come i) (base ++ map Comes held) + sum_by (item_of i) posted
posted-come i base held held_then posted then_held =
    let w : Piece → ℕ = of_come i in
    omega (
      arith,
      posted-back base held held_then posted then_held w,
      sum_by-append w (map Comes posted) (base ++ map Comes held),
      sum_by-map w Comes posted,
    )

given-come : (i : ℕ) (base : List Piece) (given held posted : List Sent) → SameItems given posted
    → sum_by (of_come i) (base ++ (map Goes given ++ map Comes held)) ≡ sum_by (of_come i) (base ++ map Comes held)
given-come i base given held posted same =
    let w = of_come i in
    omega (
      arith,
      posted-front base given held posted same w,
      sum_by-append w (map Goes posted) (base ++ map Comes held),
      sum_by-map w Goes posted,
      sum_by-nothing posted,
    )

posted-each : (p : PartedRun) (base : List Piece) (given held held_then posted : List Sent) → SameItems given posted
    → SameItems (held ++ posted) held_then → IsSound p (base ++ (map Goes given ++ map Comes held)) → (i : ℕ)
    → of_one i (map letter_of posted) ++ not_posted p (base ++ (map Goes [] ++ map Comes held_then)) i
    ≡ not_posted p (base ++ (map Goes given ++ map Comes held)) i
posted-each p base given held held_then posted same then_held h i =
    let before = base ++ (map Goes given ++ map Comes held) in
    let after = base ++ (map Goes [] ++ map Comes held_then) in
    let others = base ++ map Comes held in
    let middle = map Goes posted ++ others in
    let turned : Same before middle = posted-front base given held posted same in
    let first : ahead p before i ≡ ahead p middle i = ahead-count p i before middle (turned (piece_ahead p i)) in
    let last : ahead p after i ≡ ahead p before i = ahead-count p i after before (posted-count p base given held held_then posted same then_held i) in
    let letters = front-letters p i posted others (sound-same p before middle turned h) in
    let come : sum_by (of_come i) after ≡ sum_by (of_come i) others + sum_by (item_of i) posted = posted-come i base held held_then posted then_held in
    let came : sum_by (of_come i) before ≡ sum_by (of_come i) others = given-come i base given held posted same in
    rw (last, first, come, came) letters

-- what is given out is posted
pub post-leads : (g : RowGraph) (run : Run) (cuts : List ℕ) (shards : List ShardView) (given held held_then posted : List Sent)
    (carried carried_then : ℕ) (log log_then : Option (List Letter)) → Stands g run cuts (moment shards given held carried log)
    → SameItems given posted → SameItems (held ++ posted) held_then → All (FitsAmong run.vertices cuts) held_then
    → LeadsTo g run cuts 0 (map letter_of posted) (moment shards given held carried log) (moment shards [] held_then carried_then log_then)
post-leads g run cuts shards given held held_then posted carried carried_then log log_then stands same then_held fits =
    let p : PartedRun = parted g run cuts in
    let base : List Piece = all_pieces (map shard_of shards) in
    let h : IsSound p (base ++ (map Goes given ++ map Comes held)) = stands.sound in
    let front = sound-same p _ (map Goes posted ++ (base ++ map Comes held)) (posted-front base given held posted same) h in
    let count = sum_below-same p.walkers _ _ (posted-count p base given held held_then posted same then_held) in
    record {
      stands = record {
        shards = stands.shards;
        given = λ k d low. absurd (omega (arith, low));
        held = fits;
        sound = posted-sound p base given held held_then posted same then_held h;
      };
      each = λ i low. posted-each p base given held held_then posted same then_held h i;
      alone = All-map (λ (l : Letter). l.walker < p.walkers) letter_of posted
          (items-known p posted (map Goes posted ++ (base ++ map Comes held)) front (λ i. omega (arith, gone-items i posted (base ++ map Comes held))));
      fewer = omega (arith, count);
    }
