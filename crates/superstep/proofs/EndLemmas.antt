-- Where a run begins and where it ends.
use Rattle.std.proofs.Common.{◌≡◌, ℕ, ◌+◌, ◌-◌, ◌*◌, ◌^◌, ◌<◌, ◌≤◌, Bool, true, false, cond, List, [], ◌∷◌, ◌++◌, map, length, drop, get_or, refl, ap, sym, ◌∙◌, arith, subst, None, Some}
use Rattle.std.specs.Prelude.{Option, option_map, sum_by, All, ◌==◌}
use Rattle.std.proofs.lemmas.List.{append-nil, length-drop, length-map, drop_all, get_or-map}
use Rattle.std.proofs.lemmas.List.Elements.{All-head, All-tail, All-nil, All-map}
use Rattle.std.proofs.lemmas.List.Sums.{sum_by-append, sum_by-cons}
use Rattle.walk_model.specs.declared.messages.Letter.{Letter}
use Rattle.walk_model.specs.declared.results.Print.{Print}
use Rattle.walk_model.specs.Walk.{first_state, walker_count}
use Rattle.csr_store.specs.RowGraph.{RowGraph}
use Rattle.vertex_partition.specs.PartViews.{PartView}
use Rattle.traveller.specs.declared.modes.Mode.{Mode}
use Rattle.traveller.specs.declared.modes.Mode.TheVariants.{Fresh, Darts, Asked, AskedRow, Chosen, Over}
use Rattle.traveller.specs.declared.runs.Run.{Run}
use Rattle.traveller.specs.PartedRuns.{PartedRun, letters_in, journey_in}
use Rattle.traveller.specs.Standing.{parted}
use Rattle.traveller.specs.Walkers.{Walker, is_ready}
use Rattle.walker_mail.specs.declared.parcels.Addressed.{Addressed}
use Rattle.world_law.specs.Finishing.{unfinished_mode, unfinished, of_ready, of_item}
use Rattle.world_law.specs.Items.{Item as Sent, letter_of}
use Rattle.world_law.specs.LettersAhead.{piece_ahead, count_ahead, last_of, ahead, of_come}
use Rattle.world_law.specs.LettersLeft.{letters_from}
use Rattle.world_law.specs.Soundness.{of_walker, IsSound}
use Rattle.world_law.specs.Worlds.{Piece, Resident, Aside, Printed, Comes, Goes, ShardData, shard_pieces, all_pieces, world_pieces, Same}
use Rattle.world_law.proofs.FinishLemmas.{unfinished-le}
use Rattle.world_law.proofs.HistoryLetters.{begin-letters}
use Rattle.world_law.proofs.LeadLemmas.{sound-same}
use Rattle.shard_core.specs.declared.items.Item.{Item}
use Rattle.shard_core.specs.declared.worlds.World.{World}
use Rattle.shard_core.specs.Items.{item_of as item_seen}
use Rattle.shard_core.specs.Shards.{ShardView, shard_of}
use Rattle.shard_core.specs.SoundWorlds.{AreShardsOf, IsInFlight, IsSoundWorld, IsSomeWorld, HasBegun, HasFinished, flight_of, world_data}
use Rattle.shard_core.specs.Taking.{FitsAmong}
use Rattle.superstep.specs.Carried.{of_one, count_letters, IsLogged}
use Rattle.superstep.specs.Moments.{Moment, moment, pieces_of, Stands, not_posted, all_ahead, LeadsTo, IsGoing, IsSettled, most_letters}
use Rattle.superstep.specs.ToPost.{of_aside, to_post}
use Rattle.superstep.proofs.SumLemmas.{sum_by-map, sum_by-nothing, sum_by-alike, sum_below-alike, length-of_one}
use Rattle.superstep.proofs.ItemLemmas.{ahead-within}
use Rattle.superstep.proofs.RoundLemmas.{come-none}
use Rattle.superstep.proofs.BoundLemmas.{letters-le, sum_below-le}
use Rattle.superstep.proofs.CarryLemmas.{sound-goes}

-- what settled shards weigh by two weights: nothing where neither a print nor a resident that can't go on weighs any
unready-residents : (k : ℕ) (vs : List Walker) → All (λ v. is_ready v.mode ≡ false) vs → sum_by of_ready (map (Resident k) vs) ≡ 0
unready-residents k [] h = refl
unready-residents k (v ∷ vs) h =
    let Unready : Walker → Type 0 = λ x. is_ready x.mode ≡ false in
    let first : of_ready (Resident k v) ≡ 0 = ap (λ b. cond b 1 0) (All-head Unready v vs h) in
    omega (arith, unready-residents k vs (All-tail Unready v vs h), sum_by-cons of_ready (Resident k v) (map (Resident k) vs))

settled-weight : (h : Piece → ℕ) (s : ShardView) → s.aside ≡ [] → ((k : ℕ) (p : Print) → h (Printed k p) ≡ 0)
    → sum_by h (shard_pieces (shard_of s)) ≡ sum_by h (map (Resident s.part.part) s.residents)
settled-weight h s aside prints =
    let k = s.part.part in
    let none : sum_by h (map (Aside k) s.aside) ≡ 0 = ap (λ l. sum_by h (map (Aside k) l)) aside in
    omega (
      arith,
      sum_by-append h (map (Resident k) s.residents) (map (Aside k) s.aside ++ map (Printed k) s.prints),
      sum_by-append h (map (Aside k) s.aside) (map (Printed k) s.prints),
      sum_by-map h (Printed k) s.prints,
      sum_by-alike (λ p. h (Printed k p)) (λ p. 0) s.prints (prints k),
      sum_by-nothing s.prints,
    )

settled-ready : (ss : List ShardView) → All IsSettled ss → sum_by of_ready (all_pieces (map shard_of ss)) ≡ 0
settled-ready [] h = refl
settled-ready (s ∷ ss) h =
    let first = All-head IsSettled s ss h in
    omega (
      arith,
      settled-ready ss (All-tail IsSettled s ss h),
      settled-weight of_ready s first.aside (λ k p. refl),
      unready-residents s.part.part s.residents first.unready,
      sum_by-append of_ready (shard_pieces (shard_of s)) (all_pieces (map shard_of ss)),
    )

settled-items : (ss : List ShardView) → All IsSettled ss → sum_by of_item (all_pieces (map shard_of ss)) ≡ 0
settled-items [] h = refl
settled-items (s ∷ ss) h =
    let first = All-head IsSettled s ss h in
    omega (
      arith,
      settled-items ss (All-tail IsSettled s ss h),
      settled-weight of_item s first.aside (λ k p. refl),
      sum_by-map of_item (Resident s.part.part) s.residents,
      sum_by-nothing s.residents,
      sum_by-append of_item (shard_pieces (shard_of s)) (all_pieces (map shard_of ss)),
    )

-- a sound world that is settled and has nothing in flight has finished
pub settled-finished : (g : PartedRun) (ss : List ShardView) → All IsSettled ss → IsSound g (all_pieces (map shard_of ss) ++ [])
    → sum_by (of_walker unfinished) (all_pieces (map shard_of ss) ++ []) ≡ 0
settled-finished g ss settled h =
    let base = all_pieces (map shard_of ss) in
    omega (
      arith,
      unfinished-le g (base ++ []) h,
      sum_by-append of_ready base [],
      sum_by-append of_item base [],
      settled-ready ss settled,
      settled-items ss settled,
    )

-- where all walkers have finished and there is no item, no letter is to come
over-letters : (g : PartedRun) (v : Walker) (m : Mode) → v.mode ≡ m → unfinished_mode m ≡ 0 → letters_from g v ≡ []
unfolding letters_from
over-letters g v Fresh e h = absurd (omega arith)
over-letters g v (Darts left place) e h = absurd (omega arith)
over-letters g v (Asked left place q) e h = absurd (omega arith)
over-letters g v (AskedRow place q) e h = absurd (omega arith)
over-letters g v (Chosen edge place) e h = absurd (omega arith)
over-letters g v Over e h = rw e refl

cond-nothing : (b : Bool) → ◌≡◌ {A = ℕ} (cond b 0 0) 0
cond-nothing true = refl
cond-nothing false = refl

piece-over : (g : PartedRun) (i : ℕ) (p : Piece) → of_walker unfinished p ≡ 0 → of_item p ≡ 0 → piece_ahead g i p ≡ 0
piece-over g i (Resident k v) u n =
    ap (λ l. cond (v.number == i) (length l) 0) (over-letters g v v.mode refl u) ∙ cond-nothing (v.number == i)
piece-over g i (Printed k p) u n = refl
piece-over g i (Aside k m) u n = absurd (omega arith)
piece-over g i (Comes m) u n = absurd (omega arith)
piece-over g i (Goes m) u n = absurd (omega arith)

pub pieces-over : (g : PartedRun) (i : ℕ) (ps : List Piece) → sum_by (of_walker unfinished) ps ≡ 0 → sum_by of_item ps ≡ 0 → count_ahead g i ps ≡ 0
pieces-over g i [] u n = refl
pieces-over g i (p ∷ ps) u n =
    let a = sum_by-cons (of_walker unfinished) p ps in
    let b = sum_by-cons of_item p ps in
    let first = piece-over g i p (omega arith) (omega arith) in
    let later = pieces-over g i ps (omega arith) (omega arith) in
    omega (arith, sum_by-cons (piece_ahead g i) p ps)

nothing-ahead : (g : PartedRun) (i : ℕ) (ps : List Piece) → count_ahead g i ps ≡ 0 → not_posted g ps i ≡ []
nothing-ahead g i ps e =
    let all = letters_in g i in
    let none : ahead g ps i ≡ [] = drop_all (length all - count_ahead g i ps) all (omega arith) in
    drop_all (sum_by (of_come i) ps) (ahead g ps i) (let short = ap length none in omega arith)

-- at the end nothing is left to post
pub end-posted : (g : PartedRun) (ss : List ShardView) → All IsSettled ss → IsSound g (all_pieces (map shard_of ss) ++ []) → (i : ℕ)
    → not_posted g (all_pieces (map shard_of ss) ++ []) i ≡ []
end-posted g ss settled h i =
    let base = all_pieces (map shard_of ss) in
    let items = settled-items ss settled in
    nothing-ahead g i (base ++ [])
    (pieces-over g i (base ++ []) (settled-finished g ss settled h) (omega (arith, sum_by-append of_item base [])))

-- what has come to shards was set aside there
come-aside : (i : ℕ) (ss : List ShardData) → sum_by (of_come i) (all_pieces ss) ≡ sum_by (of_aside i) (all_pieces ss)
come-aside i [] = refl
come-aside i (s ∷ ss) =
    let k = s.part in
    let r = map (Resident k) s.residents in
    let a = map (Aside k) s.aside in
    let p = map (Printed k) s.prints in
    omega (
      arith,
      come-aside i ss,
      sum_by-append (of_come i) (shard_pieces s) (all_pieces ss),
      sum_by-append (of_aside i) (shard_pieces s) (all_pieces ss),
      sum_by-append (of_come i) r (a ++ p),
      sum_by-append (of_come i) a p,
      sum_by-append (of_aside i) r (a ++ p),
      sum_by-append (of_aside i) a p,
      sum_by-map (of_come i) (Resident k) s.residents,
      sum_by-map (of_aside i) (Resident k) s.residents,
      sum_by-map (of_come i) (Aside k) s.aside,
      sum_by-map (of_aside i) (Aside k) s.aside,
      sum_by-map (of_come i) (Printed k) s.prints,
      sum_by-map (of_aside i) (Printed k) s.prints,
    )

-- what is to be posted of a world is what has not been posted where what is in flight was given out
pub start-posted : (g : PartedRun) (ss : List ShardData) (flight : List Sent) (i : ℕ)
    → not_posted g (all_pieces ss ++ (map Goes flight ++ [])) i ≡ to_post g (all_pieces ss ++ map Comes flight) i
start-posted g ss flight i =
    let base = all_pieces ss in
    let xs = base ++ (map Goes flight ++ []) in
    let ys = base ++ map Comes flight in
    let w = piece_ahead g i in
    let c = of_come i in
    let a = of_aside i in
    let count : count_ahead g i xs ≡ count_ahead g i ys =
    omega (
      arith,
      sum_by-append w base (map Goes flight ++ []),
      sum_by-append w (map Goes flight) [],
      sum_by-append w base (map Comes flight),
      sum_by-map w Goes flight,
      sum_by-map w Comes flight,
    ) in
    let come : sum_by (of_come i) xs ≡ sum_by (of_aside i) ys =
    omega (
      arith,
      come-aside i ss,
      sum_by-append c base (map Goes flight ++ []),
      sum_by-append c (map Goes flight) [],
      sum_by-map c Goes flight,
      sum_by-append a base (map Comes flight),
      sum_by-map a Comes flight,
    ) in
    ap (λ n. drop n (ahead g xs i)) come ∙ ap (λ n. drop (sum_by (of_aside i) ys) (last_of n (letters_in g i))) count

-- a sound world stands where what is in flight was given out
pub start-stands : (g : RowGraph) (run : Run) (cuts : List ℕ) (w : World) (carried : ℕ) (log : Option (List Letter)) → IsSoundWorld g run cuts w
    → Stands g run cuts (moment w.shards.items (flight_of w.flight.items) [] carried log)
start-stands g run cuts w carried log h =
    let p : PartedRun = parted g run cuts in
    let base = all_pieces (map shard_of w.shards.items) in
    let flight = flight_of w.flight.items in
    let first : Same (base ++ map Comes flight) (map Comes flight ++ base) = λ x.
    omega (arith, sum_by-append x base (map Comes flight), sum_by-append x (map Comes flight) base) in
    let last : Same (map Goes flight ++ base) (base ++ (map Goes flight ++ [])) = λ x.
    omega (arith, sum_by-append x base (map Goes flight ++ []), sum_by-append x (map Goes flight) [], sum_by-append x (map Goes flight) base) in
    record {
      shards = h.shards;
      given = All-map (FitsAmong run.vertices cuts) (λ (a : Addressed Item). item_seen a.item) w.flight.items (λ k d low. (h.flight k d low).fits);
      held = All-nil (FitsAmong run.vertices cuts);
      sound = sound-same p (map Goes flight ++ base) (base ++ (map Goes flight ++ [])) last
          (sound-goes p flight base (sound-same p (base ++ map Comes flight) (map Comes flight ++ base) first h.sound));
    }

-- no walk has more letters than so many
pub walk-letters : (p : PartedRun) (i : ℕ) → length (letters_in p i) ≤ p.plan.length * (2 * p.plan.retries + 3)
walk-letters p i = letters-le p.plan.length (journey_in p i) (first_state (p.start i))

-- no moment has more letters left than all walks
pub start-few : (p : PartedRun) (m : Moment) → count_letters p.walkers (not_posted p (pieces_of m)) ≤ p.walkers * (p.plan.length * (2 * p.plan.retries + 3))
start-few p m =
    sum_below-le p.walkers (λ i. length (not_posted p (pieces_of m) i)) (p.plan.length * (2 * p.plan.retries + 3))
    (λ i low.
    omega (
      arith,
      walk-letters p i,
      length-drop (sum_by (of_come i) (pieces_of m)) (ahead p (pieces_of m) i),
      length-drop (length (letters_in p i) - count_ahead p i (pieces_of m)) (letters_in p i),
    ))

-- a log that grew by letters
pub logged-as : (walkers : ℕ) (wanted : ℕ → List Letter) (letters : List Letter) (before after : Option (List Letter))
    → after ≡ option_map (λ told. told ++ letters) before → ((i : ℕ) → i < walkers → of_one i letters ≡ wanted i)
    → All (λ l. l.walker < walkers) letters → IsLogged walkers wanted before after
logged-as walkers wanted letters None after e each alone = e
logged-as walkers wanted letters (Some before) None e each alone = absurd (cc)
logged-as walkers wanted letters (Some before) (Some after) e each alone =
    let same : after ≡ before ++ letters = cc in
    record { more = letters; grew = same; each = each; alone = alone }

-- nor more to come
pub start-ahead : (p : PartedRun) (m : Moment) → IsSound p (pieces_of m) → all_ahead p (pieces_of m) ≤ p.walkers * (p.plan.length * (2 * p.plan.retries + 3))
start-ahead p m h =
    sum_below-le p.walkers (λ i. count_ahead p i (pieces_of m)) (p.plan.length * (2 * p.plan.retries + 3))
    (λ i low. omega (arith, walk-letters p i, ahead-within p i (pieces_of m) h))

-- the first of some
first-of : {X : Type 0} (xs : List X) → 0 < length xs → X
first-of [] low = absurd (omega (arith, low))
first-of (x ∷ xs) low = x

-- a run can go on from a sound world whose letters can be counted
pub start-going : (w : World) (carried : ℕ) (log : Option (List Letter)) (h : IsSomeWorld w) → carried ≤ 2 ^ 63
    → ((s : ShardView) → most_letters (get_or w.shards.items 0 s).run < 2 ^ 63)
    → IsGoing (moment w.shards.items (flight_of w.flight.items) [] carried log)
start-going w carried log h few countable =
    let m : Moment = moment w.shards.items (flight_of w.flight.items) [] carried log in
    let p : PartedRun = parted h.graph h.run h.cuts in
    let shards = h.sound.shards in
    let some : 0 < length w.shards.items = omega (arith, shards.parts.count, length-map w.shards.items (λ (s : ShardView). s.part)) in
    let d : ShardView = first-of w.shards.items some in
    let same = shards.runs 0 d some in
    let most : most_letters (get_or w.shards.items 0 d).run ≡ most_letters h.run =
    λ n. walker_count (same.plan n).start (same.vertices n) * ((same.plan n).length * (2 * (same.plan n).retries + 3)) in
    let bound : most_letters h.run < 2 ^ 63 = subst (λ n. n < 2 ^ 63) most (countable d) in
    record {
      graph = h.graph;
      run = h.run;
      cuts = h.cuts;
      stands = start-stands h.graph h.run h.cuts w carried log h.sound;
      room = omega (arith, start-few p m);
      few = omega (arith, start-ahead p m (start-stands h.graph h.run h.cuts w carried log h.sound).sound);
    }

-- a world at a moment that is settled and at which nothing is held is sound and has finished
end-world : (g : RowGraph) (run : Run) (cuts : List ℕ) (w : World) (shards : List ShardView) (carried : ℕ) (log : Option (List Letter))
    → w.shards.items ≡ shards → w.flight.items ≡ [] → All IsSettled shards → Stands g run cuts (moment shards [] [] carried log)
    → IsSoundWorld g run cuts w × HasFinished w
end-world g run cuts w shards carried log is none settled stands =
    let p : PartedRun = parted g run cuts in
    let same : world_pieces (world_data w) ≡ all_pieces (map shard_of shards) ++ [] =
    ap (λ l. all_pieces (map shard_of l) ++ map Comes (flight_of w.flight.items)) is ∙ ap (λ l. all_pieces (map shard_of shards) ++ map Comes (flight_of l)) none in (
      record {
        shards = subst (AreShardsOf g run cuts) (sym is) stands.shards;
        flight = subst (All (IsInFlight run.vertices cuts)) (sym none) (All-nil (IsInFlight run.vertices cuts));
        sound = subst (IsSound p) (sym same) stands.sound;
      },
      ap (sum_by (of_walker unfinished)) same ∙ settled-finished p shards settled stands.sound,
    )

pub end-sound : (g : RowGraph) (run : Run) (cuts : List ℕ) (w : World) (shards : List ShardView) (carried : ℕ) (log : Option (List Letter))
    → w.shards.items ≡ shards → w.flight.items ≡ [] → All IsSettled shards → Stands g run cuts (moment shards [] [] carried log)
    → IsSoundWorld g run cuts w
end-sound g run cuts w shards carried log is none settled stands = (end-world g run cuts w shards carried log is none settled stands).0

pub end-finished : (g : RowGraph) (run : Run) (cuts : List ℕ) (w : World) (shards : List ShardView) (carried : ℕ) (log : Option (List Letter))
    → w.shards.items ≡ shards → w.flight.items ≡ [] → All IsSettled shards → Stands g run cuts (moment shards [] [] carried log)
    → HasFinished w
end-finished g run cuts w shards carried log is none settled stands = (end-world g run cuts w shards carried log is none settled stands).1

-- all letters of a run that has come to its end are those that were to be posted
pub end-letters : (g : RowGraph) (run : Run) (cuts : List ℕ) (n : ℕ) (letters : List Letter) (w : World) (shards : List ShardView)
    (carried carried_then : ℕ) (log log_then : Option (List Letter)) → All IsSettled shards
    → LeadsTo g run cuts n letters (moment w.shards.items (flight_of w.flight.items) [] carried log) (moment shards [] [] carried_then log_then)
    → (i : ℕ) → i < (parted g run cuts).walkers → of_one i letters ≡ to_post (parted g run cuts) (world_pieces (world_data w)) i
end-letters g run cuts n letters w shards carried carried_then log log_then settled l i low =
    let p : PartedRun = parted g run cuts in
    let none = end-posted p shards settled l.stands.sound i in
    sym (append-nil (of_one i letters)) ∙ ap (λ x. of_one i letters ++ x) (sym none) ∙ l.each i low
    ∙ start-posted p (map shard_of w.shards.items) (flight_of w.flight.items) i

-- and are as many
pub end-count : (walkers : ℕ) (letters : List Letter) (wanted : ℕ → List Letter) → All (λ l. l.walker < walkers) letters
    → ((i : ℕ) → i < walkers → of_one i letters ≡ wanted i) → length letters ≡ count_letters walkers wanted
end-count walkers letters wanted alone each =
    sym (length-of_one walkers letters alone) ∙ sum_below-alike walkers (λ i. length (of_one i letters)) (λ i. length (wanted i)) (λ i low. ap length (each i low))

-- before any step all letters of its walk are to be posted for each walker
pub begun-posted : (g : RowGraph) (run : Run) (cuts : List ℕ) (w : World) → HasBegun g run cuts w → (i : ℕ) → i < (parted g run cuts).walkers
    → to_post (parted g run cuts) (world_pieces (world_data w)) i ≡ letters_in (parted g run cuts) i
begun-posted g run cuts w h i low =
    let p : PartedRun = parted g run cuts in
    let ss = map shard_of w.shards.items in
    let ps = world_pieces (world_data w) in
    let flight : flight_of w.flight.items ≡ [] = ap flight_of h.flight in
    let none : sum_by (of_aside i) ps ≡ 0 =
    omega (
      arith,
      sum_by-append (of_aside i) (all_pieces ss) (map Comes (flight_of w.flight.items)),
      sum_by-map (of_aside i) Comes (flight_of w.flight.items),
      sum_by-nothing (flight_of w.flight.items),
      come-aside i ss,
      come-none i w.shards.items h.aside,
    ) in
    let ahead_all : ahead p ps i ≡ letters_in p i =
    ap (λ n. last_of n (letters_in p i)) (h.starts (piece_ahead p i)) ∙ begin-letters p i low in
    ap (λ n. drop n (ahead p ps i)) none ∙ ahead_all

-- what is in flight comes from a part
pub flight-from : (w : World) → IsSomeWorld w → All (λ a. (letter_of (item_seen a.item)).from < length w.shards.items) w.flight.items
flight-from w h k d low =
    let a = get_or w.flight.items k d in
    let i = item_seen a.item in
    let fits = (h.sound.flight k d low).fits in
    let part : PartView = record { part = (letter_of i).to; cuts = h.cuts; weighted = false; vertices = h.run.vertices; edges = [] } in
    let takes = fits.taken part refl refl refl in
    let from = takes.from in
    omega (arith, from, h.sound.shards.parts.count, length-map w.shards.items (λ (s : ShardView). s.part))

-- there are no more shards than parts may be
pub shards-few : (w : World) → IsSomeWorld w → ((s : ShardView) → length (get_or w.shards.items 0 s).part.cuts + 1 ≤ 256) → length w.shards.items ≤ 256
shards-few w h few =
    let shards = h.sound.shards in
    let some : 0 < length w.shards.items = omega (arith, shards.parts.count, length-map w.shards.items (λ (s : ShardView). s.part)) in
    let d : ShardView = first-of w.shards.items some in
    let part = shards.parts.each 0 (get_or w.shards.items 0 d).part (omega (arith, some, length-map w.shards.items (λ (s : ShardView). s.part))) in
    let there = get_or-map (λ (s : ShardView). s.part) w.shards.items 0 d (get_or w.shards.items 0 d).part some in
    let cuts : (get_or w.shards.items 0 d).part.cuts ≡ h.cuts = ap (λ (x : PartView). x.cuts) (sym there) ∙ part.cuts_are in
    omega (arith, few d, ap length cuts, shards.parts.count, length-map w.shards.items (λ (s : ShardView). s.part))

-- a log that grew by some letters grew by the same ones
pub logged-alike : (walkers : ℕ) (wanted same : ℕ → List Letter) (before after : Option (List Letter)) → ((i : ℕ) → i < walkers → wanted i ≡ same i)
    → IsLogged walkers wanted before after → IsLogged walkers same before after
logged-alike walkers wanted same None after e h = h
logged-alike walkers wanted same (Some before) None e h = h
logged-alike walkers wanted same (Some before) (Some after) e h =
    record { more = h.more; grew = h.grew; each = λ i low. h.each i low ∙ e i low; alone = h.alone }
