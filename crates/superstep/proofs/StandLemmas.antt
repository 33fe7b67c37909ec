-- Shards stay those of a graph, a run and cuts, and take in what goes to them.
use Rattle.std.proofs.Common.{◌≡◌, ℕ, zero, suc, ◌+◌, ◌<◌, List, [], ◌∷◌, ◌++◌, map, length, get_or, refl, sym, arith, subst}
use Rattle.std.specs.Prelude.{All, Option}
use Rattle.std.proofs.lemmas.List.{length-map, get_or-map}
use Rattle.std.proofs.lemmas.List.Elements.{All-cons, All-head, All-tail, All-nil, All-append, All-map}
use Rattle.walk_model.specs.declared.messages.Letter.{Letter}
use Rattle.walk_model.specs.Cuts.{owner}
use Rattle.walk_model.specs.Walk.{walker_count}
use Rattle.csr_store.specs.RowGraph.{RowGraph}
use Rattle.vertex_partition.specs.PartViews.{PartView, IsPart}
use Rattle.traveller.specs.declared.runs.Run.{Run}
use Rattle.traveller.specs.PartedRuns.{PartedRun}
use Rattle.traveller.specs.Runs.{start_rank}
use Rattle.traveller.specs.Standing.{parted}
use Rattle.walker_mail.specs.declared.parcels.Addressed.{Addressed}
use Rattle.walker_mail.proofs.CutLemmas.{All-front, All-back}
use Rattle.world_law.specs.Items.{Item as Sent}
use Rattle.world_law.specs.Rounds.{GoTo}
use Rattle.shard_core.specs.declared.items.Item.{Item}
use Rattle.shard_core.specs.Items.{item_of}
use Rattle.shard_core.specs.Shards.{ShardView}
use Rattle.shard_core.specs.SoundWorlds.{ArePartsOf, AreShardsOf, IsSameRun, flight_of}
use Rattle.shard_core.specs.Taking.{FitsAmong}
use Rattle.superstep.specs.Boxes.{joined, GoesTo}
use Rattle.superstep.specs.Moments.{moment, Stands, IsSettled, LeadsTo}
use Rattle.superstep.specs.Rounding.{MadeRound, arrived}
use Rattle.superstep.proofs.SumLemmas.{items-below, sum_below-fewer}
use Rattle.superstep.proofs.RoundLemmas.{BelongFrom, all_arrived, all_given, turned-rounds}

-- the run among parts goes by what two same runs have the same
pub same-parted : (g : RowGraph) (a b : Run) (c d : List ℕ) → IsSameRun a b → c ≡ d → parted g a c ≡ parted g b d
same-parted g a b c d same cuts = λ n. record {
  edges = g.edges;
  plan = same.plan n;
  seed = same.seed n;
  owner = owner (cuts n);
  walkers = walker_count (same.plan n).start (same.vertices n);
  start = start_rank (same.plan n).start (same.vertices n) (same.start n);
}

-- what holds of each of what a list is led to
pub all-unmap : {X Y : Type 0} (P : Y → Type 0) (f : X → Y) (xs : List X) → All P (map f xs) → All (λ x. P (f x)) xs
all-unmap P f xs h k d low = subst P (get_or-map f xs k d (f d) low) (h k (f d) (omega (arith, length-map xs f)))

-- what holds of all that is in lists holds of what is in each
pub each-list : {X : Type 0} (P : X → Type 0) (lists : List (List X)) → All P (joined lists) → (k : ℕ) (d : List X) → k < length lists
    → All P (get_or lists k d)
each-list P [] all k d low = absurd (omega arith)
each-list P (l ∷ ls) all zero d low = All-front P l (joined ls) all
each-list P (l ∷ ls) all (suc k) d low = each-list P ls (All-back P l (joined ls) all) k d (omega arith)

all-go : (k : ℕ) (items : List Item) → All (GoesTo k) items → GoTo k (arrived items)
all-go k [] h = tt
all-go k (i ∷ is) h = (All-head (GoesTo k) i is h, all-go k is (All-tail (GoesTo k) i is h))

-- rounds at the shards of a graph, a run and cuts
belong-from : (g : RowGraph) (run : Run) (cuts : List ℕ) (n : ℕ) (rs : List MadeRound)
    → ((k : ℕ) (d : PartView) → k < length rs → IsPart g run.plan.weighted cuts (n + k) (get_or (map (λ (s : ShardView). s.part) (map (λ (r : MadeRound). r.before) rs)) k d))
    → All (λ s. IsSameRun s.run run) (map (λ r. r.before) rs)
    → ((k : ℕ) (d : List Item) → k < length rs → All (GoesTo (n + k)) (get_or (map (λ (r : MadeRound). r.arrivals) rs) k d))
    → BelongFrom g (parted g run cuts) n rs
belong-from g run cuts n [] parts runs goes = tt
belong-from g run cuts n (r ∷ rs) parts runs goes =
    let here : n + 0 ≡ n = omega arith in
    let part = subst (λ k. IsPart g run.plan.weighted cuts k r.before.part) here (parts 0 r.before.part (omega arith)) in
    let Same : ShardView → Type 0 = λ s. IsSameRun s.run run in (
      record {
        part = part.part;
        of = part.of_graph;
        runs = same-parted g r.before.run run r.before.part.cuts cuts (All-head Same r.before (map (λ (x : MadeRound). x.before) rs) runs) part.cuts_are;
        goes = all-go n r.arrivals (subst (λ k. All (GoesTo k) r.arrivals) here (goes 0 r.arrivals (omega arith)));
      },
      belong-from g run cuts (suc n) rs
          (λ k d low.
          let next : n + suc k ≡ suc n + k = omega arith in
          subst (λ j. IsPart g run.plan.weighted cuts j (get_or (map (λ (s : ShardView). s.part) (map (λ (x : MadeRound). x.before) rs)) k d)) next
          (parts (suc k) d (omega (arith, low))))
          (All-tail Same r.before (map (λ (x : MadeRound). x.before) rs) runs)
          (λ k d low.
          let next : n + suc k ≡ suc n + k = omega arith in
          subst (λ j. All (GoesTo j) (get_or (map (λ (x : MadeRound). x.arrivals) rs) k d)) next (goes (suc k) d (omega (arith, low)))),
    )

-- rounds keep the parts and the runs
kept-parts : (rs : List MadeRound) → map (λ (s : ShardView). s.part) (map (λ r. r.after) rs) ≡ map (λ (s : ShardView). s.part) (map (λ r. r.before) rs)
kept-parts [] = refl
kept-parts (r ∷ rs) = λ n. r.part n ∷ kept-parts rs n

kept-runs : (run : Run) (rs : List MadeRound) → All (λ s. IsSameRun s.run run) (map (λ r. r.before) rs) → All (λ s. IsSameRun s.run run) (map (λ r. r.after) rs)
kept-runs run [] h = All-nil (λ s. IsSameRun s.run run)
kept-runs run (r ∷ rs) h =
    let Same : ShardView → Type 0 = λ s. IsSameRun s.run run in
    All-cons Same r.after (map (λ (x : MadeRound). x.after) rs)
    (subst (λ x. IsSameRun x run) (sym r.run) (All-head Same r.before (map (λ (x : MadeRound). x.before) rs) h))
    (kept-runs run rs (All-tail Same r.before (map (λ (x : MadeRound). x.before) rs) h))

pub shards-kept : (g : RowGraph) (run : Run) (cuts : List ℕ) (rs : List MadeRound) → AreShardsOf g run cuts (map (λ r. r.before) rs)
    → AreShardsOf g run cuts (map (λ r. r.after) rs)
shards-kept g run cuts rs h = record {
  parts = subst (ArePartsOf g run.plan.weighted cuts) (sym (kept-parts rs)) h.parts;
  runs = kept-runs run rs h.runs;
}

-- what rounds give out fits among the parts
given-fits : (g : RowGraph) (run : Run) (cuts : List ℕ) (n : ℕ) (rs : List MadeRound) → All (λ s. IsSameRun s.run run) (map (λ r. r.before) rs)
    → ((k : ℕ) (d : PartView) → k < length rs → IsPart g run.plan.weighted cuts (n + k) (get_or (map (λ (s : ShardView). s.part) (map (λ (r : MadeRound). r.before) rs)) k d))
    → All (FitsAmong run.vertices cuts) (all_given rs)
given-fits g run cuts n [] runs parts = All-nil (FitsAmong run.vertices cuts)
given-fits g run cuts n (r ∷ rs) runs parts =
    let Fits : Sent → Type 0 = FitsAmong run.vertices cuts in
    let Same : ShardView → Type 0 = λ s. IsSameRun s.run run in
    let same = All-head Same r.before (map (λ (x : MadeRound). x.before) rs) runs in
    let part = parts 0 r.before.part (omega arith) in
    let mine : All (λ (a : Addressed Item). Fits (item_of a.item)) r.out =
    λ k d low. subst (λ c. FitsAmong run.vertices c (item_of (get_or r.out k d).item)) part.cuts_are
    (subst (λ v. FitsAmong v r.before.part.cuts (item_of (get_or r.out k d).item)) same.vertices (r.fits k d low).fits) in
    All-append Fits (flight_of r.out) (all_given rs)
    (All-map Fits (λ (a : Addressed Item). item_of a.item) r.out mine)
    (given-fits g run cuts (suc n) rs (All-tail Same r.before (map (λ (x : MadeRound). x.before) rs) runs)
    (λ k d low.
    let next : n + suc k ≡ suc n + k = omega arith in
    subst (λ j. IsPart g run.plan.weighted cuts j (get_or (map (λ (s : ShardView). s.part) (map (λ (x : MadeRound). x.before) rs)) k d)) next
    (parts (suc k) d (omega (arith, low)))))

-- after its round no walker of a shard can go on by itself
settled-from : (g : RowGraph) (p : PartedRun) (n : ℕ) (rs : List MadeRound) → BelongFrom g p n rs → All (λ s. s.aside ≡ []) (map (λ r. r.after) rs)
    → All IsSettled (map (λ r. r.after) rs)
settled-from g p n [] b aside = All-nil IsSettled
settled-from g p n (r ∷ rs) b aside =
    let None : ShardView → Type 0 = λ s. s.aside ≡ [] in
    let afters = map (λ (x : MadeRound). x.after) rs in
    All-cons IsSettled r.after afters
    (record { unready = (r.round g b.0.of).unready; aside = All-head None r.after afters aside })
    (settled-from g p (suc n) rs b.1 (All-tail None r.after afters aside))

-- rounds of all shards lead to a later moment, at which all that arrived was taken in
pub rounds-lead : (g : RowGraph) (run : Run) (cuts : List ℕ) (rs : List MadeRound) (held : List Sent)
    (carried carried_then : ℕ) (log log_then : Option (List Letter))
    → ((k : ℕ) (d : List Item) → k < length rs → All (GoesTo k) (get_or (map (λ (r : MadeRound). r.arrivals) rs) k d))
    → Stands g run cuts (moment (map (λ r. r.before) rs) [] (all_arrived rs ++ held) carried log)
    → (All IsSettled (map (λ r. r.after) rs))
    × LeadsTo g run cuts (length (all_arrived rs)) [] (moment (map (λ r. r.before) rs) [] (all_arrived rs ++ held) carried log)
    (moment (map (λ r. r.after) rs) (all_given rs) held carried_then log_then)
rounds-lead g run cuts rs held carried carried_then log log_then goes stands =
    let p : PartedRun = parted g run cuts in
    let Fits : Sent → Type 0 = FitsAmong run.vertices cuts in
    let olds = map (λ (r : MadeRound). r.before) rs in
    let parts : (k : ℕ) (d : PartView) → k < length rs → IsPart g run.plan.weighted cuts (0 + k) (get_or (map (λ (s : ShardView). s.part) olds) k d) =
    λ k d low.
    let none : k ≡ 0 + k = omega arith in
    subst (λ j. IsPart g run.plan.weighted cuts j (get_or (map (λ (s : ShardView). s.part) olds) k d)) none
    (stands.shards.parts.each k d (omega (arith, low, length-map olds (λ (s : ShardView). s.part), length-map rs (λ (r : MadeRound). r.before)))) in
    let there : (k : ℕ) (d : List Item) → k < length rs → All (GoesTo (0 + k)) (get_or (map (λ (r : MadeRound). r.arrivals) rs) k d) =
    λ k d low.
    let none : k ≡ 0 + k = omega arith in
    subst (λ j. All (GoesTo j) (get_or (map (λ (r : MadeRound). r.arrivals) rs) k d)) none (goes k d low) in
    let b = belong-from g run cuts 0 rs parts stands.shards.runs there in
    let turned = turned-rounds g p rs b held stands.sound in
    let t = turned.1 in
    let all = items-below p.walkers (all_arrived rs) t.known in
    let fewer = sum_below-fewer p.walkers _ _ _ t.count in (
      settled-from g p 0 rs b turned.0,
      record {
        stands = record {
          shards = shards-kept g run cuts rs stands.shards;
          given = given-fits g run cuts 0 rs stands.shards.runs parts;
          held = All-back Fits (all_arrived rs) held stands.held;
          sound = t.sound;
        };
        each = λ i low. t.not_posted i;
        alone = All-nil _;
        fewer = omega arith;
      },
    )
