-- Worlds in which no walker has made a step.
use Rattle.std.proofs.Common.{◌≡◌, ◌<◌, ◌≤◌, ◌+◌, ◌∷◌, [], ◌++◌, ℕ, zero, suc, Bool, List, length, map, set, get_or, true, refl, ap, sym, subst, ◌∙◌, arith}
use Rattle.std.specs.Prelude.{All, sum_by}
use Rattle.std.proofs.lemmas.List.{append-nil, get_or-map, length-map, map-append, map-set, set-get_or}
use Rattle.std.proofs.lemmas.List.Elements.{All-head, All-push, All-set, All-tail}
use Rattle.std.proofs.lemmas.List.Sums.{sum_by-append, sum_by-cons, sum_by-set}
use Rattle.walk_model.specs.declared.results.Print.{Print}
use Rattle.walk_model.specs.Cuts.{owner}
use Rattle.csr_store.specs.RowGraph.{RowGraph}
use Rattle.vertex_partition.specs.PartViews.{PartView}
use Rattle.traveller.specs.declared.runs.Run.{Run}
use Rattle.traveller.specs.Ahead.{print_of}
use Rattle.traveller.specs.PartedRuns.{PartedRun}
use Rattle.traveller.specs.declared.modes.Mode.TheVariants.{Fresh}
use Rattle.traveller.specs.Standing.{IsPossible, IsWithin, Suits, parted}
use Rattle.traveller.specs.Walkers.{Walker, is_ready}
use Rattle.world_law.specs.Histories.{begin_pieces, starter, starters}
use Rattle.world_law.specs.Items.{Item}
use Rattle.world_law.specs.Worlds.{Piece, Resident, Aside, Printed, Comes, Same, all_pieces, shard_pieces, world_pieces}
use Rattle.world_law.proofs.HistoryLemmas.{begin-sound}
use Rattle.world_law.proofs.LeadLemmas.{sound-same}
use Rattle.shard_core.specs.declared.worlds.World.{World}
use Rattle.shard_core.specs.FirstShards.{AreShardsWith}
use Rattle.shard_core.specs.KeptShards.{IsReadyIn}
use Rattle.shard_core.specs.Shards.{ShardView, shard_of}
use Rattle.shard_core.specs.SoundWorlds.{AreInOrder, ArePartsOf, HasBegun, IsInFlight, IsSameRun, flight_of, world_data}

-- a run that is the same suits the same parts
pub suits-same : (run other : Run) (p : PartView) → IsSameRun other run → Suits run p → Suits other p
suits-same run other p same suits = record {
  vertices = same.vertices ∙ suits.vertices;
  weighted = suits.weighted ∙ ap (λ q. q.weighted) (sym same.plan);
  fits = λ v owns. rw same.plan (suits.fits v owns);
}

sum-mapped : {X Y : Type 0} (h : Y → ℕ) (f : X → Y) (xs : List X) → sum_by h (map f xs) ≡ sum_by (λ x. h (f x)) xs
sum-mapped h f [] = refl
sum-mapped h f (x ∷ xs) = omega (arith, sum_by-cons h (f x) (map f xs), sum_by-cons (λ x. h (f x)) x xs, sum-mapped h f xs)

-- what the pieces of a shard weigh together
abbrev pub weigh : (Piece → ℕ) → ShardView → ℕ
weigh h s = sum_by h (shard_pieces (shard_of s))

weigh-parts : (h : Piece → ℕ) (k : ℕ) (vs : List Walker) (is : List Item) (ps : List Print)
    → sum_by h (map (Resident k) vs ++ (map (Aside k) is ++ map (Printed k) ps))
    ≡ sum_by (λ v. h (Resident k v)) vs + (sum_by (λ i. h (Aside k i)) is + sum_by (λ p. h (Printed k p)) ps)
weigh-parts h k vs is ps =
    omega (
      arith,
      sum_by-append h (map (Resident k) vs) (map (Aside k) is ++ map (Printed k) ps),
      sum_by-append h (map (Aside k) is) (map (Printed k) ps),
      sum-mapped h (Resident k) vs,
      sum-mapped h (Aside k) is,
      sum-mapped h (Printed k) ps,
    )

-- what those of several shards weigh
pub weigh-all : (h : Piece → ℕ) (ss : List ShardView) → sum_by h (all_pieces (map shard_of ss)) ≡ sum_by (weigh h) ss
weigh-all h [] = refl
weigh-all h (s ∷ ss) =
    omega (arith, sum_by-append h (shard_pieces (shard_of s)) (all_pieces (map shard_of ss)), sum_by-cons (weigh h) s ss, weigh-all h ss)

-- a walker that is taken in, and its print, weigh more
pub weigh-admitted : (h : Piece → ℕ) (k : ℕ) (old new : ShardView) (v : Walker) → old.part.part ≡ k → new.part ≡ old.part
    → new.aside ≡ old.aside → ((f : Walker → ℕ) → sum_by f new.residents ≡ sum_by f old.residents + f v)
    → new.prints ≡ old.prints ++ print_of v ∷ []
    → weigh h new ≡ weigh h old + (h (Resident k v) + h (Printed k (print_of v)))
weigh-admitted h k old new v here part aside residents prints =
    let there : new.part.part ≡ k = ap (λ p. p.part) part ∙ here in
    let before : weigh h old
    ≡ sum_by (λ v. h (Resident k v)) old.residents + (sum_by (λ i. h (Aside k i)) old.aside + sum_by (λ p. h (Printed k p)) old.prints) =
    ap (λ j. sum_by h (map (Resident j) old.residents ++ (map (Aside j) old.aside ++ map (Printed j) old.prints))) here
    ∙ weigh-parts h k old.residents old.aside old.prints in
    let after : weigh h new
    ≡ sum_by (λ v. h (Resident k v)) new.residents + (sum_by (λ i. h (Aside k i)) old.aside + sum_by (λ p. h (Printed k p)) (old.prints ++ print_of v ∷ [])) =
    ap (λ j. sum_by h (map (Resident j) new.residents ++ (map (Aside j) new.aside ++ map (Printed j) new.prints))) there
    ∙ weigh-parts h k new.residents new.aside new.prints
    ∙ ap (λ is. sum_by (λ v. h (Resident k v)) new.residents + (sum_by (λ i. h (Aside k i)) is + sum_by (λ p. h (Printed k p)) new.prints)) aside
    ∙ ap (λ ps. sum_by (λ v. h (Resident k v)) new.residents + (sum_by (λ i. h (Aside k i)) old.aside + sum_by (λ p. h (Printed k p)) ps)) prints in
    let more = sum_by-append (λ p. h (Printed k p)) old.prints (print_of v ∷ []) in
    let one = sum_by-cons (λ p. h (Printed k p)) (print_of v) [] in
    let walkers = residents (λ v. h (Resident k v)) in
    omega (arith, before, after, more, one, walkers)

starters-more : (g : PartedRun) (n : ℕ) (h : Piece → ℕ)
    → sum_by h (starters g (suc n))
    ≡ h (Resident (g.owner (g.start n)) (starter g n)) + (h (Printed (g.owner (g.start n)) (print_of (starter g n))) + sum_by h (starters g n))
unfolding starters
starters-more g n h =
    omega (
      arith,
      sum_by-cons h (Resident (g.owner (g.start n)) (starter g n)) (Printed (g.owner (g.start n)) (print_of (starter g n)) ∷ starters g n),
      sum_by-cons h (Printed (g.owner (g.start n)) (print_of (starter g n))) (starters g n),
    )

-- one walker more at its start
pub started-more : (g : PartedRun) (n k : ℕ) (ss : List ShardView) (old new : ShardView) → k < length ss → old ≡ get_or ss k old
    → old.part.part ≡ k → g.owner (g.start n) ≡ k → new.part ≡ old.part → new.aside ≡ old.aside
    → ((f : Walker → ℕ) → sum_by f new.residents ≡ sum_by f old.residents + f (starter g n))
    → new.prints ≡ old.prints ++ print_of (starter g n) ∷ []
    → Same (all_pieces (map shard_of ss)) (starters g n) → Same (all_pieces (map shard_of (set ss k new))) (starters g (n + 1))
started-more g n k ss old new low at here owner part aside residents prints same h =
    let next : n + 1 ≡ suc n = omega arith in
    let heavier = weigh-admitted h k old new (starter g n) here part aside residents prints in
    let swapped = sum_by-set (weigh h) ss k new old low in
    let old_is : weigh h (get_or ss k old) ≡ weigh h old = ap (weigh h) (sym at) in
    let before = weigh-all h ss in
    let after = weigh-all h (set ss k new) in
    let so_far = same h in
    let more : sum_by h (starters g (suc n)) ≡ h (Resident k (starter g n)) + (h (Printed k (print_of (starter g n))) + sum_by h (starters g n)) =
    starters-more g n h ∙ ap (λ j. h (Resident j (starter g n)) + (h (Printed j (print_of (starter g n))) + sum_by h (starters g n))) owner in
    rw next (omega (arith, heavier, swapped, old_is, before, after, so_far, more))

-- no walker yet
pub started-none : (g : PartedRun) (ss : List ShardView) → All (λ s. (s.residents ≡ []) × (s.aside ≡ []) × (s.prints ≡ [])) ss
    → Same (all_pieces (map shard_of ss)) (starters g 0)
unfolding starters
started-none g ss empty h = weigh-all h ss ∙ by ss empty
  where
    none : (s : ShardView) → (s.residents ≡ []) × (s.aside ≡ []) × (s.prints ≡ []) → weigh h s ≡ 0
    none s e =
        weigh-parts h s.part.part s.residents s.aside s.prints
        ∙ (let vs : sum_by (λ v. h (Resident s.part.part v)) s.residents ≡ 0 = ap (sum_by (λ v. h (Resident s.part.part v))) e.0 in
        let is : sum_by (λ i. h (Aside s.part.part i)) s.aside ≡ 0 = ap (sum_by (λ i. h (Aside s.part.part i))) e.1 in
        let ps : sum_by (λ p. h (Printed s.part.part p)) s.prints ≡ 0 = ap (sum_by (λ p. h (Printed s.part.part p))) e.2 in
        omega (arith, vs, is, ps))

    by : (ss : List ShardView) → All (λ s. (s.residents ≡ []) × (s.aside ≡ []) × (s.prints ≡ [])) ss → sum_by (weigh h) ss ≡ 0
    by [] all = refl
    by (s ∷ ss) all =
        let one = none s (All-head (λ s. (s.residents ≡ []) × (s.aside ≡ []) × (s.prints ≡ [])) s ss all) in
        let rest = by ss (All-tail (λ s. (s.residents ≡ []) × (s.aside ≡ []) × (s.prints ≡ [])) s ss all) in
        omega (arith, one, rest, sum_by-cons (weigh h) s ss)

-- a shard in the place of one with the same part
pub parts-set : (ss : List ShardView) (k : ℕ) (old new : ShardView) → old ≡ get_or ss k old → new.part ≡ old.part
    → map (λ s. s.part) (set ss k new) ≡ map (λ s. s.part) ss
parts-set ss k old new at part =
    map-set (λ (s : ShardView). s.part) ss k new
    ∙ ap (λ p. set (map (λ (s : ShardView). s.part) ss) k p) (part ∙ ap (λ s. s.part) at)
    ∙ sym (map-set (λ (s : ShardView). s.part) ss k (get_or ss k old))
    ∙ ap (map (λ (s : ShardView). s.part)) (set-get_or ss k old)

-- the shard of a part has it
pub part-at : (ss : List ShardView) (ps : List PartView) (k : ℕ) (s : ShardView) → map (λ s. s.part) ss ≡ ps → k < length ss
    → s ≡ get_or ss k s → s.part ≡ get_or ps k s.part
part-at ss ps k s parts low at =
    ap (λ s. s.part) at ∙ sym (get_or-map (λ (s : ShardView). s.part) ss k s s.part low) ∙ ap (λ l. get_or l k s.part) parts

-- once each walker stands at its start, the world has begun
pub world-begun : (g : RowGraph) (run : Run) (cuts : List ℕ) (ps : List PartView) (w : World) → ArePartsOf g run.plan.weighted cuts ps
    → AreShardsWith run ps w.shards.items → w.flight.items ≡ []
    → Same (all_pieces (map shard_of w.shards.items)) (begin_pieces (parted g run cuts)) → HasBegun g run cuts w
world-begun g run cuts ps w parts shards none same =
    let r : PartedRun = parted g run cuts in
    let pieces : world_pieces (world_data w) ≡ all_pieces (map shard_of w.shards.items) =
    ap (λ items. all_pieces (map shard_of w.shards.items) ++ map Comes (flight_of items)) none
    ∙ append-nil (all_pieces (map shard_of w.shards.items)) in
    let starts : Same (world_pieces (world_data w)) (begin_pieces r) = λ h. ap (sum_by h) pieces ∙ same h in
    record {
      sound = record {
        shards = record { parts = subst (ArePartsOf g run.plan.weighted cuts) (sym shards.parts) parts; runs = shards.runs };
        flight = subst (All (IsInFlight run.vertices cuts)) (sym none) (λ k d low. absurd (omega (arith, low)));
        sound = sound-same r (begin_pieces r) (world_pieces (world_data w)) (λ h. sym (starts h)) (begin-sound r);
      };
      whole = shards.whole;
      starts = starts;
      aside = shards.aside;
      flight = none;
    }

-- a walker at the beginning of a step, at a vertex of a part, can go on there
pub ready-in : (run : Run) (p : PartView) (v : Walker) → Suits run p → IsWithin run.vertices v → owner p.cuts v.state.at ≡ p.part
    → v.mode ≡ Fresh → IsReadyIn run p v
ready-in run p v suits within owned fresh = record {
  stands = record {
    suits = suits;
    within = subst (λ n. IsWithin n v) suits.vertices within;
    owned = owned;
    possible = subst (IsPossible run p v) (sym fresh) tt;
  };
  ready = ap is_ready fresh;
}

-- one shard more
pub shards-more : (run : Run) (ps : List PartView) (ss : List ShardView) (p : PartView) (s : ShardView) → AreShardsWith run ps ss → s.part ≡ p
    → IsSameRun s.run run → s.whole ≡ true → s.aside ≡ [] → AreShardsWith run (ps ++ p ∷ []) (ss ++ s ∷ [])
shards-more run ps ss p s so_far part same whole aside = record {
  parts = map-append (λ (s : ShardView). s.part) ss (s ∷ []) ∙ ap (λ (l : List PartView). l ++ s.part ∷ []) so_far.parts
      ∙ ap (λ q. ps ++ q ∷ []) part;
  runs = All-push (λ (s : ShardView). IsSameRun s.run run) ss s so_far.runs same;
  whole = All-push (λ (s : ShardView). s.whole ≡ true) ss s so_far.whole whole;
  aside = All-push (λ (s : ShardView). s.aside ≡ []) ss s so_far.aside aside;
}

-- what is true of each shard is true of the one at a place
pub true-at : (P : ShardView → Type 0) (ss : List ShardView) (k : ℕ) (s : ShardView) → k < length ss → s ≡ get_or ss k s → All P ss → P s
true-at P ss k s low at all = subst P (sym at) (all k s low)

-- a shard in the place of one that is alike
pub shards-set : (run : Run) (ps : List PartView) (ss : List ShardView) (k : ℕ) (old new : ShardView) → k < length ss → old ≡ get_or ss k old
    → new.run ≡ old.run → new.part ≡ old.part → new.whole ≡ old.whole → new.aside ≡ old.aside
    → AreShardsWith run ps ss → AreShardsWith run ps (set ss k new)
shards-set run ps ss k old new low at same part whole aside all = record {
  parts = parts-set ss k old new at part ∙ all.parts;
  runs = All-set (λ (s : ShardView). IsSameRun s.run run) ss k new
      (subst (λ r. IsSameRun r run) (sym same) (true-at (λ s. IsSameRun s.run run) ss k old low at all.runs)) all.runs;
  whole = All-set (λ (s : ShardView). s.whole ≡ true) ss k new (whole ∙ true-at (λ s. s.whole ≡ true) ss k old low at all.whole) all.whole;
  aside = All-set (λ (s : ShardView). s.aside ≡ []) ss k new (aside ∙ true-at (λ s. s.aside ≡ []) ss k old low at all.aside) all.aside;
}

pub many-shards : (ss : List ShardView) (ps : List PartView) → map (λ s. s.part) ss ≡ ps → length ps ≡ length ss
many-shards ss ps parts = ap (λ (l : List PartView). length l) (sym parts) ∙ length-map ss (λ (s : ShardView). s.part)

-- the shard at a place has the part of that number, between the cuts of all
pub shard-at : (ps : List PartView) (order : AreInOrder ps) (ss : List ShardView) (k : ℕ) (s : ShardView) → map (λ s. s.part) ss ≡ ps → k < length ss
    → s ≡ get_or ss k s → (s.part.part ≡ k) × (s.part.cuts ≡ order.cuts)
shard-at ps order ss k s parts low at =
    let same = part-at ss ps k s parts low at in
    let many = many-shards ss ps parts in
    let each = order.each k s.part (omega (arith, low, many)) in
    (ap (λ p. p.part) same ∙ each.0, ap (λ p. p.cuts) same ∙ each.1)

-- all parts of a graph lie between the cuts that their order tells
pub cuts-told : (g : RowGraph) (weighted : Bool) (cuts : List ℕ) (ps : List PartView) (order : AreInOrder ps) → ArePartsOf g weighted cuts ps
    → order.cuts ≡ cuts
cuts-told g weighted cuts [] order of = (let count = of.count in absurd (omega (arith, count)))
cuts-told g weighted cuts (p ∷ ps) order of = sym (order.each 0 p (omega arith)).1 ∙ (of.each 0 p (omega arith)).cuts_are

-- by the cuts of the first shard each vertex has an owner among the shards
pub owner-low : (ps : List PartView) (order : AreInOrder ps) (ss : List ShardView) (k : ℕ) (s : ShardView) → map (λ s. s.part) ss ≡ ps
    → s ≡ get_or ss 0 s → k ≤ length s.part.cuts → k < length ss
owner-low ps order ss k s parts at most =
    let count = order.count in
    let many = many-shards ss ps parts in
    let cuts : length s.part.cuts ≡ length order.cuts = ap length (shard-at ps order ss 0 s parts (omega (arith, count, many)) at).1 in
    omega (arith, most, cuts, count, many)

pub owner-told : (ps : List PartView) (order : AreInOrder ps) (ss : List ShardView) (k v : ℕ) (s : ShardView) → map (λ s. s.part) ss ≡ ps
    → s ≡ get_or ss 0 s → k ≡ owner s.part.cuts v → k ≡ owner order.cuts v
owner-told ps order ss k v s parts at is =
    let count = order.count in
    let many = many-shards ss ps parts in
    is ∙ ap (λ cuts. owner cuts v) (shard-at ps order ss 0 s parts (omega (arith, count, many)) at).1
