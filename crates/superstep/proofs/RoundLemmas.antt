-- Rounds of all shards lead from one moment to the next.
use Rattle.std.proofs.Common.{◌≡◌, ℕ, suc, ◌+◌, ◌-◌, ◌<◌, ◌≤◌, List, [], ◌∷◌, ◌++◌, map, length, drop, refl, ap, sym, ◌∙◌, arith, subst}
use Rattle.std.specs.Prelude.{sum_by, All}
use Rattle.std.proofs.lemmas.List.{drop-drop, map-append}
use Rattle.std.proofs.lemmas.List.Elements.{All-cons, All-head, All-tail, All-nil}
use Rattle.std.proofs.lemmas.List.Sums.{sum_by-cons, sum_by-append}
use Rattle.walk_model.specs.declared.messages.Letter.{Letter}
use Rattle.csr_store.specs.RowGraph.{RowGraph}
use Rattle.vertex_partition.specs.PartViews.{IsPartOf}
use Rattle.traveller.specs.PartedRuns.{PartedRun, letters_in}
use Rattle.traveller.specs.Standing.{parted}
use Rattle.traveller.specs.Walkers.{Walker}
use Rattle.walk_model.specs.declared.results.Print.{Print}
use Rattle.walker_mail.specs.declared.parcels.Addressed.{Addressed}
use Rattle.world_law.specs.Items.{Item as Sent, letter_of}
use Rattle.world_law.specs.LettersAhead.{item_of, piece_ahead, count_ahead, last_of, ahead, of_come}
use Rattle.world_law.specs.Rounds.{IsRound, Rounded, rounds_before, rounds_after, GoTo, ResideElsewhere}
use Rattle.world_law.specs.Soundness.{IsSound}
use Rattle.world_law.specs.Worlds.{Piece, Resident, Aside, Printed, Comes, Goes, ShardData, shard_pieces, all_pieces, Same}
use Rattle.world_law.proofs.LeadLemmas.{sound-same, each-front}
use Rattle.world_law.proofs.RoundLaws.{rounds-sound, rounds-given}
use Rattle.world_law.proofs.AsideLaws.{aside-empty}
use Rattle.shard_core.specs.declared.items.Item.{Item}
use Rattle.shard_core.specs.Items.{item_of as item_seen}
use Rattle.shard_core.specs.Shards.{ShardView, shard_of}
use Rattle.shard_core.specs.SoundWorlds.{flight_of}
use Rattle.superstep.specs.Rounding.{MadeRound, arrived}
use Rattle.superstep.specs.Boxes.{joined}
use Rattle.superstep.specs.Moments.{not_posted}
use Rattle.superstep.proofs.SumLemmas.{sum_by-map, sum_by-nothing}
use Rattle.superstep.proofs.ItemLemmas.{ahead-within}
use Rattle.superstep.proofs.MomentLemmas.{items-known}

-- a round that is one of a graph, a run and cuts, at the shard of a number, and to which all goes that arrives there
pub record Belongs (g : RowGraph) (p : PartedRun) (number : ℕ) (r : MadeRound) : Type 0 where
  pub part : r.before.part.part ≡ number
  pub of : IsPartOf g r.before.part
  pub runs : parted g r.before.run r.before.part.cuts ≡ p
  pub goes : GoTo number (arrived r.arrivals)

-- rounds at the shards from a number on
abbrev pub BelongFrom : RowGraph → PartedRun → ℕ → List MadeRound → Type 0
BelongFrom g p n [] = Unit {0}
BelongFrom g p n (r ∷ rs) = Belongs g p n r × BelongFrom g p (suc n) rs

-- one of them as the laws of worlds see it
abbrev rounded_of : (g : RowGraph) (p : PartedRun) (n : ℕ) (r : MadeRound) → Belongs g p n r → Rounded p
rounded_of g p n r b = record {
  before = shard_of r.before;
  arrivals = arrived r.arrivals;
  after = shard_of r.after;
  out = flight_of r.out;
  round = subst (λ q. IsRound q (shard_of r.before) (arrived r.arrivals) (shard_of r.after) (flight_of r.out)) b.runs (r.round g b.of);
}

abbrev pub rounded : (g : RowGraph) (p : PartedRun) (n : ℕ) (rs : List MadeRound) → BelongFrom g p n rs → List (Rounded p)
rounded g p n [] b = []
rounded g p n (r ∷ rs) b = rounded_of g p n r b.0 ∷ rounded g p (suc n) rs b.1

-- all that arrives, and all that is given out
abbrev pub all_arrived : List MadeRound → List Sent
all_arrived [] = []
all_arrived (r ∷ rs) = arrived r.arrivals ++ all_arrived rs

abbrev pub all_given : List MadeRound → List Sent
all_given [] = []
all_given (r ∷ rs) = flight_of r.out ++ all_given rs

-- the pieces of the rounds are those of the shards and of what arrives, and then of what is given out
pub weigh-before : (g : RowGraph) (p : PartedRun) (n : ℕ) (rs : List MadeRound) (b : BelongFrom g p n rs) (h : Piece → ℕ)
    → sum_by h (rounds_before (rounded g p n rs b))
    ≡ sum_by h (all_pieces (map shard_of (map (λ r. r.before) rs))) + sum_by (λ i. h (Comes i)) (all_arrived rs)
weigh-before g p n [] b h = refl
weigh-before g p n (r ∷ rs) b h =
    let mine = shard_pieces (shard_of r.before) in
    let come = arrived r.arrivals in
    omega (
      arith,
      weigh-before g p (suc n) rs b.1 h,
      sum_by-append h (mine ++ map Comes come) (rounds_before (rounded g p (suc n) rs b.1)),
      sum_by-append h mine (map Comes come),
      sum_by-map h Comes come,
      sum_by-append h mine (all_pieces (map shard_of (map (λ (x : MadeRound). x.before) rs))),
      sum_by-append (λ i. h (Comes i)) come (all_arrived rs),
    )

pub weigh-after : (g : RowGraph) (p : PartedRun) (n : ℕ) (rs : List MadeRound) (b : BelongFrom g p n rs) (h : Piece → ℕ)
    → sum_by h (rounds_after (rounded g p n rs b))
    ≡ sum_by h (all_pieces (map shard_of (map (λ r. r.after) rs))) + sum_by (λ i. h (Goes i)) (all_given rs)
weigh-after g p n [] b h = refl
weigh-after g p n (r ∷ rs) b h =
    let mine = shard_pieces (shard_of r.after) in
    let out = flight_of r.out in
    omega (
      arith,
      weigh-after g p (suc n) rs b.1 h,
      sum_by-append h (mine ++ map Goes out) (rounds_after (rounded g p (suc n) rs b.1)),
      sum_by-append h mine (map Goes out),
      sum_by-map h Goes out,
      sum_by-append h mine (all_pieces (map shard_of (map (λ (x : MadeRound). x.after) rs))),
      sum_by-append (λ i. h (Goes i)) out (all_given rs),
    )

-- pieces reside elsewhere
elsewhere-append : (k : ℕ) (xs ys : List Piece) → ResideElsewhere k xs → ResideElsewhere k ys → ResideElsewhere k (xs ++ ys)
elsewhere-append k [] ys a b = b
elsewhere-append k (x ∷ xs) ys a b = (a.0, elsewhere-append k xs ys a.1 b)

elsewhere-residents : (k part : ℕ) (vs : List Walker) → (part ≡ k → ⊥) → ResideElsewhere k (map (Resident part) vs)
elsewhere-residents k part [] e = tt
elsewhere-residents k part (v ∷ vs) e = (e, elsewhere-residents k part vs e)

elsewhere-aside : (k part : ℕ) (is : List Sent) → ResideElsewhere k (map (Aside part) is)
elsewhere-aside k part [] = tt
elsewhere-aside k part (i ∷ is) = (tt, elsewhere-aside k part is)

elsewhere-printed : (k part : ℕ) (ps : List Print) → ResideElsewhere k (map (Printed part) ps)
elsewhere-printed k part [] = tt
elsewhere-printed k part (p ∷ ps) = (tt, elsewhere-printed k part ps)

pub elsewhere-comes : (k : ℕ) (is : List Sent) → ResideElsewhere k (map Comes is)
elsewhere-comes k [] = tt
elsewhere-comes k (i ∷ is) = (tt, elsewhere-comes k is)

elsewhere-shard : (k : ℕ) (s : ShardData) (is : List Sent) → (s.part ≡ k → ⊥) → ResideElsewhere k (shard_pieces s ++ map Comes is)
elsewhere-shard k s is e =
    elsewhere-append k (shard_pieces s) (map Comes is)
    (elsewhere-append k (map (Resident s.part) s.residents) _ (elsewhere-residents k s.part s.residents e)
    (elsewhere-append k (map (Aside s.part) s.aside) _ (elsewhere-aside k s.part s.aside) (elsewhere-printed k s.part s.prints)))
    (elsewhere-comes k is)

elsewhere-rounds : (g : RowGraph) (p : PartedRun) (k n : ℕ) (rs : List MadeRound) (b : BelongFrom g p n rs) → k < n
    → ResideElsewhere k (rounds_before (rounded g p n rs b))
elsewhere-rounds g p k n [] b low = tt
elsewhere-rounds g p k n (r ∷ rs) b low =
    elsewhere-append k (shard_pieces (shard_of r.before) ++ map Comes (arrived r.arrivals)) _
    (elsewhere-shard k (shard_of r.before) (arrived r.arrivals) (λ e. (let part = b.0.part in omega arith)))
    (elsewhere-rounds g p k (suc n) rs b.1 (omega arith))

-- nothing is set aside after rounds in a sound world
aside-nil : (g : RowGraph) (p : PartedRun) (n : ℕ) (rs : List MadeRound) (b : BelongFrom g p n rs) (front : List Piece)
    → IsSound p (rounds_before (rounded g p n rs b) ++ front) → ((k : ℕ) → n ≤ k → ResideElsewhere k front)
    → All (λ s. s.aside ≡ []) (map (λ r. r.after) rs)
aside-nil g p n [] b front h away = All-nil _
aside-nil g p n (r ∷ rs) b front h away =
    let here = shard_pieces (shard_of r.before) ++ map Comes (arrived r.arrivals) in
    let later = rounds_before (rounded g p (suc n) rs b.1) in
    let mine : Same ((here ++ later) ++ front) (here ++ (later ++ front)) = λ w.
    omega (arith, sum_by-append w (here ++ later) front, sum_by-append w here later, sum_by-append w here (later ++ front), sum_by-append w later front) in
    let rest : Same ((here ++ later) ++ front) (later ++ (here ++ front)) = λ w.
    omega (arith, sum_by-append w (here ++ later) front, sum_by-append w here later, sum_by-append w later (here ++ front), sum_by-append w here front) in
    let part = b.0.part in
    let others : ResideElsewhere r.before.part.part (later ++ front) =
    subst (λ k. ResideElsewhere k (later ++ front)) (sym part)
    (elsewhere-append n later front (elsewhere-rounds g p n (suc n) rs b.1 (omega arith)) (away n (omega arith))) in
    let none = aside-empty p (shard_of r.before) (shard_of r.after) (arrived r.arrivals) (flight_of r.out) (later ++ front)
    (sound-same p _ _ mine h) (subst (λ k. GoTo k (arrived r.arrivals)) (sym part) b.0.goes) others (rounded_of g p n r b.0).round in
    All-cons (λ (s : ShardView). s.aside ≡ []) r.after (map (λ (x : MadeRound). x.after) rs) none
    (aside-nil g p (suc n) rs b.1 (here ++ front) (sound-same p _ _ rest h)
    (λ k past. elsewhere-append k here front
    (elsewhere-shard k (shard_of r.before) (arrived r.arrivals) (λ e. omega arith)) (away k (omega arith))))

-- all that arrives is what is in the lists, and all that is given out is in theirs
pub arrived-joined : (rs : List MadeRound) → all_arrived rs ≡ arrived (joined (map (λ r. r.arrivals) rs))
arrived-joined [] = refl
arrived-joined (r ∷ rs) =
    ap (λ l. arrived r.arrivals ++ l) (arrived-joined rs)
    ∙ sym (map-append item_seen r.arrivals (joined (map (λ (x : MadeRound). x.arrivals) rs)))

pub given-joined : (rs : List MadeRound) → all_given rs ≡ flight_of (joined (map (λ r. r.out) rs))
given-joined [] = refl
given-joined (r ∷ rs) =
    ap (λ l. flight_of r.out ++ l) (given-joined rs)
    ∙ sym (map-append (λ (a : Addressed Item). item_seen a.item) r.out (joined (map (λ (x : MadeRound). x.out) rs)))

-- where nothing is set aside no item has come
come-residents : (i k : ℕ) (vs : List Walker) → sum_by (of_come i) (map (Resident k) vs) ≡ 0
come-residents i k [] = refl
come-residents i k (v ∷ vs) = omega (arith, come-residents i k vs, sum_by-cons (of_come i) (Resident k v) (map (Resident k) vs))

come-printed : (i k : ℕ) (ps : List Print) → sum_by (of_come i) (map (Printed k) ps) ≡ 0
come-printed i k [] = refl
come-printed i k (p ∷ ps) = omega (arith, come-printed i k ps, sum_by-cons (of_come i) (Printed k p) (map (Printed k) ps))

pub come-none : (i : ℕ) (ss : List ShardView) → All (λ s. s.aside ≡ []) ss → sum_by (of_come i) (all_pieces (map shard_of ss)) ≡ 0
come-none i [] h = refl
come-none i (s ∷ ss) h =
    let k = s.part.part in
    let first = All-head (λ (x : ShardView). x.aside ≡ []) s ss h in
    let aside : sum_by (of_come i) (map (Aside k) s.aside) ≡ 0 = ap (λ l. sum_by (of_come i) (map (Aside k) l)) first in
    omega (
      arith,
      come-none i ss (All-tail (λ (x : ShardView). x.aside ≡ []) s ss h),
      sum_by-append (of_come i) (shard_pieces (shard_of s)) (all_pieces (map shard_of ss)),
      sum_by-append (of_come i) (map (Resident k) s.residents) (map (Aside k) s.aside ++ map (Printed k) s.prints),
      sum_by-append (of_come i) (map (Aside k) s.aside) (map (Printed k) s.prints),
      come-residents i k s.residents,
      come-printed i k s.prints,
    )

-- as much less from the front of fewer last ones
drop-last : (ls : List Letter) (n m taken come : ℕ) → n ≡ m + taken → n ≤ length ls
    → drop come (last_of m ls) ≡ drop (taken + come) (last_of n ls)
drop-last ls n m taken come e h =
    drop-drop come (length ls - m) ls
    ∙ ap (λ k. drop k ls) (let same : length ls - m + come ≡ length ls - n + (taken + come) = omega arith in same)
    ∙ sym (drop-drop (taken + come) (length ls - n) ls)

-- what rounds of all shards do to a sound world, whose other items are in flight
pub record Turned (p : PartedRun) (before after : List Piece) (arrivals : List Sent) : Type 0 where
  pub sound : IsSound p after
  pub not_posted : (i : ℕ) → not_posted p after i ≡ not_posted p before i
  pub count : (i : ℕ) → count_ahead p i after + sum_by (item_of i) arrivals ≤ count_ahead p i before
  pub known : All (λ m. (letter_of m).walker < p.walkers) arrivals

pub turned-rounds : (g : RowGraph) (p : PartedRun) (rs : List MadeRound) (b : BelongFrom g p 0 rs) (held : List Sent)
    → IsSound p (all_pieces (map shard_of (map (λ r. r.before) rs)) ++ (map Goes [] ++ map Comes (all_arrived rs ++ held)))
    → (All (λ s. s.aside ≡ []) (map (λ r. r.after) rs))
    × Turned p (all_pieces (map shard_of (map (λ r. r.before) rs)) ++ (map Goes [] ++ map Comes (all_arrived rs ++ held)))
    (all_pieces (map shard_of (map (λ r. r.after) rs)) ++ (map Goes (all_given rs) ++ map Comes held)) (all_arrived rs)
turned-rounds g p rs b held h =
    let olds = map (λ (r : MadeRound). r.before) rs in
    let news = map (λ (r : MadeRound). r.after) rs in
    let arr = all_arrived rs in
    let out = all_given rs in
    let before = all_pieces (map shard_of olds) ++ (map Goes [] ++ map Comes (arr ++ held)) in
    let after = all_pieces (map shard_of news) ++ (map Goes out ++ map Comes held) in
    let these = rounded g p 0 rs b in
    let first : Same before (rounds_before these ++ map Comes held) = λ w.
    omega (
      arith,
      sum_by-append w (all_pieces (map shard_of olds)) (map Goes [] ++ map Comes (arr ++ held)),
      sum_by-map w Comes (arr ++ held),
      sum_by-append (λ i. w (Comes i)) arr held,
      weigh-before g p 0 rs b w,
      sum_by-append w (rounds_before these) (map Comes held),
      sum_by-map w Comes held,
    ) in
    let last : Same (rounds_after these ++ map Comes held) after = λ w.
    omega (
      arith,
      sum_by-append w (all_pieces (map shard_of news)) (map Goes out ++ map Comes held),
      sum_by-append w (map Goes out) (map Comes held),
      sum_by-map w Goes out,
      weigh-after g p 0 rs b w,
      sum_by-append w (rounds_after these) (map Comes held),
    ) in
    let sound = sound-same p before (rounds_before these ++ map Comes held) first h in
    let aside = aside-nil g p 0 rs b (map Comes held) sound (λ k past. elsewhere-comes k held) in
    let pieces = each-front p (rounds_before these) (map Comes held) sound.pieces in
    let counts : (i : ℕ) → (count_ahead p i after + sum_by (of_come i) (rounds_before these) ≡ count_ahead p i before)
    × (sum_by (of_come i) after ≡ sum_by (item_of i) held)
    × (sum_by (of_come i) before ≡ sum_by (of_come i) (rounds_before these) + sum_by (item_of i) held)
    × (sum_by (item_of i) arr ≤ sum_by (of_come i) (rounds_before these)) = λ i.
    let a = piece_ahead p i in
    let c = of_come i in
    let a1 = first a in
    let a2 = last a in
    let a3 = sum_by-append a (rounds_before these) (map Comes held) in
    let a4 = sum_by-append a (rounds_after these) (map Comes held) in
    let c1 = first c in
    let c2 = last c in
    let c3 = sum_by-append c (rounds_before these) (map Comes held) in
    let c4 = sum_by-append c (rounds_after these) (map Comes held) in
    let c5 = sum_by-map c Comes held in
    let c6 = weigh-after g p 0 rs b c in
    let c7 = come-none i news aside in
    let c8 = sum_by-nothing out in
    let c9 = weigh-before g p 0 rs b c in
    let law = rounds-given p i these pieces in
    (omega arith, omega arith, omega arith, omega arith) in (
      aside,
      record {
        sound = sound-same p (rounds_after these ++ map Comes held) after last (rounds-sound p these (map Comes held) sound);
        not_posted = λ i.
            let n = counts i in
            let fewer = drop-last (letters_in p i) (count_ahead p i before) (count_ahead p i after) (sum_by (of_come i) (rounds_before these)) (sum_by (item_of i) held)
            (sym n.0) (ahead-within p i before h) in
            ap (λ k. drop k (ahead p after i)) n.1 ∙ fewer ∙ ap (λ k. drop k (ahead p before i)) (sym n.2);
        count = λ i. (let n = counts i in let n0 = n.0 in let n3 = n.3 in omega arith);
        known = items-known p arr before h (λ i. (let n = counts i in let n2 = n.2 in let n3 = n.3 in omega arith));
      },
    )
