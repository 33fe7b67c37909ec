-- A turn of each of several walkers, and what becomes of them by it.
use Rattle.std.proofs.Common.{◌≡◌, ◌<◌, ◌≤◌, ◌+◌, ◌-◌, ◌⊎◌, ℕ, zero, suc, Bool, true, false, List, [], ◌∷◌, ◌++◌, length, map, get_or, Option, Some, None, refl, ap, sym, subst, ◌∙◌, inl, inr, arith}
use Rattle.std.specs.Prelude.{All, sum_by, if◌then◌else◌}
use Rattle.std.specs.List.{flat_map}
use Rattle.std.proofs.lemmas.List.Elements.{All-head, All-tail}
use Rattle.std.proofs.lemmas.List.Sums.{sum_by-cons, sum_by-append}
use Rattle.walk_model.specs.declared.messages.Question.{Question}
use Rattle.walk_model.specs.declared.results.Print.{Print}
use Rattle.walk_model.specs.declared.states.State.{State}
use Rattle.walk_model.specs.Cuts.{owner}
use Rattle.walk_model.specs.Letters.{Journey}
use Rattle.csr_store.specs.RowGraph.{RowGraph}
use Rattle.vertex_partition.specs.PartViews.{PartView, IsPartOf}
use Rattle.traveller.specs.declared.modes.Mode.{Mode}
use Rattle.traveller.specs.declared.modes.Mode.TheVariants.{Fresh, Darts, Asked, AskedRow, Chosen, Over}
use Rattle.traveller.specs.declared.runs.Run.{Run}
use Rattle.traveller.specs.Ahead.{left_print, print_of}
use Rattle.traveller.specs.PartedRuns.{PartedRun, journey_from}
use Rattle.traveller.specs.Standing.{StandsIn, journey_on, own_graph, parted}
use Rattle.traveller.specs.Turns.{turned, stepped, advance}
use Rattle.traveller.specs.Walkers.{Walker, is_fresh, is_ready, asked_vertex, ask_with}
use Rattle.world_law.specs.Items.{Travels, Asks}
use Rattle.world_law.specs.TurnsOf.{HasStepLeft}
use Rattle.world_law.specs.Worlds.{Piece, Resident, Printed, Goes, Same}
use Rattle.world_law.specs.Events.{Turns as TurnsNow, Becomes, turn_gives, turn_pieces}
use Rattle.world_law.proofs.BecomeLemmas.{becomes-event, becomes-within, becomes-same}
use Rattle.world_law.proofs.LeftLemmas.{advance-left}
use Rattle.world_law.proofs.TurnLemmas.{IsRest, Outcome, makes, rests, turned-outcome}
use Rattle.shard_core.specs.Abreast.{IsReadyIn, Turns, EachBecomes, turn_prints}
use Rattle.shard_core.specs.Leaving.{HasTurned, turn_weight, turned_weight, asks_weight, turns_ahead, most_turns}
use Rattle.shard_core.specs.Turning.{turned_by, turned_pieces, ask_pieces}
use Rattle.shard_core.proofs.AbreastLemmas.{own-part}
use Rattle.shard_core.proofs.PileLemmas.{sum_by-map, sum_by-flat_map, sum_by-agree, becomes-both, becomes-as}

-- what a turn comes to, on the part alone
here-outcome : (run : Run) (p : PartView) (a c : Walker) → IsReadyIn run p a → Turns run p a c → Outcome a c
here-outcome run p a c can turns =
    let j : Journey = journey_on (own_graph p) run p.cuts a in
    subst (Outcome a) (sym (turns.data_is (own_graph p) (own-part p))) (turned-outcome j a a.mode can.ready)

rest-ready : (m : Mode) → IsRest m → is_ready m ≡ false
rest-ready Fresh r = absurd r
rest-ready (Darts left place) r = absurd r
rest-ready (Asked left place q) r = refl
rest-ready (AskedRow place q) r = refl
rest-ready (Chosen edge place) r = absurd r
rest-ready Over r = refl

-- a walker has made a turn
pub has-turned : (run : Run) (p : PartView) (a c : Walker) → IsReadyIn run p a → Turns run p a c → HasTurned run p c
has-turned run p a c can turns = record {
  suits = can.stands.suits;
  within = turns.within;
  stands = turns.stands;
  rests = by (here-outcome run p a c can turns);
}
  where
    by : Outcome a c → (c.mode ≡ Fresh) ⊎ ((is_ready c.mode ≡ false) × (owner p.cuts c.state.at ≡ p.part))
    by (makes t more is) = inl (ap (λ (w : Walker). w.mode) is)
    by (rests m rest is) =
        inr (ap (λ (w : Walker). is_ready w.mode) is ∙ rest-ready m rest, ap (λ (w : Walker). owner p.cuts w.state.at) is ∙ can.stands.owned)

rest-turns : (length steps : ℕ) (m : Mode) → IsRest m → most_turns length steps m ≡ 0
rest-turns length steps Fresh r = absurd r
rest-turns length steps (Darts left place) r = absurd r
rest-turns length steps (Asked left place q) r = refl
rest-turns length steps (AskedRow place q) r = refl
rest-turns length steps (Chosen edge place) r = absurd r
rest-turns length steps Over r = refl

some-turns : (length steps : ℕ) (m : Mode) → is_ready m ≡ true → 0 < most_turns length steps m
some-turns length steps Fresh r = omega arith
some-turns length steps (Darts left place) r = omega arith
some-turns length steps (Asked left place q) r = absurd (cc)
some-turns length steps (AskedRow place q) r = absurd (cc)
some-turns length steps (Chosen edge place) r = omega arith
some-turns length steps Over r = absurd (cc)

-- a step leaves fewer turns
step-turns : (length steps : ℕ) (m : Mode) → is_ready m ≡ true → (m ≡ Fresh → length - (steps + 1) < length - steps)
    → suc (length - (steps + 1)) < most_turns length steps m
step-turns length steps Fresh r fewer = (let less = fewer refl in omega (arith, less))
step-turns length steps (Darts left place) r fewer = omega arith
step-turns length steps (Asked left place q) r fewer = absurd (cc)
step-turns length steps (AskedRow place q) r fewer = absurd (cc)
step-turns length steps (Chosen edge place) r fewer = omega arith
step-turns length steps Over r fewer = absurd (cc)

pub turns-fewer : (run : Run) (p : PartView) (a c : Walker) → IsReadyIn run p a → Turns run p a c → turns_ahead c < turns_ahead a
turns-fewer run p a c can turns = by (here-outcome run p a c can turns)
  where
    g : PartedRun
    g = parted (own_graph p) run p.cuts

    fresh-left : (t : State) → t.steps ≡ a.state.steps + 1 → c ≡ stepped a (Some t) → a.mode ≡ Fresh → a.length - (a.state.steps + 1) < a.length - a.state.steps
    fresh-left t more is fresh =
        let same : advance g a ≡ stepped a (Some t) = sym (turns.data_is (own_graph p) (own-part p)) ∙ is in
        let less : (advance g a).length - (advance g a).state.steps < a.length - a.state.steps =
        advance-left g a can.ready (subst (HasStepLeft a.state.steps a.length) (sym fresh) tt) (ap (λ (w : Walker). w.mode) same) in
        let long : (advance g a).length ≡ a.length = ap (λ (w : Walker). w.length) same in
        let steps : (advance g a).state.steps ≡ a.state.steps + 1 = ap (λ (w : Walker). w.state.steps) same ∙ more in
        rw (long, steps) at less

    by : Outcome a c → turns_ahead c < turns_ahead a
    by (makes t more is) =
        let turns_c : turns_ahead c ≡ suc (a.length - t.steps) = ap turns_ahead is in
        let left = step-turns a.length a.state.steps a.mode can.ready (fresh-left t more is) in
        rw (turns_c, more) left
    by (rests m rest is) =
        let none : turns_ahead c ≡ 0 = ap turns_ahead is ∙ rest-turns a.length a.state.steps m rest in
        rw none (some-turns a.length a.state.steps a.mode can.ready)

pub all-turned : (run : Run) (p : PartView) (xs ys : List Walker) → All (IsReadyIn run p) xs → EachBecomes (Turns run p) xs ys → All (HasTurned run p) ys
all-turned run p xs ys can turns = λ k d low.
    let there : k < length xs = omega (arith, low, turns.0) in
    has-turned run p (get_or xs k d) (get_or ys k d) (can k d there) (turns.1 k d there)

pub all-fewer : (run : Run) (p : PartView) (xs ys : List Walker) → All (IsReadyIn run p) xs → EachBecomes (Turns run p) xs ys
    → sum_by turns_ahead ys + length xs ≤ sum_by turns_ahead xs
all-fewer run p [] [] can turns = omega arith
all-fewer run p [] (c ∷ ys) can turns = absurd (omega (arith, turns.0))
all-fewer run p (a ∷ xs) [] can turns = absurd (omega (arith, turns.0))
all-fewer run p (a ∷ xs) (c ∷ ys) can turns =
    let one = turns-fewer run p a c (can 0 a (omega arith)) (turns.1 0 a (omega arith)) in
    let rest = all-fewer run p xs ys (λ k d low. can (suc k) d (omega (arith, low)))
    (omega (arith, turns.0), λ k d low. turns.1 (suc k) d (omega (arith, low))) in
    let front = sum_by-cons turns_ahead a xs in
    let back = sum_by-cons turns_ahead c ys in
    omega (arith, one, rest, front, back)

-- what a turn gives is the print that it left, and the walker after it
gives-parts : (h : Piece → ℕ) (g : PartedRun) (k : ℕ) (w : Walker)
    → sum_by h (turn_gives g k w) ≡ sum_by h (map (Printed k) (left_print w)) + sum_by h (turned_by g.owner k w w.mode)
gives-parts h g k w = by w.mode
  where
    by : (m : Mode) → sum_by h (turn_pieces g k w m)
        ≡ sum_by h (map (Printed k) (if is_fresh m then print_of w ∷ [] else [])) + sum_by h (turned_by g.owner k w m)
    by Fresh =
        omega (
          arith,
          sum_by-cons h (Printed k (print_of w)) (turned_by g.owner k w Fresh),
          sum_by-cons h (Printed k (print_of w)) [],
        )
    by (Darts left place) = omega arith
    by (Asked left place q) = omega arith
    by (AskedRow place q) = omega arith
    by (Chosen edge place) = omega arith
    by Over = omega arith

-- a turn becomes so
one-becomes : (g : RowGraph) (run : Run) (p : PartView) (a c : Walker) → IsPartOf g p → IsReadyIn run p a → Turns run p a c
    → Becomes (parted g run p.cuts) p.part (Resident p.part a ∷ [])
    (map (Printed p.part) (left_print c) ++ turned_by (owner p.cuts) p.part c c.mode)
one-becomes g run p a c of can turns =
    let r : PartedRun = parted g run p.cuts in
    becomes-as r p.part (Resident p.part a ∷ []) (Resident p.part a ∷ []) (turn_gives r p.part c)
    (map (Printed p.part) (left_print c) ++ turned_by (owner p.cuts) p.part c c.mode)
    (subst (λ w. Becomes r p.part (Resident p.part a ∷ []) (turn_gives r p.part w)) (sym (turns.data_is g of))
    (becomes-event r p.part (TurnsNow a) (can.ready, can.stands.owned)))
    (λ h. refl)
    (λ h. gives-parts h r p.part c ∙ sym (sum_by-append h (map (Printed p.part) (left_print c)) (turned_by (owner p.cuts) p.part c c.mode)))

map-prints : (h : Piece → ℕ) (k : ℕ) (ps qs : List Print) → sum_by h (map (Printed k) (ps ++ qs)) ≡ sum_by h (map (Printed k) ps) + sum_by h (map (Printed k) qs)
map-prints h k ps qs =
    sum_by-map h (Printed k) (ps ++ qs) ∙ sum_by-append (λ x. h (Printed k x)) ps qs
    ∙ sym (ap (λ n. n + sum_by h (map (Printed k) qs)) (sum_by-map h (Printed k) ps)
    ∙ ap (λ n. sum_by (λ x. h (Printed k x)) ps + n) (sum_by-map h (Printed k) qs))

all-become : (g : RowGraph) (run : Run) (p : PartView) (xs ys : List Walker) → IsPartOf g p → All (IsReadyIn run p) xs → EachBecomes (Turns run p) xs ys
    → Becomes (parted g run p.cuts) p.part (map (Resident p.part) xs) (map (Printed p.part) (turn_prints ys) ++ turned_pieces p ys)
unfolding turn_prints
all-become g run p [] [] of can turns = becomes-same (parted g run p.cuts) p.part [] [] (λ h. refl)
all-become g run p [] (c ∷ ys) of can turns = absurd (omega (arith, turns.0))
all-become g run p (a ∷ xs) [] of can turns = absurd (omega (arith, turns.0))
all-become g run p (a ∷ xs) (c ∷ ys) of can turns =
    let r : PartedRun = parted g run p.cuts in
    let k : ℕ = p.part in
    let after : List Piece = map (Printed k) (left_print c) ++ turned_by (owner p.cuts) k c c.mode in
    let later : List Piece = map (Printed k) (turn_prints ys) ++ turned_pieces p ys in
    becomes-as r k (Resident k a ∷ map (Resident k) xs) (Resident k a ∷ map (Resident k) xs) (after ++ later)
    (map (Printed k) (left_print c ++ turn_prints ys) ++ (turned_by (owner p.cuts) k c c.mode ++ turned_pieces p ys))
    (becomes-both r k (Resident k a ∷ []) after (map (Resident k) xs) later
    (one-becomes g run p a c of (can 0 a (omega arith)) (turns.1 0 a (omega arith)))
    (all-become g run p xs ys of (λ i d low. can (suc i) d (omega (arith, low)))
    (omega (arith, turns.0), λ i d low. turns.1 (suc i) d (omega (arith, low)))))
    (λ h. refl)
    (λ h. omega (
      arith,
      sum_by-append h after later,
      sum_by-append h (map (Printed k) (left_print c)) (turned_by (owner p.cuts) k c c.mode),
      sum_by-append h (map (Printed k) (turn_prints ys)) (turned_pieces p ys),
      sum_by-append h (map (Printed k) (left_print c ++ turn_prints ys)) (turned_by (owner p.cuts) k c c.mode ++ turned_pieces p ys),
      sum_by-append h (turned_by (owner p.cuts) k c c.mode) (turned_pieces p ys),
      map-prints h k (left_print c) (turn_prints ys),
    ))

-- and so do all turns of a pass, with the prints that were kept
pub pass-becomes : (g : RowGraph) (run : Run) (p : PartView) (xs ys : List Walker) (ps qs : List Print) → IsPartOf g p → All (IsReadyIn run p) xs
    → EachBecomes (Turns run p) xs ys → qs ≡ ps ++ turn_prints ys
    → Becomes (parted g run p.cuts) p.part (map (Resident p.part) xs ++ map (Printed p.part) ps) (turned_pieces p ys ++ map (Printed p.part) qs)
pass-becomes g run p xs ys ps qs of can turns more =
    let k : ℕ = p.part in
    rw more
    (becomes-within (parted g run p.cuts) k (map (Resident k) xs ++ map (Printed k) ps) (map (Resident k) xs)
    (map (Printed k) (turn_prints ys) ++ turned_pieces p ys) (map (Printed k) ps)
    (turned_pieces p ys ++ map (Printed k) (ps ++ turn_prints ys)) (all-become g run p xs ys of can turns)
    (λ h. refl)
    (λ h. omega (
      arith,
      sum_by-append h (map (Printed k) (turn_prints ys) ++ turned_pieces p ys) (map (Printed k) ps),
      sum_by-append h (map (Printed k) (turn_prints ys)) (turned_pieces p ys),
      sum_by-append h (turned_pieces p ys) (map (Printed k) (ps ++ turn_prints ys)),
      map-prints h k ps (turn_prints ys),
    )))

-- what walkers weigh after a pass
turned-weighs : (h : Piece → ℕ) (p : PartView) (w : Walker) → sum_by h (turned_by (owner p.cuts) p.part w w.mode) ≡ turn_weight h p w
turned-weighs h p w = by w.mode
  where
    k : ℕ
    k = p.part

    single : (x : Piece) → sum_by h (x ∷ []) ≡ h x
    single x = omega (arith, sum_by-cons h x [])

    asks : (q : Question) → sum_by h (ask_pieces (owner p.cuts) k w q) ≡ asks_weight h (owner p.cuts) k w q
    asks q =
        omega (
          arith,
          sum_by-cons h (Resident k w) (Goes (Asks (ask_with (owner p.cuts) w q) (owner p.cuts (asked_vertex q))) ∷ []),
          sum_by-cons h (Goes (Asks (ask_with (owner p.cuts) w q) (owner p.cuts (asked_vertex q)))) [],
        )

    by : (m : Mode) → sum_by h (turned_by (owner p.cuts) k w m) ≡ turned_weight h (owner p.cuts) k w m
    by Fresh = single _
    by (Darts left place) = single (Resident k w)
    by (Asked left place q) = asks q
    by (AskedRow place q) = asks q
    by (Chosen edge place) = single (Resident k w)
    by Over = single (Resident k w)

pub turned-sum : (h : Piece → ℕ) (p : PartView) (ws : List Walker) → sum_by h (turned_pieces p ws) ≡ sum_by (turn_weight h p) ws
turned-sum h p ws =
    sum_by-flat_map h (λ w. turned_by (owner p.cuts) p.part w w.mode) ws
    ∙ sum_by-agree (λ w. sum_by h (turned_by (owner p.cuts) p.part w w.mode)) (turn_weight h p) (turned-weighs h p) ws
