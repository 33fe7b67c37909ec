-- Walkers that have made a turn, and where they go.
use Rattle.std.proofs.Common.{◌≡◌, ◌<◌, ◌≤◌, ◌+◌, ◌-◌, ◌&&◌, ◌==◌, ◌⊎◌, ℕ, zero, suc, Bool, true, false, not, List, [], ◌∷◌, ◌++◌, length, map, get_or, Option, Some, None, refl, ap, sym, subst, ◌∙◌, inl, inr, arith}
use Rattle.std.specs.Prelude.{All, sum_by, if◌then◌else◌, IfSome, slice_index, option_map, option_and_then, nat_lt}
use Rattle.std.proofs.lemmas.Bool.{cases_lt, eq-eqb, ne_eqb, eqb-true, and_parts, and_from}
use Rattle.std.proofs.lemmas.Option.{none-some, same_Some}
use Rattle.std.proofs.lemmas.List.{get_or_past}
use Rattle.std.proofs.lemmas.List.Sums.{sum_by-cons, sum_by-append, sum_by_push}
use Rattle.std.proofs.lemmas.List.Elements.{All-push}
use Rattle.walk_model.specs.declared.messages.Ask.{Ask}
use Rattle.walk_model.specs.declared.messages.Question.{Question}
use Rattle.walk_model.specs.declared.messages.Question.TheVariants as question
use Rattle.walk_model.specs.declared.programme.Rule.{Rule}
use Rattle.walk_model.specs.declared.programme.Rule.TheVariants.{Plain, Scheme, Node2vec}
use Rattle.walk_model.specs.declared.states.State.{State}
use Rattle.walk_model.specs.Cuts.{owner}
use Rattle.walk_model.specs.Dart.{Board, area}
use Rattle.walk_model.specs.Factor.{common_factor, far_factor}
use Rattle.walk_model.specs.Graph.{row, ends_of}
use Rattle.walk_model.specs.Letters.{Journey, Asker, asker, needed_at, in_zone}
use Rattle.walk_model.specs.Words.{fold_word}
use Rattle.query_batch.specs.Numbers.{IsWithin as IsAskedWithin}
use Rattle.vertex_partition.specs.PartViews.{PartView, Owns}
use Rattle.traveller.specs.declared.modes.Mode.{Mode}
use Rattle.traveller.specs.declared.modes.Mode.TheVariants.{Fresh, Darts, Asked, AskedRow, Chosen, Over}
use Rattle.traveller.specs.declared.runs.Run.{Run}
use Rattle.traveller.specs.Standing.{IsWithin, IsPossible, StandsIn, Suits, journey_on, own_graph}
use Rattle.traveller.specs.Turns.{asker_by, asker_at, board_at, edge_question, row_question}
use Rattle.traveller.specs.Walkers.{Walker, is_fresh, is_over, is_ready, question_of, asked_vertex, ask_with}
use Rattle.walker_mail.specs.declared.parcels.Addressed.{Addressed}
use Rattle.world_law.specs.Items.{Travels, Asks}
use Rattle.world_law.specs.Worlds.{Piece, Resident, Goes}
use Rattle.shard_core.specs.declared.items.Item.{Item}
use Rattle.shard_core.specs.declared.items.Item.TheVariants as item
use Rattle.shard_core.specs.declared.leaving.Left.{Left}
use Rattle.shard_core.specs.Abreast.{IsReadyIn}
use Rattle.shard_core.specs.Items.{item_of}
use Rattle.shard_core.specs.KeptShards.{WaitsIn, HasEndedIn}
use Rattle.shard_core.specs.Leaving.{HasTurned, IsLeft, resident_weight, left_weight, turn_weight, turned_weight, asks_weight}
use Rattle.shard_core.specs.SoundWorlds.{IsInFlight}

-- an end of a row is a vertex, wherever it is read
index-within : (ends : List ℕ) (n k : ℕ) → All (λ t. t < n) ends → 0 < n → slice_index ends k < n
index-within ends n k all some =
    elim (cases_lt k (length ends)) [
      | inl low ↦ all k 0 low
      | inr past ↦ (let none = get_or_past ends k 0 past in omega (arith, none, some))
    ]

-- what is asked about is a vertex
needed-within : (a : Asker) (b : Board) (w n : ℕ) (q : Question) → a.before < n → 0 < n → All (λ t. t < n) a.ends
    → edge_question (Some a) b w ≡ Some q → IsAskedWithin n q
unfolding needed_at
needed-within a b w n q before some ends e = from-word (fold_word (area b) w) e
  where
    from-test : (t : Bool) (x : ℕ) → x < n → option_map (question.Edge a.before) (if t then Some x else None) ≡ Some q → IsAskedWithin n q
    from-test true x low e = subst (IsAskedWithin n) (same_Some (question.Edge a.before x) q e) (before, low)
    from-test false x low e = absurd (none-some q e)

    from-word : (o : Option ℕ) → option_map (question.Edge a.before) (option_and_then (needed_at a b) o) ≡ Some q → IsAskedWithin n q
    from-word None e = absurd (none-some q e)
    from-word (Some x) e = from-test _ _ (index-within a.ends n _ ends some) e

row-within : (a : Asker) (n : ℕ) (q : Question) → a.before < n → row_question (Some a) ≡ Some q → IsAskedWithin n q
row-within a n q before e = by (common_factor a.p a.q == far_factor a.p a.q) e
  where
    by : (t : Bool) → (if t then None else Some (question.Row a.before)) ≡ Some q → IsAskedWithin n q
    by true e = absurd (none-some q e)
    by false e = subst (IsAskedWithin n) (same_Some (question.Row a.before) q e) before

asker-within : (j : Journey) (s : State) (n : ℕ) (rule : Rule) (previous : Option ℕ) (F : Option Asker → Option Question) (q : Question)
    → F None ≡ None → ((a : Asker) → a.before < n → a.ends ≡ ends_of (row j.course.edges s.at) → F (Some a) ≡ Some q → IsAskedWithin n q)
    → IfSome previous (λ t. t < n) → F (asker_by j s rule previous) ≡ Some q → IsAskedWithin n q
asker-within j s n Plain previous F q none some before e = absurd (none-some q (sym none ∙ e))
asker-within j s n (Scheme kinds) previous F q none some before e = absurd (none-some q (sym none ∙ e))
asker-within j s n (Node2vec a b) None F q none some before e = absurd (none-some q (sym none ∙ e))
asker-within j s n (Node2vec a b) (Some t) F q none some before e = by (j.owner t == j.owner s.at) e
  where
    by : (c : Bool) → F (if c then None else Some (asker j s t a b)) ≡ Some q → IsAskedWithin n q
    by true e = absurd (none-some q (sym none ∙ e))
    by false e = some (asker j s t a b) before refl e

pub asked-within : (run : Run) (p : PartView) (w : Walker) (q : Question) → StandsIn run p w → All (λ t. t < p.vertices) (ends_of (row p.edges w.state.at))
    → question_of w.mode ≡ Some q → IsAskedWithin p.vertices q
asked-within run p w q stands ends e = by w.mode stands.possible e
  where
    j : Journey
    j = journey_on (own_graph p) run p.cuts w

    some : 0 < p.vertices
    some = (let at = stands.within.at in omega (arith, at))

    by : (m : Mode) → IsPossible run p w m → question_of m ≡ Some q → IsAskedWithin p.vertices q
    by Fresh possible e = absurd (none-some q e)
    by (Darts left place) possible e = absurd (none-some q e)
    by (Asked left place r) possible e =
        asker-within j w.state p.vertices run.plan.rule w.state.previous (λ a. edge_question a (board_at j w.state) (j.course.words place)) q refl
        (λ a before is asks.
        needed-within a (board_at j w.state) (j.course.words place) p.vertices q before some (subst (All (λ t. t < p.vertices)) (sym is) ends) asks)
        stands.within.previous (possible.2 ∙ e)
    by (AskedRow place r) possible e =
        asker-within j w.state p.vertices run.plan.rule w.state.previous row_question q refl
        (λ a before is asks. row-within a p.vertices q before asks)
        stands.within.previous (possible.1 ∙ e)
    by (Chosen edge place) possible e = absurd (none-some q e)
    by Over possible e = absurd (none-some q e)

-- a walker that asks, or has ended, rests in the part
pub asks-stands : (run : Run) (p : PartView) (w : Walker) (q : Question) → HasTurned run p w → question_of w.mode ≡ Some q → StandsIn run p w
asks-stands run p w q turned e =
    elim turned.rests [
      | inl fresh ↦ absurd (none-some q (sym (ap question_of fresh) ∙ e))
      | inr rest ↦ turned.stands rest.1
    ]

pub over-stands : (run : Run) (p : PartView) (w : Walker) → HasTurned run p w → is_over w.mode ≡ true → StandsIn run p w
over-stands run p w turned e =
    elim turned.rests [
      | inl fresh ↦ (let never : false ≡ true = sym (ap is_over fresh) ∙ e in absurd (cc))
      | inr rest ↦ turned.stands rest.1
    ]

-- one that doesn't is at the beginning of a step
pub rests-fresh : (run : Run) (p : PartView) (w : Walker) → HasTurned run p w → is_over w.mode ≡ false → question_of w.mode ≡ None → w.mode ≡ Fresh
rests-fresh run p w turned over asks =
    elim turned.rests [
      | inl fresh ↦ fresh
      | inr rest ↦ by w.mode rest.0 over asks
    ]
  where
    by : (m : Mode) → is_ready m ≡ false → is_over m ≡ false → question_of m ≡ None → m ≡ Fresh
    by Fresh ready over asks = refl
    by (Darts left place) ready over asks = absurd (cc)
    by (Asked left place r) ready over asks = absurd (none-some r (sym asks))
    by (AskedRow place r) ready over asks = absurd (none-some r (sym asks))
    by (Chosen edge place) ready over asks = absurd (cc)
    by Over ready over asks = absurd (cc)

-- what walkers weigh after a turn
pub asks-weighs : (h : Piece → ℕ) (p : PartView) (w : Walker) (q : Question) → question_of w.mode ≡ Some q
    → turn_weight h p w ≡ asks_weight h (owner p.cuts) p.part w q
asks-weighs h p w q e = by w.mode e
  where
    by : (m : Mode) → question_of m ≡ Some q → turned_weight h (owner p.cuts) p.part w m ≡ asks_weight h (owner p.cuts) p.part w q
    by Fresh e = absurd (none-some q e)
    by (Darts left place) e = absurd (none-some q e)
    by (Asked left place r) e = ap (asks_weight h (owner p.cuts) p.part w) (same_Some r q e)
    by (AskedRow place r) e = ap (asks_weight h (owner p.cuts) p.part w) (same_Some r q e)
    by (Chosen edge place) e = absurd (none-some q e)
    by Over e = absurd (none-some q e)

pub over-weighs : (h : Piece → ℕ) (p : PartView) (w : Walker) → is_over w.mode ≡ true → turn_weight h p w ≡ h (Resident p.part w)
over-weighs h p w e = by w.mode e
  where
    by : (m : Mode) → is_over m ≡ true → turned_weight h (owner p.cuts) p.part w m ≡ h (Resident p.part w)
    by Fresh e = absurd (cc)
    by (Darts left place) e = refl
    by (Asked left place r) e = absurd (cc)
    by (AskedRow place r) e = absurd (cc)
    by (Chosen edge place) e = refl
    by Over e = refl

pub goes-weighs : (h : Piece → ℕ) (p : PartView) (w : Walker) → w.mode ≡ Fresh → (owner p.cuts w.state.at ≡ p.part → ⊥)
    → turn_weight h p w ≡ h (Goes (Travels w p.part (owner p.cuts w.state.at)))
goes-weighs h p w fresh other =
    let apart : (p.part == owner p.cuts w.state.at) ≡ false = ne_eqb p.part (owner p.cuts w.state.at) (λ e. other (sym e)) in
    ap (turned_weight h (owner p.cuts) p.part w) fresh
    ∙ ap (λ b. h (if◌then◌else◌ {A = Piece} b (Resident p.part w) (Goes (Travels w p.part (owner p.cuts w.state.at))))) apart

pub stays-weighs : (h : Piece → ℕ) (p : PartView) (w : Walker) → w.mode ≡ Fresh → owner p.cuts w.state.at ≡ p.part
    → turn_weight h p w ≡ h (Resident p.part w)
stays-weighs h p w fresh own =
    let here : (p.part == owner p.cuts w.state.at) ≡ true = eq-eqb p.part (owner p.cuts w.state.at) (sym own) in
    ap (turned_weight h (owner p.cuts) p.part w) fresh
    ∙ ap (λ b. h (if◌then◌else◌ {A = Piece} b (Resident p.part w) (Goes (Travels w p.part (owner p.cuts w.state.at))))) here

-- an ask goes where it belongs
asked-below : (n : ℕ) (q : Question) → IsAskedWithin n q → asked_vertex q < n
asked-below n (question.Edge t x) within = within.0
asked-below n (question.Row t) within = within

pub ask-flight : (run : Run) (p : PartView) (ask : Ask) (to : ℕ) → Suits run p → IsAskedWithin p.vertices ask.question → ask.home ≡ p.part
    → p.part ≤ length p.cuts → to ≡ owner p.cuts (asked_vertex ask.question) → to ≤ length p.cuts
    → IsInFlight run.vertices p.cuts (record { to = to; item = item.Ask ask to })
ask-flight run p ask to suits within home low is there = record {
  addressed = refl;
  fits = record {
    to = there;
    taken = λ r same cuts part. record {
      to = sym part;
      from = rw (home, cuts) low;
      suited = (
        subst (λ n. IsAskedWithin n ask.question) (sym suits.vertices) within,
        record {
          below = rw (same, suits.vertices) (asked-below p.vertices ask.question within);
          owner_is = ap (λ cs. owner cs (asked_vertex ask.question)) cuts ∙ sym is ∙ sym part;
        },
      );
    };
  };
}

-- and so does a walker
pub walker-flight : (run : Run) (p : PartView) (w : Walker) (to : ℕ) → HasTurned run p w → w.mode ≡ Fresh → p.part ≤ length p.cuts
    → to ≡ owner p.cuts w.state.at → to ≤ length p.cuts
    → IsInFlight run.vertices p.cuts (record { to = to; item = item.Walker w p.part to })
walker-flight run p w to turned fresh low is there = record {
  addressed = refl;
  fits = record {
    to = there;
    taken = λ r same cuts part. record {
      to = sym part;
      from = rw cuts low;
      suited = (
        subst (λ n. IsWithin n w) (sym turned.suits.vertices) turned.within,
        fresh,
        record {
          below = rw (same, turned.suits.vertices) turned.within.at;
          owner_is = ap (λ cs. owner cs w.state.at) cuts ∙ sym is ∙ sym part;
        },
      );
    };
  };
}

-- the test of a walker that stays
fresh-is : (m : Mode) → is_fresh m ≡ true → m ≡ Fresh
fresh-is Fresh e = refl
fresh-is (Darts left place) e = absurd (cc)
fresh-is (Asked left place r) e = absurd (cc)
fresh-is (AskedRow place r) e = absurd (cc)
fresh-is (Chosen edge place) e = absurd (cc)
fresh-is Over e = absurd (cc)

pub record IsStaying (p : PartView) (w : Walker) : Type 0 where
  pub fresh : w.mode ≡ Fresh
  pub own : owner p.cuts w.state.at ≡ p.part

pub stays-told : (p : PartView) (w : Walker) → (is_fresh w.mode && owner p.cuts w.state.at == p.part) ≡ true → IsStaying p w
stays-told p w e =
    let parts = and_parts (is_fresh w.mode) (owner p.cuts w.state.at == p.part) e in
    record { fresh = fresh-is w.mode parts.0; own = eqb-true (owner p.cuts w.state.at) p.part parts.1 }

pub leaves-told : (p : PartView) (w : Walker) → (is_fresh w.mode && owner p.cuts w.state.at == p.part) ≡ false
    → w.mode ≡ Fresh → owner p.cuts w.state.at ≡ p.part → ⊥
leaves-told p w e fresh own =
    let first : is_fresh w.mode ≡ true = ap is_fresh fresh in
    let last : (owner p.cuts w.state.at == p.part) ≡ true = eq-eqb (owner p.cuts w.state.at) p.part own in
    let both : (is_fresh w.mode && owner p.cuts w.state.at == p.part) ≡ true = and_from (is_fresh w.mode) (owner p.cuts w.state.at == p.part) first last in
    absurd (cc)

pub stays-ready : (run : Run) (p : PartView) (w : Walker) → HasTurned run p w → IsStaying p w → IsReadyIn run p w
stays-ready run p w turned stays = record { stands = turned.stands stays.own; ready = ap is_ready stays.fresh }

-- what turns left, with a walker that has ended
pub ended-left : (run : Run) (p : PartView) (l next : Left) (v : Walker) → HasEndedIn run p v → next.waiting.items ≡ l.waiting.items
    → next.ended.items ≡ l.ended.items ++ v ∷ [] → next.out.items ≡ l.out.items → IsLeft run p l → IsLeft run p next
ended-left run p l next v ended waiting more out left = record {
  waiting = rw waiting left.waiting;
  ended = rw more (All-push (HasEndedIn run p) l.ended.items v left.ended ended);
  out = rw out left.out;
}

pub ended-same : (run : Run) (p : PartView) (l next : Left) (v : Walker) → is_over v.mode ≡ true → next.waiting.items ≡ l.waiting.items
    → next.ended.items ≡ l.ended.items ++ v ∷ [] → next.out.items ≡ l.out.items → (h : Piece → ℕ)
    → left_weight h p next ≡ left_weight h p l + turn_weight h p v
ended-same run p l next v over waiting more out h =
    omega (
      arith,
      over-weighs h p v over,
      ap (resident_weight h p) waiting,
      ap (resident_weight h p) more,
      sum_by_push (λ w. h (Resident p.part w)) l.ended.items v,
      ap (sum_by (λ a. h (Goes (item_of a.item)))) out,
    )

-- with a walker that goes
pub sent-left : (run : Run) (p : PartView) (l next : Left) (a : Addressed Item) → IsInFlight run.vertices p.cuts a → next.waiting.items ≡ l.waiting.items
    → next.ended.items ≡ l.ended.items → next.out.items ≡ l.out.items ++ a ∷ [] → IsLeft run p l → IsLeft run p next
sent-left run p l next a flies waiting ended more left = record {
  waiting = rw waiting left.waiting;
  ended = rw ended left.ended;
  out = rw more (All-push (IsInFlight run.vertices p.cuts) l.out.items a left.out flies);
}

pub sent-same : (p : PartView) (l next : Left) (v : Walker) (from to : ℕ) → v.mode ≡ Fresh → (owner p.cuts v.state.at ≡ p.part → ⊥)
    → from ≡ p.part → to ≡ owner p.cuts v.state.at → next.waiting.items ≡ l.waiting.items → next.ended.items ≡ l.ended.items
    → next.out.items ≡ l.out.items ++ record { to = to; item = item.Walker v from to } ∷ [] → (h : Piece → ℕ)
    → left_weight h p next ≡ left_weight h p l + turn_weight h p v
sent-same p l next v from to fresh other here there waiting ended more h =
    omega (
      arith,
      goes-weighs h p v fresh other,
      ap (λ n. h (Goes (Travels v n to))) here,
      ap (λ n. h (Goes (Travels v p.part n))) there,
      ap (resident_weight h p) waiting,
      ap (resident_weight h p) ended,
      ap (sum_by (λ a. h (Goes (item_of a.item)))) more,
      sum_by_push (λ a. h (Goes (item_of a.item))) l.out.items (record { to = to; item = item.Walker v from to }),
    )

-- and with a walker that asks
pub asked-left : (run : Run) (p : PartView) (l next : Left) (v : Walker) (q : Question) (a : Addressed Item) → StandsIn run p v → question_of v.mode ≡ Some q
    → IsInFlight run.vertices p.cuts a → next.waiting.items ≡ l.waiting.items ++ v ∷ [] → next.ended.items ≡ l.ended.items
    → next.out.items ≡ l.out.items ++ a ∷ [] → IsLeft run p l → IsLeft run p next
asked-left run p l next v q a stands asks flies waiting ended more left = record {
  waiting = rw waiting (All-push (WaitsIn run p) l.waiting.items v left.waiting (record { stands = stands; question = q; waits = asks }));
  ended = rw ended left.ended;
  out = rw more (All-push (IsInFlight run.vertices p.cuts) l.out.items a left.out flies);
}

pub asked-same : (p : PartView) (l next : Left) (v : Walker) (q : Question) (ask : Ask) (to : ℕ) → question_of v.mode ≡ Some q
    → ask ≡ ask_with (owner p.cuts) v q → to ≡ owner p.cuts (asked_vertex q) → next.waiting.items ≡ l.waiting.items ++ v ∷ [] → next.ended.items ≡ l.ended.items
    → next.out.items ≡ l.out.items ++ record { to = to; item = item.Ask ask to } ∷ [] → (h : Piece → ℕ)
    → left_weight h p next ≡ left_weight h p l + turn_weight h p v
asked-same p l next v q ask to asks is there waiting ended more h =
    omega (
      arith,
      asks-weighs h p v q asks,
      ap (λ x. h (Goes (Asks x to))) is,
      ap (λ n. h (Goes (Asks (ask_with (owner p.cuts) v q) n))) there,
      ap (resident_weight h p) waiting,
      sum_by_push (λ w. h (Resident p.part w)) l.waiting.items v,
      ap (resident_weight h p) ended,
      ap (sum_by (λ a. h (Goes (item_of a.item)))) more,
      sum_by_push (λ a. h (Goes (item_of a.item))) l.out.items (record { to = to; item = item.Ask ask to }),
    )

-- the ask of a walker, put together
pub same-ask : (p : PartView) (v : Walker) (q : Question) (number step home : ℕ) → number ≡ v.number → step ≡ v.state.steps → home ≡ owner p.cuts v.state.at
    → record { walker = number; step = step + 1; home = home; question = q } ≡ ask_with (owner p.cuts) v q
same-ask p v q number step home is_number is_step is_home =
    ap (λ n. record { walker = n; step = step + 1; home = home; question = q }) is_number
    ∙ ap (λ n. record { walker = v.number; step = n + 1; home = home; question = q }) is_step
    ∙ ap (λ n. record { walker = v.number; step = v.state.steps + 1; home = n; question = q }) is_home
