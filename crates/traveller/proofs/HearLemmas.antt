-- What a waiting walker makes of a reply.
use Rattle.std.proofs.Common.{◌≡◌, ℕ, ◌+◌, ◌<◌, ◌≤◌, Bool, true, false, length, Some, None, refl, ap, sym, subst, ◌∙◌, arith}
use Rattle.std.specs.Prelude.{◌==◌, Option, option_map, option_and_then, if◌then◌else◌, IsTrue}
use Rattle.std.proofs.lemmas.Option.{none-some, same_Some}
use Rattle.walk_model.specs.declared.programme.Fraction.{Fraction}
use Rattle.walk_model.specs.declared.programme.Rule.{Rule}
use Rattle.walk_model.specs.declared.programme.Rule.TheVariants.{Plain, Scheme, Node2vec}
use Rattle.walk_model.specs.declared.messages.Found.{Found}
use Rattle.walk_model.specs.declared.messages.Question.{Question}
use Rattle.walk_model.specs.declared.messages.Question.TheVariants as question
use Rattle.walk_model.specs.declared.states.State.{State}
use Rattle.walk_model.specs.Factor.{common_factor, far_factor}
use Rattle.walk_model.specs.Graph.{row}
use Rattle.walk_model.specs.Dart.{Board, area, hit, scanned}
use Rattle.walk_model.specs.Letters.{Journey, Asker, asker, needed_at}
use Rattle.walk_model.specs.Words.{fold_word}
use Rattle.csr_store.specs.RowGraph.{RowGraph}
use Rattle.vertex_partition.specs.PartViews.{PartView}
use Rattle.traveller.specs.declared.modes.Mode.{Mode}
use Rattle.traveller.specs.declared.modes.Mode.TheVariants.{Fresh, Darts, Asked, AskedRow, Chosen, Over}
use Rattle.traveller.specs.declared.runs.Run.{Run}
use Rattle.traveller.specs.Askers.{IsAsker}
use Rattle.traveller.specs.Bounds.{IsModeBounded}
use Rattle.traveller.specs.Decided.{GoesOn}
use Rattle.traveller.specs.Replies.{edge_mode, hear, heard_mode, near_by, told_board}
use Rattle.traveller.specs.RuleFactors.{CountsNear}
use Rattle.traveller.specs.Standing.{IsPossible, journey_on, own_graph, parted}
use Rattle.traveller.specs.Turns.{asker_at, asker_by, board_at, chosen_or_over, edge_question, row_question}
use Rattle.traveller.specs.Walkers.{Walker, is_ready}

-- who asks about an edge, and about which
pub record AsksEdge (r : Option Asker) (q : Question) : Type 0 where
  pub a : Asker
  pub is : r ≡ Some a
  pub x : ℕ
  pub asks : q ≡ question.Edge a.before x

pub asks-edge : (r : Option Asker) (b : Board) (w : ℕ) (q : Question) → edge_question r b w ≡ Some q → AsksEdge r q
asks-edge None b w q e = absurd (none-some q e)
asks-edge (Some a) b w q e = by (option_and_then (needed_at a b) (fold_word (area b) w)) e
  where
    by : (o : Option ℕ) → option_map (question.Edge a.before) o ≡ Some q → AsksEdge (Some a) q
    by None e = absurd (none-some q e)
    by (Some x) e = record { a = a; is = refl; x = x; asks = sym (same_Some (question.Edge a.before x) q e) }

-- and about a row
pub record AsksRow (r : Option Asker) (q : Question) : Type 0 where
  pub a : Asker
  pub is : r ≡ Some a
  pub asks : q ≡ question.Row a.before

pub asks-row : (r : Option Asker) (q : Question) → row_question r ≡ Some q → AsksRow r q
asks-row None q e = absurd (none-some q e)
asks-row (Some a) q e = by (common_factor a.p a.q == far_factor a.p a.q) e
  where
    by : (b : Bool) → (if b then None else Some (question.Row a.before)) ≡ Some q → AsksRow (Some a) q
    by true e = absurd (none-some q e)
    by false e = record { a = a; is = refl; asks = sym (same_Some (question.Row a.before) q e) }

-- who asks goes by p and q, after a vertex of another part
pub record GoesNear (j : Journey) (s : State) (r : Rule) (before : Option ℕ) (a : Asker) : Type 0 where
  pub t : ℕ
  pub p : Fraction
  pub q : Fraction
  pub rule : r ≡ Node2vec p q
  pub previous : before ≡ Some t
  pub same : a ≡ asker j s t p q
  pub apart : (j.owner t == j.owner s.at) ≡ false

goes-near : (j : Journey) (s : State) (rule : Rule) (previous : Option ℕ) (a : Asker)
    → asker_by j s rule previous ≡ Some a → GoesNear j s rule previous a
goes-near j s Plain previous a e = absurd (none-some a e)
goes-near j s (Scheme kinds) previous a e = absurd (none-some a e)
goes-near j s (Node2vec p q) None a e = absurd (none-some a e)
goes-near j s (Node2vec p q) (Some t) a e = by (j.owner t == j.owner s.at) refl e
  where
    by : (b : Bool) → (j.owner t == j.owner s.at) ≡ b → (if b then None else Some (asker j s t p q)) ≡ Some a
        → GoesNear j s (Node2vec p q) (Some t) a
    by true h e = absurd (none-some a e)
    by false h e = record {
      t = t;
      p = p;
      q = q;
      rule = refl;
      previous = refl;
      same = sym (same_Some (asker j s t p q) a e);
      apart = h;
    }

-- a walker that asks on a part of a graph does so on the graph, of the same vertex
pub record AsksOn (g : RowGraph) (run : Run) (p : PartView) (w : Walker) (back : ℕ) : Type 0 where
  pub a : Asker
  pub at : asker_at (journey_on g run p.cuts w) w.state ≡ Some a
  pub is : IsAsker g run.plan w.state back a

pub asks-on : (g : RowGraph) (run : Run) (p : PartView) (w : Walker) (a : Asker) → asker_at (journey_on (own_graph p) run p.cuts w) w.state ≡ Some a
    → AsksOn g run p w a.before
asks-on g run p w a e =
    let n = goes-near (journey_on (own_graph p) run p.cuts w) w.state run.plan.rule w.state.previous a e in
    let j : Journey = journey_on g run p.cuts w in
    let before : n.t ≡ a.before = ap (λ (b : Asker). b.before) (sym n.same) in
    let by : asker_by j w.state (Node2vec n.p n.q) (Some n.t) ≡ Some (asker j w.state n.t n.p n.q) =
    ap (λ b. if◌then◌else◌ {A = Option Asker} b None (Some (asker j w.state n.t n.p n.q))) n.apart in
    record {
      a = asker j w.state n.t n.p n.q;
      at = ap (λ r. asker_by j w.state r w.state.previous) n.rule ∙ ap (asker_by j w.state (Node2vec n.p n.q)) n.previous ∙ by;
      is = record { rule = n.rule; before = before; ends = refl };
    }

-- it counts what is near, and that vertex is the one before
pub asks-near : (run : Run) (p : PartView) (w : Walker) (a : Asker) → asker_at (journey_on (own_graph p) run p.cuts w) w.state ≡ Some a
    → CountsNear run.plan.rule × (w.state.previous ≡ Some a.before)
asks-near run p w a e =
    let n = goes-near (journey_on (own_graph p) run p.cuts w) w.state run.plan.rule w.state.previous a e in
    let before : n.t ≡ a.before = ap (λ (b : Asker). b.before) (sym n.same) in
    (subst CountsNear (sym n.rule) tt, n.previous ∙ ap Some before)

-- what it makes of a reply about an edge
pub hears-edge : (g : RowGraph) (run : Run) (p : PartView) (w : Walker) (left place : ℕ) (q : Question) (answer : Found) (near : Bool) (a : Asker) (m : Mode)
    → w.mode ≡ Asked left place q → (let j = journey_on g run p.cuts w in
    asker_at j w.state ≡ Some a → ((x : ℕ) → near ≡ near_by answer x)
    → m ≡ edge_mode (hit (told_board a (board_at j w.state) (λ x. near)) (j.course.words place)) left place
    → record w { mode = m } ≡ hear (parted g run p.cuts) w answer)
hears-edge g run p w left place q answer near a m is at same comes =
    let j : Journey = journey_on g run p.cuts w in
    let told : ◌≡◌ {A = ℕ → Bool} (λ x. near) (near_by answer) = λ i x. same x i in
    ap (λ c. record w { mode = c })
    (comes ∙ ap (λ by. edge_mode (hit (told_board a (board_at j w.state) by) (j.course.words place)) left place) told
    ∙ sym (ap (λ c. heard_mode (asker_at j w.state) (board_at j w.state) j.course.words c (near_by answer)) is
    ∙ ap (λ r. heard_mode r (board_at j w.state) j.course.words (Asked left place q) (near_by answer)) at))

-- and about a row
pub hears-row : (g : RowGraph) (run : Run) (p : PartView) (w : Walker) (place : ℕ) (q : Question) (answer : Found) (near : ℕ → Bool) (a : Asker) (m : Mode)
    → w.mode ≡ AskedRow place q → (let j = journey_on g run p.cuts w in
    asker_at j w.state ≡ Some a → ((x : ℕ) → near x ≡ near_by answer x)
    → m ≡ chosen_or_over (scanned (told_board a (board_at j w.state) near) j.course.words place)
    → record w { mode = m } ≡ hear (parted g run p.cuts) w answer)
hears-row g run p w place q answer near a m is at same comes =
    let j : Journey = journey_on g run p.cuts w in
    let told : near ≡ near_by answer = λ i x. same x i in
    ap (λ c. record w { mode = c })
    (comes ∙ ap (λ by. chosen_or_over (scanned (told_board a (board_at j w.state) by) j.course.words place)) told
    ∙ sym (ap (λ c. heard_mode (asker_at j w.state) (board_at j w.state) j.course.words c (near_by answer)) is
    ∙ ap (λ r. heard_mode r (board_at j w.state) j.course.words (AskedRow place q) (near_by answer)) at))

-- a walker that goes on can, where it stands and within its bounds
pub on-ready : (count n most : ℕ) (m : Mode) → GoesOn count n most m → IsTrue (is_ready m)
on-ready count n most Fresh h = absurd h
on-ready count n most (Darts left place) h = refl
on-ready count n most (Asked left place question) h = absurd h
on-ready count n most (AskedRow place question) h = absurd h
on-ready count n most (Chosen edge place) h = refl
on-ready count n most Over h = absurd h

pub on-possible : (run : Run) (p : PartView) (w : Walker) (n most : ℕ) (m : Mode) → 0 < length (row p.edges w.state.at) → n ≤ run.plan.retries
    → GoesOn (length (row p.edges w.state.at)) n most m → IsPossible run p w m
on-possible run p w n most Fresh some few h = absurd h
on-possible run p w n most (Darts left place) some few h = let low = h.0 in (some, omega (arith, low, few))
on-possible run p w n most (Asked left place question) some few h = absurd h
on-possible run p w n most (AskedRow place question) some few h = absurd h
on-possible run p w n most (Chosen edge place) some few h = h.0
on-possible run p w n most Over some few h = absurd h

pub on-bounded : (w : Walker) (count n most : ℕ) (m : Mode) → w.state.steps < w.length → n ≤ 1000 → most ≤ w.state.place + 1128
    → GoesOn count n most m → IsModeBounded w m
on-bounded w count n most Fresh more few low h = absurd h
on-bounded w count n most (Darts left place) more few low h = let one = h.0 in let two = h.1 in (more, omega (arith, one, few), omega (arith, two, low))
on-bounded w count n most (Asked left place question) more few low h = absurd h
on-bounded w count n most (AskedRow place question) more few low h = absurd h
on-bounded w count n most (Chosen edge place) more few low h = let two = h.1 in (more, omega (arith, two, low))
on-bounded w count n most Over more few low h = absurd h
