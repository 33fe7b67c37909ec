-- The board on which a walker asks another part.
use Rattle.std.proofs.Common.{◌≡◌, ℕ, ◌+◌, ◌*◌, ◌^◌, ◌≤◌, Bool, true, false, List, [], ◌∷◌, length, map, sum, Option, Some, None, refl, ap, sym, subst, ◌∙◌, arith}
use Rattle.std.specs.Prelude.{◌==◌, if◌then◌else◌, slice_index}
use Rattle.std.proofs.lemmas.Bool.Decides.{nat_tests}
use Rattle.walk_model.specs.declared.graph.Edge.{Edge}
use Rattle.walk_model.specs.declared.messages.Question.{Question}
use Rattle.walk_model.specs.declared.messages.Question.TheVariants as question
use Rattle.walk_model.specs.declared.programme.Rule.{Rule}
use Rattle.walk_model.specs.declared.programme.Rule.TheVariants.{Node2vec}
use Rattle.walk_model.specs.declared.states.State.{State}
use Rattle.walk_model.specs.Settings.{Settings}
use Rattle.walk_model.specs.Graph.{row, weights_of, ends_of}
use Rattle.walk_model.specs.Factor.{greatest_factor, common_factor, far_factor}
use Rattle.walk_model.specs.Dart.{Board, board_of, scanned}
use Rattle.walk_model.specs.Letters.{Asker}
use Rattle.alias_table.specs.Columns.{IsRow}
use Rattle.alias_table.proofs.PieceLaws.{piece-within}
use Rattle.csr_store.specs.RowGraph.{RowGraph}
use Rattle.dart_envelope.specs.ClassBoards.{ClassBoard, class_board, board_by, Suits}
use Rattle.node2vec_walk.specs.Destinations.{classes_to, known_of, strip_run, is_among}
use Rattle.node2vec_walk.specs.Nearness.{class_to, class_factors}
use Rattle.node2vec_walk.proofs.DestinationLaws.{strip-same}
use Rattle.traveller.specs.Choices.{IsChoice}
use Rattle.vertex_partition.specs.PartViews.{PartView, Owns, IsPartOf}
use Rattle.traveller.specs.declared.far_throwing.Far.{Far}
use Rattle.traveller.specs.declared.modes.Mode.TheVariants.{AskedRow}
use Rattle.traveller.specs.declared.ruling.TypedFactors.TheVariants as typed
use Rattle.traveller.specs.Askers.{IsAsker}
use Rattle.traveller.specs.Far.{TellsAll, far_mode, far_scan}
use Rattle.traveller.specs.RuleFactors.{AreTyped}
use Rattle.traveller.specs.Ticks.{columns}
use Rattle.traveller.specs.Turns.{chosen_or_over, row_question, scan_mode, throws}
use Rattle.traveller.proofs.ChoiceLemmas.{choice-after, long-dsts}
use Rattle.traveller.proofs.FarLemmas.{throws-flat}
use Rattle.traveller.proofs.FarTicks.{asked-flat}
use Rattle.traveller.proofs.TellLemmas.{tells-all}

-- the board of the classes by destinations, after another vertex
abbrev pub far_board : List ℕ → List ℕ → ℕ → List ℕ → ℕ × ℕ → ClassBoard
far_board ws fs back dsts run = class_board ws fs (known_of back dsts) (Some run)

-- a walker stands at a vertex, after one of another part
pub record IsFar (edges : List Edge) (plan : Settings) (s : State) (back : ℕ) (a : Asker) (ws fs dsts : List ℕ) (run : ℕ × ℕ) : Type 0 where
  pub factors : fs ≡ class_factors a.p a.q
  pub above_p : 1 ≤ a.p.top
  pub above_q : 1 ≤ a.q.top
  pub rule : plan.rule ≡ Node2vec a.p a.q
  pub previous : s.previous ≡ Some back
  pub weights : weights_of plan.weighted (row edges s.at) ≡ ws
  pub dsts_are : dsts ≡ ends_of (row edges s.at)
  pub run_is : run ≡ strip_run fs dsts back
  pub order : run.0 ≤ run.1
  pub within : run.1 ≤ length dsts
  pub fits : length ws * sum ws * greatest_factor plan.rule ≤ 2 ^ 62
  pub is_row : IsRow ws
  pub before : a.before ≡ back
  pub ends : a.ends ≡ ends_of (row edges s.at)

-- its row can be chosen from, whichever vertices count as near
pub far-choice : (edges : List Edge) (plan : Settings) (s : State) (back : ℕ) (a : Asker) (ws fs dsts near : List ℕ) (run : ℕ × ℕ)
    → IsFar edges plan s back a ws fs dsts run
    → IsChoice 3 ws fs (known_of back dsts) (classes_to near back dsts) (Some run)
far-choice edges plan s back a ws fs dsts near run f =
    choice-after edges plan s.at back fs ws dsts near run
    (record { p = a.p; q = a.q; rule = f.rule; factors = f.factors; above_p = f.above_p; above_q = f.above_q })
    f.weights f.fits f.dsts_are f.run_is f.order f.within

-- verdicts on its board tell what has to be asked
pub far-tells : (edges : List Edge) (plan : Settings) (s : State) (back : ℕ) (a : Asker) (ws fs dsts classes : List ℕ) (run : ℕ × ℕ)
    → IsFar edges plan s back a ws fs dsts run → TellsAll (far_board ws fs back dsts run) a classes
far-tells edges plan s back a ws fs dsts classes run f =
    rw f.factors
    (tells-all ws a.p a.q back dsts run classes a refl refl f.before (f.ends ∙ sym f.dsts_are)
    (sym (long-dsts plan.weighted (row edges s.at) ws dsts f.weights f.dsts_are)) f.above_p f.above_q
    (λ u low. piece-within ws u f.is_row low))

-- darts on its board are those on the board of the rule
pub far-throws : (n : ℕ) (edges : List Edge) (plan : Settings) (s : State) (back : ℕ) (a : Asker) (ws fs dsts : List ℕ) (run : ℕ × ℕ) (words : ℕ → ℕ) (place : ℕ)
    → IsFar edges plan s back a ws fs dsts run
    → throws n (Some a) (board_by (far_board ws fs back dsts run) (classes_to (ends_of (row edges back)) back dsts)) words place
    ≡ throws n (Some a) (board_of edges plan s (row edges s.at)) words place
far-throws n edges plan s back a ws fs dsts run words place f =
    rw (f.run_is, f.dsts_are, f.factors, ← f.weights)
    (strip-same (λ (b : Board). throws n (Some a) b words place)
    (λ ws fs h from count. throws-flat n a ws fs h from count words place)
    edges plan s a.p a.q back (row edges s.at) f.rule f.previous)

-- where a near edge has the factor of a far one, it doesn't matter which vertices are near
even-class : (fs : List ℕ) (x t : ℕ) (m n : Bool) → slice_index fs 1 ≡ slice_index fs 2
    → slice_index fs (class_to x t m) ≡ slice_index fs (class_to x t n)
even-class fs x t m n even = by (x == t) m n
  where
    by : (back m n : Bool) → slice_index fs (if back then 0 else (if m then 1 else 2)) ≡ slice_index fs (if back then 0 else (if n then 1 else 2))
    by true m n = refl
    by false true true = refl
    by false true false = even
    by false false true = sym even
    by false false false = refl

even-factors : (fs near told : List ℕ) (t : ℕ) (dsts : List ℕ) → slice_index fs 1 ≡ slice_index fs 2
    → map (slice_index fs) (classes_to near t dsts) ≡ map (slice_index fs) (classes_to told t dsts)
even-factors fs near told t [] even = refl
even-factors fs near told t (x ∷ xs) even =
    rw (even-class fs x t (is_among near x) (is_among told x) even)
    (ap (λ l. slice_index fs (class_to x t (is_among told x)) ∷ l) (even-factors fs near told t xs even))

pub far-scanned : (ws fs dsts near told : List ℕ) (back : ℕ) (run : ℕ × ℕ) (words : ℕ → ℕ) (place : ℕ)
    → slice_index fs 1 ≡ slice_index fs 2
    → scanned (board_by (far_board ws fs back dsts run) (classes_to near back dsts)) words place
    ≡ scanned (board_by (far_board ws fs back dsts run) (classes_to told back dsts)) words place
far-scanned ws fs dsts near told back run words place even =
    let b : Board = board_by (far_board ws fs back dsts run) [] in
    ap (λ (by : List ℕ). scanned (record b { factors = by }) words place) (even-factors fs near told back dsts even)

-- what the scan comes to after darts on its board
pub far-scan-is : (a : Asker) (ws fs dsts near told : List ℕ) (back : ℕ) (run : ℕ × ℕ) (words : ℕ → ℕ) (place : ℕ)
    → fs ≡ class_factors a.p a.q → a.before ≡ back
    → scan_mode (row_question (Some a)) (scanned (board_by (far_board ws fs back dsts run) (classes_to near back dsts)) words place) place
    ≡ far_scan fs back (board_by (far_board ws fs back dsts run) (classes_to told back dsts)) words place
far-scan-is a ws fs dsts near told back run words place are before =
    let one : slice_index fs 1 ≡ common_factor a.p a.q = ap (λ (l : List ℕ). slice_index l 1) are in
    let two : slice_index fs 2 ≡ far_factor a.p a.q = ap (λ (l : List ℕ). slice_index l 2) are in
    let cases : (t : Bool) → (slice_index fs 1 == slice_index fs 2) ≡ t
    → scan_mode (if◌then◌else◌ {A = Option Question} t None (Some (question.Row a.before))) (scanned (board_by (far_board ws fs back dsts run) (classes_to near back dsts)) words place) place
    ≡ (if t then chosen_or_over (scanned (board_by (far_board ws fs back dsts run) (classes_to told back dsts)) words place) else AskedRow place (question.Row back)) = λ t.
    elim t as (λ t. (slice_index fs 1 == slice_index fs 2) ≡ t
    → scan_mode (if◌then◌else◌ {A = Option Question} t None (Some (question.Row a.before))) (scanned (board_by (far_board ws fs back dsts run) (classes_to near back dsts)) words place) place
    ≡ (if t then chosen_or_over (scanned (board_by (far_board ws fs back dsts run) (classes_to told back dsts)) words place) else AskedRow place (question.Row back))) [
      | true ↦ λ e. (let even : slice_index fs 1 ≡ slice_index fs 2 = grind (arith, nat_tests) in
          ap chosen_or_over (far-scanned ws fs dsts near told back run words place even))
      | false ↦ λ e. ap (λ t. AskedRow place (question.Row t)) before
    ] in
    let test : (slice_index fs 1 == slice_index fs 2) ≡ (common_factor a.p a.q == far_factor a.p a.q) = rw (one, two) refl in
    rw (← test) (cases (slice_index fs 1 == slice_index fs 2) refl)

-- in a part of the graph that has the row where the walker stands
pub far-here : (p : PartView) (g : RowGraph) (plan : Settings) (s : State) (back : ℕ) (a : Asker) (ws fs dsts : List ℕ) (run : ℕ × ℕ)
    → IsPartOf g p → Owns p s.at → IsAsker g plan s back a → AreTyped plan.rule (typed.Node2vec fs) → s.previous ≡ Some back
    → weights_of plan.weighted (row p.edges s.at) ≡ ws → length ws * sum ws * greatest_factor plan.rule ≤ 2 ^ 62 → IsRow ws
    → dsts ≡ ends_of (row p.edges s.at) → run ≡ strip_run fs dsts back → run.0 ≤ run.1 → run.1 ≤ length dsts
    → IsFar g.edges plan s back a ws fs dsts run
far-here p g plan s back a ws fs dsts run of at asks rule previous weights fits is_row are is order within =
    let here : row p.edges s.at ≡ row g.edges s.at = of.rows s.at at in
    let typed_is : AreTyped (Node2vec a.p a.q) (typed.Node2vec fs) = subst (λ (r : Rule). AreTyped r (typed.Node2vec fs)) asks.rule rule in
    record {
      factors = typed_is.0;
      above_p = typed_is.1;
      above_q = typed_is.2;
      rule = asks.rule;
      previous = previous;
      weights = rw here at weights;
      dsts_are = are ∙ ap ends_of here;
      run_is = is;
      order = order;
      within = within;
      fits = fits;
      is_row = is_row;
      before = asks.before;
      ends = asks.ends;
    }

-- what darts come to there
pub far-comes : (n : ℕ) (edges : List Edge) (plan : Settings) (s : State) (back : ℕ) (a : Asker) (ws fs dsts : List ℕ) (run : ℕ × ℕ) (words : ℕ → ℕ) (place next : ℕ) (cb : ClassBoard) (found : Far)
    → IsFar edges plan s back a ws fs dsts run → cb ≡ far_board ws fs back dsts run
    → ((a : Asker) (classes : List ℕ) → Suits cb classes → TellsAll cb a classes
    → throws n (Some a) (board_by cb classes) words place ≡ far_mode a (board_by cb classes) words found next)
    → throws n (Some a) (board_of edges plan s (row edges s.at)) words place
    ≡ far_mode a (board_by (far_board ws fs back dsts run) (classes_to (ends_of (row edges back)) back dsts)) words found next
far-comes n edges plan s back a ws fs dsts run words place next cb found f made comes =
    let near : List ℕ = ends_of (row edges back) in
    let classes : List ℕ = classes_to near back dsts in
    let suits : Suits cb classes = rw made ((far-choice edges plan s back a ws fs dsts near run f).suits) in
    let tell : TellsAll cb a classes = rw made (far-tells edges plan s back a ws fs dsts classes run f) in
    sym (far-throws n edges plan s back a ws fs dsts run words place f)
    ∙ ap (λ (b : ClassBoard). throws n (Some a) (board_by b classes) words place) (sym made)
    ∙ comes a classes suits tell
    ∙ ap (λ (b : ClassBoard). far_mode a (board_by b classes) words found next) made

-- and the columns that they read
pub far-reads : (n : ℕ) (edges : List Edge) (plan : Settings) (s : State) (back : ℕ) (a : Asker) (ws fs dsts : List ℕ) (run : ℕ × ℕ) (words : ℕ → ℕ) (place before after : ℕ) (cb : ClassBoard)
    → IsFar edges plan s back a ws fs dsts run → cb ≡ far_board ws fs back dsts run
    → ((a : Asker) (classes : List ℕ) → Suits cb classes → TellsAll cb a classes
    → after ≡ before + columns n (Some a) (board_by cb classes) words place)
    → after ≡ before + columns n (Some a) (board_of edges plan s (row edges s.at)) words place
far-reads n edges plan s back a ws fs dsts run words place before after cb f made reads =
    let near : List ℕ = ends_of (row edges back) in
    let classes : List ℕ = classes_to near back dsts in
    let suits : Suits cb classes = rw made ((far-choice edges plan s back a ws fs dsts near run f).suits) in
    let tell : TellsAll cb a classes = rw made (far-tells edges plan s back a ws fs dsts classes run f) in
    let same : columns n (Some a) (board_by (far_board ws fs back dsts run) classes) words place ≡ columns n (Some a) (board_of edges plan s (row edges s.at)) words place =
    rw (f.run_is, f.dsts_are, f.factors, ← f.weights)
    (strip-same (λ (b : Board). columns n (Some a) b words place) (λ ws fs h from count. asked-flat n a ws fs h from count words place)
    edges plan s a.p a.q back (row edges s.at) f.rule f.previous) in
    reads a classes suits tell
    ∙ ap (λ (b : ClassBoard). before + columns n (Some a) (board_by b classes) words place) made
    ∙ ap (λ k. before + k) same
