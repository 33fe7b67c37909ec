-- How many columns the choice from a row reads: the board of the classes reads those of the board of the rule.
use Rattle.std.proofs.Common.{◌≡◌, ℕ, zero, suc, ◌+◌, ◌*◌, ◌/◌, ◌^◌, Bool, true, false, List, [], ◌∷◌, length, map, replicate, Some, None, refl, ap, sym, ◌∙◌, arith}
use Rattle.std.specs.Prelude.{◌==◌, nat_le, if◌then◌else◌}
use Rattle.std.proofs.lemmas.Bool.Decides.{nat_tests}
use Rattle.walk_model.specs.declared.graph.Edge.{Edge}
use Rattle.walk_model.specs.declared.programme.Fraction.{Fraction}
use Rattle.walk_model.specs.declared.programme.Rule.TheVariants.{Plain, Scheme, Node2vec}
use Rattle.walk_model.specs.declared.states.State.{State}
use Rattle.walk_model.specs.Settings.{Settings}
use Rattle.walk_model.specs.Words.{fold_word}
use Rattle.walk_model.specs.Graph.{row, weights_of, ends_of}
use Rattle.walk_model.specs.Factor.{factor, wanted_kind}
use Rattle.walk_model.specs.Dart.{Board, area, hit, board_of, height_of, lift_of, ends_below, ends_at}
use Rattle.walk_model.proofs.BoardLemmas.{length-weights_of}
use Rattle.csr_store.specs.OutEdges.{kinds_of}
use Rattle.factor_table.specs.KnownClasses.{all_zero}
use Rattle.factor_table.proofs.FlatBoardLaws.{flat_board}
use Rattle.factor_table.proofs.OneClassLaws.{factors-plain, factors-first}
use Rattle.dart_envelope.specs.ClassBoards.{class_board, board_by}
use Rattle.metapath_walk.specs.TypeClasses.{classes_of_types, known_of_types}
use Rattle.metapath_walk.proofs.SchemeLaws as scheme
use Rattle.node2vec_walk.specs.Destinations.{classes_to, known_of, strip_run}
use Rattle.node2vec_walk.specs.Nearness.{class_factors}
use Rattle.node2vec_walk.proofs.DestinationLaws as near
use Rattle.traveller.specs.Ticks.{dart_column, columns, row_columns}
use Rattle.traveller.proofs.TickLemmas.{columns-flat}

-- a choice from one class reads what one without a rule does
pub ticks-plain : (n count : ℕ) (edges : List Edge) (plan : Settings) (s : State) (out : List Edge) (ws : List ℕ) (words : ℕ → ℕ) (place : ℕ)
    → plan.rule ≡ Plain → weights_of plan.weighted out ≡ ws → count ≡ length out
    → columns n None (board_by (class_board ws (1 ∷ []) (all_zero count) None) (replicate count 0)) words place
    ≡ columns n None (board_of edges plan s out) words place
unfolding board_of height_of lift_of
ticks-plain n count edges plan s out ws words place rule weights long =
    rw (← weights, long, rule)
    (ap (λ fs. columns n None (flat_board (weights_of plan.weighted out) fs 1 0 0) words place) (factors-plain edges s.previous s.phase out)
    ∙ sym (columns-flat n (weights_of plan.weighted out) (map (factor edges Plain s.previous s.phase) out) 1
    (ends_below s.previous (ends_of out)) (ends_at s.previous (ends_of out)) words place))

-- and what one under node2vec does where there is no vertex before
pub ticks-first : (n count : ℕ) (edges : List Edge) (plan : Settings) (s : State) (p q : Fraction) (out : List Edge) (ws : List ℕ) (words : ℕ → ℕ) (place : ℕ)
    → plan.rule ≡ Node2vec p q → s.previous ≡ None → weights_of plan.weighted out ≡ ws → count ≡ length out
    → columns n None (board_by (class_board ws (1 ∷ []) (all_zero count) None) (replicate count 0)) words place
    ≡ columns n None (board_of edges plan s out) words place
unfolding board_of height_of lift_of
ticks-first n count edges plan s p q out ws words place rule first weights long =
    rw (← weights, long, rule, first)
    (ap (λ fs. columns n None (flat_board (weights_of plan.weighted out) fs 1 0 0) words place) (factors-first edges p q s.phase out)
    ∙ sym (columns-flat n (weights_of plan.weighted out) (map (factor edges (Node2vec p q) None s.phase) out) 1
    (ends_below None (ends_of out)) (ends_at None (ends_of out)) words place))

-- a choice from two classes reads what one by a scheme does
pub ticks-scheme : (n : ℕ) (edges : List Edge) (plan : Settings) (s : State) (types : List ℕ) (wanted : ℕ) (kinds : List ℕ) (out : List Edge) (ws : List ℕ) (words : ℕ → ℕ) (place : ℕ)
    → plan.rule ≡ Scheme types → wanted ≡ wanted_kind types s.phase → weights_of plan.weighted out ≡ ws → kinds ≡ kinds_of out
    → columns n None (board_by (class_board ws (1 ∷ 0 ∷ []) (known_of_types wanted kinds) None) (classes_of_types wanted kinds)) words place
    ≡ columns n None (board_of edges plan s out) words place
unfolding board_of height_of lift_of
ticks-scheme n edges plan s types wanted kinds out ws words place rule type weights are =
    rw (← weights, are, scheme.types-classes wanted out, type, rule)
    (ap (λ fs. columns n None (flat_board (weights_of plan.weighted out) fs 1 0 0) words place) (scheme.factors-by_type edges types s.previous s.phase out)
    ∙ sym (columns-flat n (weights_of plan.weighted out) (map (factor edges (Scheme types) s.previous s.phase) out) 1
    (ends_below s.previous (ends_of out)) (ends_at s.previous (ends_of out)) words place))

-- a choice from three classes reads what one under node2vec does
pub ticks-near : (n : ℕ) (edges : List Edge) (plan : Settings) (s : State) (p q : Fraction) (t : ℕ) (dsts before : List ℕ) (run : ℕ × ℕ) (out : List Edge) (ws : List ℕ) (words : ℕ → ℕ) (place : ℕ)
    → plan.rule ≡ Node2vec p q → s.previous ≡ Some t → weights_of plan.weighted out ≡ ws
    → dsts ≡ ends_of out → before ≡ ends_of (row edges t) → run ≡ strip_run (class_factors p q) dsts t
    → columns n None (board_by (class_board ws (class_factors p q) (known_of t dsts) (Some run)) (classes_to before t dsts)) words place
    ≡ columns n None (board_of edges plan s out) words place
ticks-near n edges plan s p q t dsts before run out ws words place rule previous weights dsts_are before_are is =
    rw (is, dsts_are, before_are, ← weights)
    (near.strip-same (λ (b : Board). columns n None b words place) (λ ws fs h from count. columns-flat n ws fs h from count words place)
    edges plan s p q t out rule previous)

-- an empty row reads none
pub ticks-empty : (left : ℕ) (b : Board) (weighted : Bool) (out : List Edge) (words : ℕ → ℕ) (place : ℕ) → weights_of weighted out ≡ []
    → row_columns left None b out words place ≡ 0
ticks-empty left b weighted out words place is =
    let long : length out ≡ 0 = sym (length-weights_of weighted out) ∙ ap (λ l. length l) is in
    let none : (length out == 0) ≡ true = grind (arith, nat_tests) in
    rw none refl

-- nor does any dart on its board
fold-none : (w : ℕ) → fold_word 0 w ≡ None
unfolding fold_word
fold-none w =
    let past : nat_le (0 * (2 ^ 64 / 0)) w ≡ true = grind (arith, nat_tests) in
    rw past refl

area-bare : (b : Board) → length b.weights ≡ 0 → area b ≡ 0
area-bare b bare = rw bare (omega arith)

columns-bare : (n : ℕ) (b : Board) (words : ℕ → ℕ) (place : ℕ) → length b.weights ≡ 0 → columns n None b words place ≡ 0
unfolding columns dart_column hit
columns-bare zero b words place bare = refl
columns-bare (suc more) b words place bare =
    let rest = columns-bare more b words (place + 1) bare in
    rw (area-bare b bare, fold-none (words place)) (omega (arith, rest))

-- so a row reads those of its darts
pub ticks-row : (left : ℕ) (b : Board) (out : List Edge) (words : ℕ → ℕ) (place : ℕ) → length b.weights ≡ length out
    → columns left None b words place ≡ row_columns left None b out words place
ticks-row left b out words place long = cases (length out == 0) refl
  where
    cases : (t : Bool) → (length out == 0) ≡ t → columns left None b words place ≡ (if t then 0 else columns left None b words place)
    cases true e = columns-bare left b words place (let none : length out ≡ 0 = grind (arith, nat_tests) in omega (arith, long, none))
    cases false e = refl

pub board-long : (edges : List Edge) (plan : Settings) (s : State) (out : List Edge) → length (board_of edges plan s out).weights ≡ length out
unfolding board_of
board-long edges plan s out = length-weights_of plan.weighted out
