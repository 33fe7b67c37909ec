use Rattle.std.proofs.Common.{rules, ◌≡◌, ℕ, ◌+◌, ◌*◌, ◌^◌, ◌≤◌, List, [], ◌∷◌, length, replicate, sum, None, Some, ap, sym, subst, ◌∙◌}
use Rattle.walk_model.specs.declared.graph.Edge.{Edge}
use Rattle.walk_model.specs.declared.programme.Rule.TheVariants.{Plain, Scheme}
use Rattle.walk_model.specs.Words.{word}
use Rattle.walk_model.specs.Graph.{row}
use Rattle.walk_model.specs.Factor.{greatest_factor}
use Rattle.walk_model.specs.Dart.{darts}
use Rattle.walk_model.proofs.BoardLemmas.{length-weights_of}
use Rattle.factor_table.specs.KnownClasses.{all_zero}
use Rattle.csr_store.proofs.SearchLemmas.{row-rises}
use Rattle.dart_envelope.specs.ClassBoards.{class_board, board_by}
use Rattle.metapath_walk.specs.TypeClasses.{classes_of_types, known_of_types}
use Rattle.node2vec_walk.specs.Destinations.{classes_to, known_of, strip_run}
use Rattle.std.specs.List.Sorted.{IsNonDecreasing}
use Rattle.traveller.specs.Choices.{IsChoice}
use Rattle.traveller.proofs.ChoiceLemmas.{IsNear, choice-one, choice-scheme, choice-after, fits-one, greatest-plain, greatest-near, greatest-scheme, plain-rule, scheme-rule, near-rule, one-plain, one-first, two-scheme, three-near}
use Rattle.traveller.specs.Ticks.{columns}
use Rattle.traveller.proofs.ChoiceTicks.{ticks-plain, ticks-first, ticks-scheme, ticks-near}
use Rattle.traveller.proofs.choosing.choose_edge.Goals as goal

pub choose-requires : goal.choose-requires
choose-requires g c =
    let reach : length c.args.table.now * sum c.args.table.now * greatest_factor c.args.plan.now.rule ≤ 2 ^ 62 =
    subst (λ (ws : List ℕ). length ws * sum ws * greatest_factor c.args.plan.now.rule ≤ 2 ^ 62) c.requires.weights c.requires.fits in
    let rule : c.args.plan.now.rule ≡ Plain = plain-rule c.args.plan.now.rule c.args.factors.now.typed c.in-Plain-default.is-0 c.requires.rule.typed in
    let fits : length c.args.table.now * sum c.args.table.now ≤ 2 ^ 62 = fits-one c.args.table.now c.args.plan.now.rule reach (rw rule greatest-plain) in
    let choice : IsChoice 1 c.args.table.now c.args.factors.now.one (all_zero c.len.result) (replicate c.len.result 0) None =
    rw c.requires.rule.one (choice-one c.args.table.now c.len.result c.len.ensures.value fits) in
    (search rules, (choice, (search rules, search rules)))

pub choose-requires-in-Node2vec-None : goal.choose-requires-in-Node2vec-None
choose-requires-in-Node2vec-None g c =
    let reach : length c.args.table.now * sum c.args.table.now * greatest_factor c.args.plan.now.rule ≤ 2 ^ 62 =
    subst (λ (ws : List ℕ). length ws * sum ws * greatest_factor c.args.plan.now.rule ≤ 2 ^ 62) c.requires.weights c.requires.fits in
    let by : IsNear c.args.plan.now.rule c.in-Node2vec-None.factors-0 = near-rule c.args.plan.now.rule c.args.factors.now.typed c.in-Node2vec-None.factors-0 c.in-Node2vec-None.is-0 c.requires.rule.typed in
    let fits : length c.args.table.now * sum c.args.table.now ≤ 2 ^ 62 = fits-one c.args.table.now c.args.plan.now.rule reach (rw by.rule (greatest-near by.p by.q by.above_p by.above_q)) in
    let choice : IsChoice 1 c.args.table.now c.args.factors.now.one (all_zero c.len-in-Node2vec-None.result) (replicate c.len-in-Node2vec-None.result 0) None =
    rw c.requires.rule.one (choice-one c.args.table.now c.len-in-Node2vec-None.result c.len-in-Node2vec-None.ensures.value fits) in
    (search rules, (choice, (search rules, search rules)))

pub choose-requires-in-Node2vec-Some : goal.choose-requires-in-Node2vec-Some
choose-requires-in-Node2vec-Some g c =
    let edges : List Edge = c.args.part.now.edges in
    let t : ℕ = c.in-Node2vec-Some.back in
    let fs : List ℕ = c.in-Node2vec-Some.factors in
    let reach : length c.args.table.now * sum c.args.table.now * greatest_factor c.args.plan.now.rule ≤ 2 ^ 62 =
    subst (λ (ws : List ℕ). length ws * sum ws * greatest_factor c.args.plan.now.rule ≤ 2 ^ 62) c.requires.weights c.requires.fits in
    let by : IsNear c.args.plan.now.rule fs = near-rule c.args.plan.now.rule c.args.factors.now.typed fs c.in-Node2vec-Some.is-0 c.requires.rule.typed in
    let same : c.dsts-in-Node2vec-Some-2.result.now ≡ c.dsts.result.now = c.dsts-in-Node2vec-Some-2.ensures.ends ∙ sym c.dsts.ensures.ends in
    let choice : IsChoice 3 c.args.table.now fs (known_of t c.dsts.result.now) (classes_to c.dsts-in-Node2vec-Some.result.now t c.dsts.result.now) (Some c.return_run.result) =
    choice-after edges c.args.plan.now c.args.s.at t fs c.args.table.now c.dsts.result.now c.dsts-in-Node2vec-Some.result.now c.return_run.result by c.requires.weights reach c.dsts.ensures.ends
    (c.return_run.ensures.run ∙ ap (λ (ds : List ℕ). strip_run fs ds t) same) c.return_run.ensures.order (rw same at c.return_run.ensures.within) in
    (search rules, (choice, (search rules, search rules)))

pub choose-requires-in-Scheme-default : goal.choose-requires-in-Scheme-default
choose-requires-in-Scheme-default g c =
    let reach : length c.args.table.now * sum c.args.table.now * greatest_factor c.args.plan.now.rule ≤ 2 ^ 62 =
    subst (λ (ws : List ℕ). length ws * sum ws * greatest_factor c.args.plan.now.rule ≤ 2 ^ 62) c.requires.weights c.requires.fits in
    let rule : (c.args.plan.now.rule ≡ Scheme c.in-Scheme-default.kinds.now) × (c.in-Scheme-default.factors ≡ 1 ∷ 0 ∷ []) =
    scheme-rule c.args.plan.now.rule c.args.factors.now.typed c.in-Scheme-default.kinds c.in-Scheme-default.factors c.in-Scheme-default.is-0 c.requires.rule.typed in
    let fits : length c.args.table.now * sum c.args.table.now ≤ 2 ^ 62 = fits-one c.args.table.now c.args.plan.now.rule reach (rw (rule.0) (greatest-scheme c.in-Scheme-default.kinds.now)) in
    let size : length (row c.args.part.now.edges c.args.s.at) ≡ length c.args.table.now =
    sym (length-weights_of c.args.plan.now.weighted (row c.args.part.now.edges c.args.s.at)) ∙ ap (λ (l : List ℕ). length l) c.requires.weights in
    let choice : IsChoice 2 c.args.table.now c.in-Scheme-default.factors (known_of_types c.wanted.result c.kinds.result.now) (classes_of_types c.wanted.result c.kinds.result.now) None =
    rw (rule.1) (choice-scheme c.args.table.now c.wanted.result c.kinds.result.now (row c.args.part.now.edges c.args.s.at) c.kinds.ensures size fits) in
    (search rules, (choice, (search rules, search rules)))

pub returns-in-Plain-default-clause-edge : goal.returns-in-Plain-default-clause-edge
returns-in-Plain-default-clause-edge g c =
    let edges : List Edge = c.args.part.now.edges in
    let out : List Edge = row edges c.args.s.at in
    let words : ℕ → ℕ = word c.args.reader.now.seed c.args.reader.now.walker in
    let ws : List ℕ = c.args.table.now in
    let count : ℕ = c.len.result in
    let size : count ≡ length out =
    c.len.ensures.value ∙ ap (λ (l : List ℕ). length l) (sym c.requires.weights) ∙ length-weights_of c.args.plan.now.weighted out in
    let rule : c.args.plan.now.rule ≡ Plain = plain-rule c.args.plan.now.rule c.args.factors.now.typed c.in-Plain-default.is-0 c.requires.rule.typed in
    c.choose.ensures.edge
    ∙ ap (λ (fs : List ℕ). darts c.args.left (board_by (class_board ws fs (all_zero count) None) (replicate count 0)) words c.args.reader.now.place) c.requires.rule.one
    ∙ one-plain c.args.left count edges c.args.plan.now c.args.s out ws words c.args.reader.now.place rule c.requires.weights size

pub returns-in-Node2vec-None-clause-edge : goal.returns-in-Node2vec-None-clause-edge
returns-in-Node2vec-None-clause-edge g c =
    let edges : List Edge = c.args.part.now.edges in
    let out : List Edge = row edges c.args.s.at in
    let words : ℕ → ℕ = word c.args.reader.now.seed c.args.reader.now.walker in
    let ws : List ℕ = c.args.table.now in
    let count : ℕ = c.len-in-Node2vec-None.result in
    let size : count ≡ length out =
    c.len-in-Node2vec-None.ensures.value ∙ ap (λ (l : List ℕ). length l) (sym c.requires.weights) ∙ length-weights_of c.args.plan.now.weighted out in
    let by : IsNear c.args.plan.now.rule c.in-Node2vec-None.factors-0 = near-rule c.args.plan.now.rule c.args.factors.now.typed c.in-Node2vec-None.factors-0 c.in-Node2vec-None.is-0 c.requires.rule.typed in
    c.choose-in-Node2vec-None.ensures.edge
    ∙ ap (λ (fs : List ℕ). darts c.args.left (board_by (class_board ws fs (all_zero count) None) (replicate count 0)) words c.args.reader.now.place) c.requires.rule.one
    ∙ one-first c.args.left count edges c.args.plan.now c.args.s by.p by.q out ws words c.args.reader.now.place by.rule c.in-Node2vec-None.is-1 c.requires.weights size

pub returns-in-Node2vec-Some-clause-edge : goal.returns-in-Node2vec-Some-clause-edge
returns-in-Node2vec-Some-clause-edge g c =
    let edges : List Edge = c.args.part.now.edges in
    let out : List Edge = row edges c.args.s.at in
    let words : ℕ → ℕ = word c.args.reader.now.seed c.args.reader.now.walker in
    let t : ℕ = c.in-Node2vec-Some.back in
    let dsts : List ℕ = c.dsts.result.now in
    let before : List ℕ = c.dsts-in-Node2vec-Some.result.now in
    let run : ℕ × ℕ = c.return_run.result in
    let same : c.dsts-in-Node2vec-Some-2.result.now ≡ dsts = c.dsts-in-Node2vec-Some-2.ensures.ends ∙ sym c.dsts.ensures.ends in
    let by : IsNear c.args.plan.now.rule c.in-Node2vec-Some.factors = near-rule c.args.plan.now.rule c.args.factors.now.typed c.in-Node2vec-Some.factors c.in-Node2vec-Some.is-0 c.requires.rule.typed in
    c.choose-in-Node2vec-Some.ensures.edge
    ∙ ap (λ (fs : List ℕ). darts c.args.left (board_by (class_board c.args.table.now fs (known_of t dsts) (Some run)) (classes_to before t dsts)) words c.args.reader.now.place) by.factors
    ∙ three-near c.args.left edges c.args.plan.now c.args.s by.p by.q t dsts before run out c.args.table.now words c.args.reader.now.place by.rule c.in-Node2vec-Some.is-1
    c.requires.weights c.dsts.ensures.ends c.dsts-in-Node2vec-Some.ensures.ends
    (c.return_run.ensures.run ∙ ap (λ (ds : List ℕ). strip_run c.in-Node2vec-Some.factors ds t) same ∙ ap (λ (fs : List ℕ). strip_run fs dsts t) by.factors)

pub returns-in-Scheme-default-clause-edge : goal.returns-in-Scheme-default-clause-edge
returns-in-Scheme-default-clause-edge g c =
    let edges : List Edge = c.args.part.now.edges in
    let out : List Edge = row edges c.args.s.at in
    let words : ℕ → ℕ = word c.args.reader.now.seed c.args.reader.now.walker in
    let rule : (c.args.plan.now.rule ≡ Scheme c.in-Scheme-default.kinds.now) × (c.in-Scheme-default.factors ≡ 1 ∷ 0 ∷ []) =
    scheme-rule c.args.plan.now.rule c.args.factors.now.typed c.in-Scheme-default.kinds c.in-Scheme-default.factors c.in-Scheme-default.is-0 c.requires.rule.typed in
    let w : ℕ = c.wanted.result in
    let kinds : List ℕ = c.kinds.result.now in
    c.choose-in-Scheme-default.ensures.edge
    ∙ ap (λ (fs : List ℕ). darts c.args.left (board_by (class_board c.args.table.now fs (known_of_types w kinds) None) (classes_of_types w kinds)) words c.args.reader.now.place) (rule.1)
    ∙ two-scheme c.args.left edges c.args.plan.now c.args.s c.in-Scheme-default.kinds.now w kinds out c.args.table.now words c.args.reader.now.place (rule.0) c.wanted.ensures c.requires.weights c.kinds.ensures

pub return_run-requires : goal.return_run-requires
return_run-requires g c =
    subst IsNonDecreasing (sym c.dsts-in-Node2vec-Some-2.ensures.ends) (row-rises c.args.part.now.edges c.args.s.at)

pub invariant_of-classes : goal.invariant_of-classes
invariant_of-classes g c = record {
  in_order = subst IsNonDecreasing (sym c.dsts-in-Node2vec-Some.ensures.ends) (row-rises c.args.part.now.edges c.in-Node2vec-Some.back);
}

pub returns-in-Plain-default-clause-ticks : goal.returns-in-Plain-default-clause-ticks
returns-in-Plain-default-clause-ticks g c =
    let edges : List Edge = c.args.part.now.edges in
    let out : List Edge = row edges c.args.s.at in
    let words : ℕ → ℕ = word c.args.reader.now.seed c.args.reader.now.walker in
    let ws : List ℕ = c.args.table.now in
    let count : ℕ = c.len.result in
    let size : count ≡ length out =
    c.len.ensures.value ∙ ap (λ (l : List ℕ). length l) (sym c.requires.weights) ∙ length-weights_of c.args.plan.now.weighted out in
    let rule : c.args.plan.now.rule ≡ Plain = plain-rule c.args.plan.now.rule c.args.factors.now.typed c.in-Plain-default.is-0 c.requires.rule.typed in
    c.choose.ensures.ticks
    ∙ ap (λ (fs : List ℕ). c.args.steps.now + columns c.args.left None (board_by (class_board ws fs (all_zero count) None) (replicate count 0)) words c.args.reader.now.place) c.requires.rule.one
    ∙ ap (λ n. c.args.steps.now + n)
    (ticks-plain c.args.left count edges c.args.plan.now c.args.s out ws words c.args.reader.now.place rule c.requires.weights size)

pub returns-in-Node2vec-None-clause-ticks : goal.returns-in-Node2vec-None-clause-ticks
returns-in-Node2vec-None-clause-ticks g c =
    let edges : List Edge = c.args.part.now.edges in
    let out : List Edge = row edges c.args.s.at in
    let words : ℕ → ℕ = word c.args.reader.now.seed c.args.reader.now.walker in
    let ws : List ℕ = c.args.table.now in
    let count : ℕ = c.len-in-Node2vec-None.result in
    let size : count ≡ length out =
    c.len-in-Node2vec-None.ensures.value ∙ ap (λ (l : List ℕ). length l) (sym c.requires.weights) ∙ length-weights_of c.args.plan.now.weighted out in
    let by : IsNear c.args.plan.now.rule c.in-Node2vec-None.factors-0 = near-rule c.args.plan.now.rule c.args.factors.now.typed c.in-Node2vec-None.factors-0 c.in-Node2vec-None.is-0 c.requires.rule.typed in
    c.choose-in-Node2vec-None.ensures.ticks
    ∙ ap (λ (fs : List ℕ). c.args.steps.now + columns c.args.left None (board_by (class_board ws fs (all_zero count) None) (replicate count 0)) words c.args.reader.now.place) c.requires.rule.one
    ∙ ap (λ n. c.args.steps.now + n)
    (ticks-first c.args.left count edges c.args.plan.now c.args.s by.p by.q out ws words c.args.reader.now.place by.rule c.in-Node2vec-None.is-1 c.requires.weights size)

pub returns-in-Node2vec-Some-clause-ticks : goal.returns-in-Node2vec-Some-clause-ticks
returns-in-Node2vec-Some-clause-ticks g c =
    let edges : List Edge = c.args.part.now.edges in
    let out : List Edge = row edges c.args.s.at in
    let words : ℕ → ℕ = word c.args.reader.now.seed c.args.reader.now.walker in
    let t : ℕ = c.in-Node2vec-Some.back in
    let dsts : List ℕ = c.dsts.result.now in
    let before : List ℕ = c.dsts-in-Node2vec-Some.result.now in
    let run : ℕ × ℕ = c.return_run.result in
    let same : c.dsts-in-Node2vec-Some-2.result.now ≡ dsts = c.dsts-in-Node2vec-Some-2.ensures.ends ∙ sym c.dsts.ensures.ends in
    let by : IsNear c.args.plan.now.rule c.in-Node2vec-Some.factors = near-rule c.args.plan.now.rule c.args.factors.now.typed c.in-Node2vec-Some.factors c.in-Node2vec-Some.is-0 c.requires.rule.typed in
    c.choose-in-Node2vec-Some.ensures.ticks
    ∙ ap (λ (fs : List ℕ). c.args.steps.now + columns c.args.left None (board_by (class_board c.args.table.now fs (known_of t dsts) (Some run)) (classes_to before t dsts)) words c.args.reader.now.place) by.factors
    ∙ ap (λ n. c.args.steps.now + n)
    (ticks-near c.args.left edges c.args.plan.now c.args.s by.p by.q t dsts before run out c.args.table.now words c.args.reader.now.place by.rule c.in-Node2vec-Some.is-1
    c.requires.weights c.dsts.ensures.ends c.dsts-in-Node2vec-Some.ensures.ends
    (c.return_run.ensures.run ∙ ap (λ (ds : List ℕ). strip_run c.in-Node2vec-Some.factors ds t) same ∙ ap (λ (fs : List ℕ). strip_run fs dsts t) by.factors))

pub returns-in-Scheme-default-clause-ticks : goal.returns-in-Scheme-default-clause-ticks
returns-in-Scheme-default-clause-ticks g c =
    let edges : List Edge = c.args.part.now.edges in
    let out : List Edge = row edges c.args.s.at in
    let words : ℕ → ℕ = word c.args.reader.now.seed c.args.reader.now.walker in
    let rule : (c.args.plan.now.rule ≡ Scheme c.in-Scheme-default.kinds.now) × (c.in-Scheme-default.factors ≡ 1 ∷ 0 ∷ []) =
    scheme-rule c.args.plan.now.rule c.args.factors.now.typed c.in-Scheme-default.kinds c.in-Scheme-default.factors c.in-Scheme-default.is-0 c.requires.rule.typed in
    let w : ℕ = c.wanted.result in
    let kinds : List ℕ = c.kinds.result.now in
    c.choose-in-Scheme-default.ensures.ticks
    ∙ ap (λ (fs : List ℕ). c.args.steps.now + columns c.args.left None (board_by (class_board c.args.table.now fs (known_of_types w kinds) None) (classes_of_types w kinds)) words c.args.reader.now.place) (rule.1)
    ∙ ap (λ n. c.args.steps.now + n)
    (ticks-scheme c.args.left edges c.args.plan.now c.args.s c.in-Scheme-default.kinds.now w kinds out c.args.table.now words c.args.reader.now.place (rule.0) c.wanted.ensures c.requires.weights c.kinds.ensures)
